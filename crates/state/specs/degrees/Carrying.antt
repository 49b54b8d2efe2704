-- The degrees that a state's levels carry (A5), each found from what stands with the level below.
use Rattle.std.specs.Prelude.{Bool, true, [], ℕ, zero, suc, ◌<◌, ◌≤◌, length, take, drop}
use Rattle.std.proofs.Math.Seq.{paste}
use Rattle.definitions.specs.Limits.{document_01}
use Rattle.definitions.specs.Lists.{◌and◌}
use Rattle.definitions.specs.Monomial.{same_exponents?}
use Rattle.definitions.specs.Degrees.{degrees_of, carried}
use Rattle.definitions.specs.Layout.{Words, degrees_place, carried_place, degrees_at, level_at, levels_at, carries?}
use Rattle.definitions.specs.Places.{most_vectors, all_levels, state_length}
use Rattle.reducers.specs.tables.Cuts.{Cut, Light}
use Rattle.state.specs.soundness.Places.{count_at, rows_from, ends_from}
use Rattle.state.specs.preparing.Prepared.{components_at}

-- where the degrees of level k's components stand: behind all rows for level 0, else with the level below
abbrev pub under_place : ℕ → ℕ
under_place zero = degrees_place document_01
under_place (suc k) = carried_place document_01 k

abbrev pub under_from : Words → ℕ → Words
under_from s k = drop (under_place k) s

abbrev pub under_at : Words → ℕ → Words
under_at s k = take (components_at s k) (under_from s k)

-- where level k's own degrees stand
abbrev pub carried_from : Words → ℕ → Words
carried_from s k = drop (carried_place document_01 k) s

-- the degrees of level k's vectors, over what stands with the level below
abbrev pub weighed_at : Words → ℕ → Words
weighed_at s k = degrees_of (under_at s k) [] (level_at document_01 s k)

abbrev pub level_carries? : Words → ℕ → Bool
level_carries? s k = same_exponents? (take (count_at s k) (carried_from s k)) (weighed_at s k)

-- levels 0 to k − 1
abbrev pub levels_carry? : Words → ℕ → Bool
levels_carry? s zero = true
levels_carry? s (suc k) = levels_carry? s k and level_carries? s k

-- "at every level the carried degree is the degree of its leading term's image", on levels 0 to k − 1
abbrev pub carried_right? : Words → ℕ → Bool
carried_right? s k = carries? document_01 s (carried (degrees_at document_01 s) (levels_at document_01 s k))

-- level k's degrees written
abbrev pub with_carried : Words → ℕ → Words
with_carried s k = paste s (carried_place document_01 k) (weighed_at s k) (count_at s k)

-- level k can be weighed: its vectors can be cut out, and what stands with the level below is light
pub record Weighable (s : Words) (k : ℕ) : Type 0 where
  pub long : state_length ≤ length s
  pub level : k < all_levels
  pub few : count_at s k ≤ most_vectors
  pub components : components_at s k ≤ most_vectors
  pub cut : Cut (count_at s k) (rows_from s k) (ends_from s k)
  pub light : Light (components_at s k) (under_from s k)
