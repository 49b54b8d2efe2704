-- What is lent of the state to weigh a level: its words from the level's rows on, from the ends of its vectors on, from the degrees below on.
use mathlib.Core.Path.{◌≡◌, sym, ap, ◌∙◌, subst}
use mathlib.Core.List.{[], ◌++◌}
use Prim.Native.Nat.{ℕ, suc, ◌+◌, ◌-◌, ◌<◌, ◌≤◌}
use native.Mathlib.Omega.{arith}
use lib.ListN.{length, take, drop}
use lib.Seq.{paste, take_all}
use Rattle.definitions.specs.Limits.{document_01}
use Rattle.definitions.specs.Degrees.{degrees_of}
use Rattle.definitions.specs.Layout.{Words, level_at}
use Rattle.definitions.specs.Places.{most_vectors, all_levels, state_length, count_offset, ends_offset, rows_offset, carried_offset}
use Rattle.laws.proofs.RoundTrip.{length_degrees}
use Rattle.reducers.specs.tables.Cuts.{cut_level, Light}
use Rattle.state.specs.soundness.Places.{count_at}
use Rattle.state.specs.preparing.Prepared.{components_at}
use Rattle.state.specs.degrees.Carrying.{under_place, under_from, under_at, weighed_at, Weighable, with_carried}
use Rattle.state.proofs.soundness.VectorByVector.{whole_part}
use Rattle.state.proofs.soundness.StateTests.{level_count}

pub weighed_parts : (s : Words) (k r n b : ℕ) → r ≡ count_at s k → n ≡ components_at s k → b ≡ under_place k
    → degrees_of (take n (take (length s - b) (drop b s))) [] (cut_level r (take (length s - (rows_offset k)) (drop (rows_offset k) s))
    (take (length s - (ends_offset k)) (drop (ends_offset k) s))) ≡ weighed_at s k
weighed_parts s k r n b er en eb =
    let z : ends_offset k ≡ suc (count_offset k) = omega arith in
    λ i. degrees_of (take (en i) ((whole_part b s ∙ ap (λ m. drop m s) eb) i)) []
    (cut_level (er i) (whole_part (rows_offset k) s i) ((whole_part (ends_offset k) s ∙ ap (λ m. drop m s) z) i))

pub light_part : (s : Words) (k n b : ℕ) → n ≡ components_at s k → b ≡ under_place k → Light (components_at s k) (under_from s k)
    → Light n (take (length s - b) (drop b s))
light_part s k n b en eb l =
    subst (λ m. Light m (take (length s - b) (drop b s))) (sym en)
    (subst (Light (components_at s k)) (sym (whole_part b s ∙ ap (λ m. drop m s) eb)) l)

pub length_weighed : (s : Words) (k : ℕ) → state_length ≤ length s → k < all_levels → count_at s k ≤ most_vectors → length (weighed_at s k) ≡ count_at s k
length_weighed s k long h m = length_degrees (under_at s k) [] (level_at document_01 s k) ∙ level_count s long k h m

-- the degrees copied from another slice
pub carried_copied : (s d : Words) (k r : ℕ) → Weighable s k → r ≡ count_at s k → take (count_at s k) d ≡ weighed_at s k
    → paste s (carried_offset k) d r ≡ with_carried s k
carried_copied s d k r w er e =
    let n = length_weighed s k w.long w.level w.few in
    ap (paste s (carried_offset k) d) er
    ∙ (λ i. take (carried_offset k) s ++ (e ∙ sym (take_all (count_at s k) (weighed_at s k) (omega (arith, n)))) i
    ++ drop (carried_offset k + count_at s k) s)
