-- How large a carried degree can be in a sound state.
use mathlib.Core.List.{List, [], ◌∷◌}
use Prim.Native.Nat.{ℕ, suc, ◌+◌, ◌-◌, ◌*◌, ◌≤◌}
use native.Mathlib.Omega.{arith}
use lib.Dec.{T, eqb}
use lib.ListN.{length, drop, length-drop}
use Rattle.definitions.specs.Limits.{Limits}
use Rattle.definitions.specs.Monomial.{Level, fits?, vector_of}
use Rattle.definitions.specs.Stage.{highest}
use Rattle.definitions.specs.State.{State, sound?}
use Rattle.definitions.specs.Places.{most_exponent, most_degree}
use Rattle.laws.proofs.Tests.{and_right}
use Rattle.laws.proofs.Members.{All, all_drop}
use Rattle.laws.proofs.Sound.{sound_says}
use Rattle.laws.proofs.Heights.{eight_most, Low, low_of, levels_low, degree_most}
use Rattle.degrees.specs.Notions.{degree_at}

highest_low : (ls : List Level) → All (All Low) ls → All Low (highest ls)
highest_low [] h = tt
highest_low (f ∷ ls) h = h.0

pub carried_most : (lim : Limits) → lim.exponent ≤ most_exponent → (X : State) → T (sound? lim X) → (k v : ℕ)
    → degree_at X.parameters.degrees X.levels k v ≤ suc lim.levels * eight_most + most_degree
carried_most lim small X s k v =
    let S = sound_says lim X s in
    let ls = X.levels in
    let d = X.parameters.degrees in
    let h = levels_low lim small X.parameters ls S.levels in
    let j = length ls - suc k in
    let t = and_right (eqb (length d) X.parameters.s) (fits? most_degree d) S.degrees in
    let l = low_of (highest (drop j ls)) (highest_low (drop j ls) (all_drop (All Low) j ls h)) v in
    let a = degree_most d t (drop (suc j) ls) (all_drop (All Low) (suc j) ls h) (vector_of (highest (drop j ls)) v) l in
    let e = length-drop (suc j) ls in
    let g = S.height in
    omega (arith, a, e, g)
