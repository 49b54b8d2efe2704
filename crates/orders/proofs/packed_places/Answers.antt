use native.Mathlib.Omega.{arith}
use mathlib.Core.Path.{◌≡◌, sym, ◌∙◌}
use Prim.Native.Nat.{ℕ, ◌<◌, ◌≤◌}
use Rattle.definitions.specs.Packed.{unpack}
use Rattle.laws.proofs.Packing.{bytes_of}
use Rattle.orders.proofs.CodeParts.{places_first, places_last}
use Rattle.orders.proofs.Comparing.{cmp_is}
use Rattle.orders.proofs.PackedOrder.{lexicographic_packed, last_differing_packed}
use Rattle.orders.proofs.packed_places.Goals as goal

pub returns-in-1 : goal.returns-in-1
returns-in-1 c =
    let a = c.args in
    cmp_is c.cmp.result a.x a.y c.cmp.ensures
    ∙ lexicographic_packed a.x a.y (bytes_of a.x (omega arith)) (bytes_of a.y (omega arith))
    ∙ sym (places_first a.code (unpack a.x) (unpack a.y) (omega arith) (omega arith))

pub returns-in_default : goal.returns-in_default
returns-in_default c =
    let a = c.args in
    let u = c.swapped in
    let v = c.swapped-in_default in
    let n : (k : ℕ) → 1 ≤ k → k < 3 → a.code ≡ k → ⊥ = λ k h l q. omega arith in
    cmp_is c.cmp-in_default.result u.result v.result c.cmp-in_default.ensures
    ∙ last_differing_packed a.x a.y u.result v.result (bytes_of a.x (omega arith)) (bytes_of a.y (omega arith))
    (bytes_of u.result (omega arith)) (bytes_of v.result (omega arith)) u.ensures v.ensures
    ∙ sym (places_last a.code (unpack a.x) (unpack a.y) (n 1 (omega arith) (omega arith)) (n 2 (omega arith) (omega arith)))
