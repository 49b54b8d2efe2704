use mathlib.Core.Path.{◌≡◌}
use Prim.Native.Nat.{◌-◌, ◌≤◌}
use Rattle.definitions.specs.Monomial.{product}
use Rattle.definitions.specs.Packed.{unpack}
use Rattle.lists.specs.Filling.{Filled}
use Rattle.orders.specs.Images.{exponents_raw}
use lib.ListN.{length, get_or}
use Rattle.orders.proofs.shifted.Given as goal

abbrev pub invariant-loop-j : goal.invariant-loop-j
invariant-loop-j l =
    (l.j ≤ 8) × (l.x ≡ unpack l.e) × (length l.w ≡ 8)
    × Filled (λ k. get_or (product (unpack l.e) (exponents_raw l.table l.at)) k 0) l.j l.w

abbrev pub decreases-loop-j : goal.decreases-loop-j
decreases-loop-j l = 8 - l.j
