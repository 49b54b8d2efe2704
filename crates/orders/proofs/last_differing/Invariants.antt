use mathlib.Core.Path.{◌≡◌}
use Prim.Native.Nat.{◌≤◌}
use lib.ListN.{length}
use Rattle.orders.proofs.Comparing.{EqualFrom}
use Rattle.orders.proofs.last_differing.Given as goal

abbrev pub invariant-loop-j : goal.invariant-loop-j
invariant-loop-j l = (l.j ≤ 8) × (length l.x ≡ 8) × (length l.y ≡ 8) × EqualFrom l.j l.x l.y
