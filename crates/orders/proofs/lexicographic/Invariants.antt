use mathlib.Core.Path.{◌≡◌}
use Prim.Native.Nat.{◌≤◌}
use lib.ListN.{length, drop}
use Rattle.definitions.specs.Order.{lexicographic}
use Rattle.orders.proofs.lexicographic.Given as goal

abbrev pub invariant-loop-j : goal.invariant-loop-j
invariant-loop-j l = (l.j ≤ 8) × (length l.x ≡ 8) × (length l.y ≡ 8) × (lexicographic l.x l.y ≡ lexicographic (drop l.j l.x) (drop l.j l.y))
