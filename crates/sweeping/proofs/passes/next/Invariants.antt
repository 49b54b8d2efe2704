use Rattle.sweeping.specs.Visits.{Skips}
use Prim.Native.Nat.{◌≤◌}
use Rattle.sweeping.proofs.passes.next.Given as goal

abbrev pub invariant-loop-x : goal.invariant-loop-x
invariant-loop-x l = (l.x ≤ l.n) × Skips l.from l.x l.sums
