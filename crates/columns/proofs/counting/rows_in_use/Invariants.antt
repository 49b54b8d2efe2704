use Prim.Native.Nat.{◌≤◌}
use Rattle.columns.proofs.counting.Ranges.{SoFar}
use Rattle.columns.proofs.counting.rows_in_use.Given as goal

abbrev pub invariant-loop-c : goal.invariant-loop-c
invariant-loop-c l = (l.c ≤ 11) × SoFar l.state l.first l.c l.low l.high
