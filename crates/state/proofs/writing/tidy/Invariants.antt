use Prim.Native.Nat.{◌-◌, ◌≤◌}
use Rattle.state.specs.writing.Zeroed.{TidiedTo}
use Rattle.state.proofs.writing.tidy.Given as goal

abbrev pub invariant-loop-k : goal.invariant-loop-k
invariant-loop-k l = (l.k ≤ l.h) × TidiedTo l.initial.state l.state l.k
