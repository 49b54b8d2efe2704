use Prim.Native.Nat.{◌-◌, ◌≤◌}
use Rattle.state.specs.writing.Zeroed.{CarriedTo}
use Rattle.state.proofs.writing.tidy_carried.Given as goal

abbrev pub invariant-loop-k : goal.invariant-loop-k
invariant-loop-k l = (l.k ≤ l.h) × CarriedTo l.initial.state l.state l.k
