use mathlib.Core.Path.{◌≡◌}
use Prim.Native.Nat.{◌≤◌}
use lib.ListN.{length}
use Rattle.definitions.specs.Places.{marks_length}
use Rattle.constants.proofs.marking.Columnwise.{MarkedTo}
use Rattle.constants.proofs.marking.mark_columns.Given as goal

abbrev pub invariant-loop-k : goal.invariant-loop-k
invariant-loop-k l = (l.k ≤ l.levels) × (length l.marks ≡ marks_length) × MarkedTo l.state l.k l.marks
