use mathlib.Core.Path.{◌≡◌}
use Prim.Native.Nat.{◌-◌, ◌*◌, ◌≤◌}
use lib.ListN.{length}
use lib.Seq.{paste}
use Rattle.definitions.specs.Layout.{rows, rows_of}
use Rattle.definitions.specs.Places.{row_length}
use Rattle.state.proofs.writing.copy_rows.Given as goal

abbrev pub invariant-loop-j : goal.invariant-loop-j
invariant-loop-j l = (l.j ≤ l.v) × (length l.d ≡ length l.initial.d)
    × (l.d ≡ paste l.initial.d (l.used * row_length) (rows_of (rows l.value 0 l.j)) (l.j * row_length))
