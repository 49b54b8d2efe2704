use mathlib.Core.Path.{◌≡◌}
use Prim.Native.Nat.{◌+◌, ◌*◌, ◌≤◌}
use lib.ListN.{length, take}
use Rattle.pages.specs.bytes.Printing.{Printed}
use Rattle.pages.proofs.lines.Lining.{celled}
use Rattle.definitions.specs.Places.{cell_length}
use Rattle.pages.proofs.lines.cells.Given as goal

abbrev pub invariant-loop-count : goal.invariant-loop-count
invariant-loop-count l = (l.count-index ≤ 11) × (length l.out ≡ length l.initial.out) × Printed l.initial.out l.out l.at l.a (celled (take l.count-index l.count-items)) ×
    (l.a ≡ l.at + l.count-index * cell_length)
