use native.Mathlib.Omega.{arith}
use mathlib.Core.Path.{◌≡◌, refl, ap}
use Prim.Native.Nat.{suc, ◌-◌, ◌*◌, ◌≤◌}
use lib.ListN.{length}
use Rattle.pages.specs.bytes.Printing.{Printed}
use Rattle.pages.proofs.bytes.Spelling.{nothing, after, spelled}
use Rattle.betti_page.specs.page.Rows.{lines_from}
use Rattle.betti_page.proofs.page.Lines.{no_rows_yet, lines_more}
use Rattle.betti_page.proofs.page.print_rows.Given as goal

abbrev pub invariant-loop-r : goal.invariant-loop-r
invariant-loop-r l =
    (l.low ≤ l.r) × (l.r ≤ suc l.high) × (length l.out ≡ length l.initial.out)
    × Printed l.initial.out l.out 0 l.at (lines_from l.state l.low (l.r - l.low)) × (l.at ≡ (l.r - l.low) * 73)
