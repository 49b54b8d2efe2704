use native.Mathlib.Omega.{arith}
use mathlib.Core.Path.{◌≡◌, refl}
use Prim.Native.Nat.{suc, ◌-◌, ◌*◌, ◌≤◌}
use lib.ListN.{length}
use Rattle.pages.specs.bytes.Printing.{Printed}
use Rattle.pages.proofs.bytes.Spelling.{nothing, after, spelled}
use Rattle.minimal_page.specs.page.Lines.{lines_from, totals_from}
use Rattle.minimal_page.proofs.page.Lines.{no_lines, lines_more, whole_page}
use Rattle.minimal_page.proofs.page.Totals.{no_totals, totals_more, totals_fit}
use Rattle.minimal_page.proofs.page.print_lines.Given as goal

abbrev pub invariant-loop-r : goal.invariant-loop-r
invariant-loop-r l =
    (l.low ≤ l.r) × (l.r ≤ suc l.high) × (length l.out ≡ length l.initial.out)
    × Printed l.initial.out l.out 0 l.at (lines_from l.state l.low (l.r - l.low)) × (l.at ≡ (l.r - l.low) * 73) × (l.totals ≡ totals_from l.state l.low (l.r - l.low))
