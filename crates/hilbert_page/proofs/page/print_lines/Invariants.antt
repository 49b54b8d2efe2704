use native.Mathlib.Omega.{arith}
use mathlib.Core.Path.{◌≡◌, refl}
use Prim.Native.Nat.{◌-◌, ◌*◌, ◌≤◌}
use lib.ListN.{length}
use Rattle.pages.specs.bytes.Printing.{Printed}
use Rattle.pages.proofs.bytes.Spelling.{nothing, after, spelled}
use Rattle.hilbert_page.specs.page.Lines.{lines_below}
use Rattle.hilbert_page.proofs.page.Lines.{no_lines, lines_more, all_lines}
use Rattle.hilbert_page.proofs.page.print_lines.Given as goal

abbrev pub invariant-loop-d : goal.invariant-loop-d
invariant-loop-d l = (l.d ≤ 33) × (length l.out ≡ length l.initial.out) × Printed l.initial.out l.out 0 l.at (lines_below l.state l.d) × (l.at ≤ l.d * 29)
