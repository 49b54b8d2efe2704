use native.Mathlib.Omega.{arith}
use mathlib.Core.Path.{◌≡◌, refl, sym, ap, ◌∙◌}
use mathlib.Core.List.{◌++◌}
use Prim.Native.Nat.{◌+◌, ◌-◌, ◌*◌, ◌≤◌}
use lib.ListN.{length}
use Rattle.laws.proofs.Rows.{rows_last}
use Rattle.definitions.specs.Layout.{row_at, rows}
use Rattle.definitions.specs.Sheet.{printed, term_fields}
use Rattle.definitions.specs.Places.{w_line_length}
use Rattle.pages.specs.bytes.Printing.{Printed}
use Rattle.listing.specs.printing.Lines.{term_lines}
use Rattle.listing.proofs.printing.Listing.{term_lines_last}
use Rattle.pages.proofs.bytes.Spelling.{nothing, after, spelled}
use Rattle.listing.proofs.printing.Listing.{no_rows}
use Rattle.listing.proofs.printing.term_lines.Given as goal

abbrev pub invariant-loop-i : goal.invariant-loop-i
invariant-loop-i l =
    (l.i ≤ l.m) × (length l.out ≡ length l.initial.out) × Printed l.initial.out l.out l.at l.a (term_lines l.letter l.n (rows l.s 0 l.i))
    × (l.a ≤ l.at + l.i * w_line_length)
