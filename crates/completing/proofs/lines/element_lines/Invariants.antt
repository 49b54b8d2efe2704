use native.Mathlib.Omega.{arith}
use mathlib.Core.Path.{◌≡◌, refl, sym, ap, ◌∙◌}
use mathlib.Core.List.{◌∷◌, ◌++◌}
use Prim.Native.Nat.{◌+◌, ◌-◌, ◌*◌, ◌≤◌}
use lib.ListN.{length}
use Rattle.laws.proofs.Rows.{rows_last}
use Rattle.definitions.specs.Field.{times}
use Rattle.definitions.specs.Problem.{letter_T}
use Rattle.definitions.specs.Reckoning.{scaled}
use Rattle.definitions.specs.Layout.{row_at, rows}
use Rattle.definitions.specs.Sheet.{printed, term_fields}
use Rattle.definitions.specs.Written.{element_lines}
use Rattle.definitions.specs.Places.{t_line_length}
use Rattle.pages.specs.bytes.Printing.{Printed}
use Rattle.pages.proofs.bytes.Spelling.{nothing, after, spelled}
use Rattle.listing.proofs.printing.Listing.{no_rows}
use Rattle.completing.proofs.lines.Lines.{element_last}
use Rattle.completing.proofs.lines.element_lines.Given as goal

abbrev pub invariant-loop-i : goal.invariant-loop-i
invariant-loop-i l =
    (l.i ≤ l.m) × (length l.out ≡ length l.initial.out)
    × Printed l.initial.out l.out l.at l.a (element_lines l.n l.element (scaled l.p l.c (rows l.s 0 l.i))) × (l.a ≤ l.at + l.i * t_line_length)
