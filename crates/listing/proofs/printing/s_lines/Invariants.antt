use native.Mathlib.Omega.{arith}
use mathlib.Core.Path.{◌≡◌, refl, sym, ap, ◌∙◌}
use mathlib.Core.List.{◌∷◌, ◌++◌}
use Prim.Native.Nat.{◌+◌, ◌-◌, ◌*◌, ◌≤◌}
use lib.ListN.{length}
use Rattle.laws.proofs.Rows.{rows_last}
use Rattle.vectors.specs.terms.Rows.{term_of}
use Rattle.definitions.specs.Layout.{row_at, rows}
use Rattle.definitions.specs.Sheet.{printed, term_fields, letter_S, s_lines}
use Rattle.definitions.specs.Places.{s_line_length}
use Rattle.pages.specs.bytes.Printing.{Printed}
use Rattle.listing.proofs.printing.Listing.{s_lines_last}
use Rattle.pages.proofs.bytes.Spelling.{nothing, after, spelled}
use Rattle.listing.proofs.printing.Listing.{no_rows}
use Rattle.listing.proofs.printing.s_lines.Given as goal

abbrev pub invariant-loop-i : goal.invariant-loop-i
invariant-loop-i l =
    (l.from ≤ l.i) × (l.i ≤ l.to) × (length l.out ≡ length l.initial.out)
    × Printed l.initial.out l.out l.at l.a (s_lines l.n l.k l.v (rows l.level l.from (l.i - l.from))) × (l.a ≤ l.at + (l.i - l.from) * s_line_length)
