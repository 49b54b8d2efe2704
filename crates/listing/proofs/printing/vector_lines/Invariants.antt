use native.Mathlib.Omega.{arith}
use mathlib.Core.Path.{◌≡◌, refl, ap, ◌∙◌}
use mathlib.Core.List.{◌++◌}
use Prim.Native.Nat.{suc, ◌+◌, ◌-◌, ◌*◌, ◌≤◌}
use lib.ListN.{length, get_or}
use Rattle.reducers.specs.tables.Cuts.{start_of, cut_level}
use Rattle.definitions.specs.Layout.{rows}
use Rattle.definitions.specs.Sheet.{s_lines, vector_lines}
use Rattle.definitions.specs.Places.{most_rows, s_line_length}
use Rattle.pages.specs.bytes.Printing.{Printed}
use Rattle.listing.proofs.printing.Listing.{vector_more}
use Rattle.pages.proofs.bytes.Spelling.{nothing, after, spelled}
use Rattle.listing.proofs.printing.vector_lines.Given as goal

abbrev pub invariant-loop-j : goal.invariant-loop-j
invariant-loop-j l =
    (l.j ≤ l.count) × (length l.out ≡ length l.initial.out) × (l.start ≡ start_of l.ends l.j)
    × (l.v ≡ l.j + 1) × Printed l.initial.out l.out l.at l.a (vector_lines l.n l.k 1 (cut_level l.j l.level l.ends)) × (l.a ≤ l.at + l.start * s_line_length) × (l.start ≤ most_rows)
