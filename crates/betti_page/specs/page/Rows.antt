-- The lines of some rows of the page of the state that the words hold.
use Rattle.std.specs.Prelude.{ℕ}
use Rattle.definitions.specs.Lists.{from}
use Rattle.definitions.specs.Problem.{Bytes}
use Rattle.definitions.specs.Layout.{Words}
use Rattle.definitions.specs.Pages.{row_lines}
use Rattle.definitions.specs.Betti.{betti_count}
use Rattle.columns.specs.counting.Columns.{columns_of}

-- so many rows from row `low` on; shut, so that arithmetic does not look inside
unfoldable pub lines_from : Words → ℕ → ℕ → Bytes
lines_from s low n = row_lines (betti_count (columns_of s)) (from low n)
