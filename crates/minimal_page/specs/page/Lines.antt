-- The lines of some rows of the page of the state that the words hold, and their totals.
use Rattle.std.specs.Prelude.{◌≡◌, List, ℕ, suc, ◌-◌, ◌<◌, ◌≤◌}
use Rattle.definitions.specs.Limits.{document_01}
use Rattle.definitions.specs.Lists.{map, from, sum}
use Rattle.definitions.specs.Problem.{Bytes}
use Rattle.definitions.specs.Layout.{Words, decode}
use Rattle.definitions.specs.Pages.{all_columns, row_lines}
use Rattle.definitions.specs.Betti.{rows_in_use, all_rows}
use Rattle.definitions.specs.Minimal.{minimal_number}
use Rattle.definitions.specs.Places.{page_rows}
use Rattle.columns.specs.counting.Columns.{columns_of}

-- the number of row r and column c
abbrev pub number_of : Words → ℕ → ℕ → ℕ
number_of s r c = minimal_number (decode document_01 s) (columns_of s) r c

-- so many rows from row `low` on; shut, so that arithmetic does not look inside
unfoldable pub lines_from : Words → ℕ → ℕ → Bytes
lines_from s low n = row_lines (number_of s) (from low n)

-- the total of each column: "the sums of what is printed"
unfoldable pub totals_from : Words → ℕ → ℕ → List ℕ
totals_from s low n = map (λ c. sum (map (λ r. number_of s r c) (from low n))) all_columns

-- the rows of A1's page of the same state
pub record RowsOf (s : Words) (low high : ℕ) : Type 0 where
  pub rows : all_rows (rows_in_use 0 (columns_of s)) ≡ from low (suc high - low)
  pub ordered : low ≤ high
  pub few : high < page_rows
