-- A page of numbers by row and column, in lines of 72 bytes (request A1): a label of 6, columns 0 to 10 of 6 each.
use Rattle.std.specs.Prelude.{true, false, List, [], ◌∷◌, ◌++◌, ℕ, ◌-◌, ltb, eqb, length, replicate}
use Rattle.definitions.specs.Lists.{map, from, sum}
use Rattle.definitions.specs.Problem.{Bytes, newline}
use Rattle.definitions.specs.Sheet.{decimal}
use Rattle.definitions.specs.Places.{cell_length, page_columns, row_shift}

-- "all right-aligned"
abbrev pub right_aligned : Bytes → Bytes
right_aligned text = replicate (cell_length - length text) 32 ++ text

-- "a dash for zero"
abbrev pub cell : ℕ → Bytes
cell v = elim (eqb v 0) [ true ↦ right_aligned (45 ∷ []) | false ↦ right_aligned (decimal v) ]

abbrev pub cells : List ℕ → Bytes
cells [] = newline ∷ []
cells (v ∷ vs) = cell v ++ cells vs

-- "The row is the degree minus the column, so rows may be negative": rows are counted from −10, the number of the last column
abbrev pub row_number : ℕ → Bytes
row_number r = elim (ltb r row_shift) [ true ↦ 45 ∷ decimal (row_shift - r) | false ↦ decimal (r - row_shift) ]

-- "labelled by its number and a colon"
abbrev pub row_label : ℕ → Bytes
row_label r = right_aligned (row_number r ++ 58 ∷ [])

-- `total`
abbrev pub total_label : Bytes
total_label = right_aligned (116 ∷ 111 ∷ 116 ∷ 97 ∷ 108 ∷ [])

-- "columns 0 to 10"
abbrev pub all_columns : List ℕ
all_columns = from 0 page_columns

-- the numbers given by row and column
abbrev pub row_line : (ℕ → ℕ → ℕ) → ℕ → Bytes
row_line at r = row_label r ++ cells (map (at r) all_columns)

abbrev pub row_lines : (ℕ → ℕ → ℕ) → List ℕ → Bytes
row_lines at [] = []
row_lines at (r ∷ rs) = row_line at r ++ row_lines at rs

-- "and a last row `total`"
abbrev pub total_line : (ℕ → ℕ → ℕ) → List ℕ → Bytes
total_line at rs = total_label ++ cells (map (λ c. sum (map (λ r. at r c) rs)) all_columns)

abbrev pub page : (ℕ → ℕ → ℕ) → List ℕ → Bytes
page at rs = row_lines at rs ++ total_line at rs
