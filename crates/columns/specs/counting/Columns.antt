-- The columns of the state that the words hold.
use Rattle.std.specs.Prelude.{◌≡◌, Bool, true, false, List, [], ℕ, suc, ◌≤◌, length, get_or, take, drop}
use Rattle.definitions.specs.Limits.{document_01}
use Rattle.definitions.specs.Layout.{Words, decode}
use Rattle.definitions.specs.Lists.{map, sum}
use Rattle.definitions.specs.Betti.{column_degrees, rows_in_use, all_rows, betti_count}
use Rattle.definitions.specs.Places.{most_vectors}
use Rattle.state.specs.degrees.Carrying.{under_place}

-- the degrees of each
abbrev pub columns_of : Words → List (List ℕ)
columns_of s = column_degrees (decode document_01 s)

-- .. of column c, none where there is no such column
abbrev pub column_of : Words → ℕ → List ℕ
column_of s c = get_or (columns_of s) c []

-- column c has so many, and they stand here
pub record Stands (s : Words) (c r : ℕ) : Type 0 where
  pub words : take r (drop (under_place c) s) ≡ column_of s c
  pub long : r ≡ length (column_of s c)
  pub few : r ≤ most_vectors

-- one more where the test holds
abbrev pub counted : Bool → ℕ → ℕ
counted true k = suc k
counted false k = k

-- the total of column c over all rows
abbrev pub totals_of : List (List ℕ) → ℕ → ℕ
totals_of cs c = sum (map (λ r. betti_count cs r c) (all_rows (rows_in_use 0 cs)))
