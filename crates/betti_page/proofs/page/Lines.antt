-- The page's lines one row after the other.
use mathlib.Core.Path.{◌≡◌, refl, sym, ap, ◌∙◌}
use mathlib.Core.List.{List, [], ◌++◌}
use Prim.Native.Nat.{ℕ, ◌+◌, ◌-◌, ◌≤◌}
use Rattle.definitions.specs.Limits.{document_01}
use Rattle.definitions.specs.Lists.{map, from}
use Rattle.definitions.specs.Layout.{Words, decode}
use Rattle.definitions.specs.Pages.{cells, row_label, total_label, all_columns, row_lines}
use Rattle.definitions.specs.Betti.{rows_in_use, all_rows, betti_count, betti_page}
use Rattle.columns.specs.counting.Columns.{columns_of, totals_of}
use Rattle.columns.proofs.counting.Lines as rows
use Rattle.betti_page.specs.page.Rows.{lines_from}

pub no_lines : (s : Words) (low : ℕ) → [] ≡ lines_from s low 0
unfolding lines_from
no_lines s low = refl

pub no_rows_yet : (s : Words) (low n : ℕ) → n ≡ 0 → [] ≡ lines_from s low n
no_rows_yet s low n e = no_lines s low ∙ sym (ap (lines_from s low) e)

pub lines_more : (s : Words) (low r : ℕ) (counts : List ℕ) → low ≤ r → counts ≡ map (betti_count (columns_of s) r) all_columns
    → lines_from s low (r - low) ++ (row_label r ++ cells counts) ≡ lines_from s low (r + 1 - low)
unfolding lines_from
lines_more s low r counts h e = rows.lines_more (betti_count (columns_of s)) low r counts h e

pub whole_page : (s : Words) (low n : ℕ) (totals : List ℕ) → all_rows (rows_in_use 0 (columns_of s)) ≡ from low n
    → totals ≡ map (totals_of (columns_of s)) all_columns → lines_from s low n ++ (total_label ++ cells totals) ≡ betti_page (decode document_01 s)
unfolding lines_from
whole_page s low n totals e t =
    sym (ap (λ rs. row_lines (betti_count (columns_of s)) rs ++ (total_label ++ cells totals)) e)
    ∙ ap (λ v. row_lines (betti_count (columns_of s)) (all_rows (rows_in_use 0 (columns_of s))) ++ (total_label ++ cells v)) t
