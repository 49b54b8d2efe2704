-- The page's lines one row after the other, and the line of the totals.
use mathlib.Core.Path.{◌≡◌, sym, ap, ◌∙◌}
use mathlib.Core.List.{List, [], ◌++◌}
use Prim.Native.Nat.{ℕ, suc, ◌+◌, ◌-◌, ◌≤◌}
use Rattle.definitions.specs.Limits.{document_01}
use Rattle.definitions.specs.Lists.{map, from, sum}
use Rattle.definitions.specs.Layout.{Words, decode}
use Rattle.definitions.specs.Pages.{cells, row_label, total_label, all_columns, row_lines}
use Rattle.definitions.specs.Minimal.{minimal_page}
use Rattle.columns.proofs.counting.Lines as rows
use Rattle.minimal_page.specs.page.Lines.{number_of, lines_from, totals_from, RowsOf}

module _ (s : Words) (low : ℕ) where
  pub no_lines : (n : ℕ) → n ≡ 0 → [] ≡ lines_from s low n
  unfolding lines_from
  no_lines n e = sym (ap (lines_from s low) e)

  pub lines_more : (r : ℕ) (numbers : List ℕ) → low ≤ r → numbers ≡ map (number_of s r) all_columns
      → lines_from s low (r - low) ++ (row_label r ++ cells numbers) ≡ lines_from s low (r + 1 - low)
  unfolding lines_from
  lines_more r numbers h e = rows.lines_more (number_of s) low r numbers h e

  pub whole_page : (high r : ℕ) (totals : List ℕ) → RowsOf s low high → r ≡ suc high → totals ≡ totals_from s low (r - low)
      → lines_from s low (r - low) ++ (total_label ++ cells totals) ≡ minimal_page (decode document_01 s)
  unfolding lines_from totals_from
  whole_page high r totals R e t =
      ap (λ v. row_lines (number_of s) (from low (r - low)) ++ (total_label ++ cells v)) t
      ∙ ap (λ rs. row_lines (number_of s) rs ++ (total_label ++ cells (map (λ c. sum (map (λ j. number_of s j c) rs)) all_columns)))
      (ap (λ i. from low (i - low)) e ∙ sym R.rows)
