-- The search for a row's first column that is not zero, word by word.
use mathlib.Core.Path.{◌≡◌, ap, ap₂, ◌∙◌}
use mathlib.Core.Bool.{Bool, true, false}
use mathlib.Core.Option.{Option, none, some}
use mathlib.Core.List.{List, ◌∷◌}
use Prim.Native.Nat.{ℕ, suc, ◌+◌, ◌%◌, ◌≤◌, ◌<◌}
use native.Mathlib.Omega.{arith}
use borrow.Author.Tests.{eq-eqb, ne_eqb}
use lib.ListN.{length, get_or, drop, drop_of_length-le}
use lib.Seq.{drop-cons}
use Rattle.definitions.specs.Rank.{Row}
use Rattle.ranks.specs.Elimination.{pivot_from}
use Rattle.constants.specs.elimination.Rows.{row_words}
use Rattle.constants.proofs.elimination.Words.{length_row, row_word}

module _ (p : ℕ) (s : List ℕ) (a n j : ℕ) (room : a + n ≤ length s) where
  abbrev row : Row
  row = row_words s a n

  row_drop : j < n → drop j row ≡ get_or s (a + j) 0 ∷ drop (j + 1) row
  row_drop h =
      let e : suc j ≡ j + 1 = omega arith in
      drop-cons row j 0 (omega (arith, length_row s a n room, h)) ∙ ap₂ {C = List ℕ} (λ x i. x ∷ drop i row) (row_word s a n j h) e

  abbrev from_here : Bool → Option ℕ
  from_here b = elim b [ true ↦ pivot_from p (suc j) (drop (j + 1) row) | false ↦ some j ]

  pub pivot_here : j < n → (get_or s (a + j) 0 % p ≡ 0 → ⊥) → pivot_from p j (drop j (row_words s a n)) ≡ some j
  pivot_here h k = ap (pivot_from p j) (row_drop h) ∙ ap from_here (ne_eqb (get_or s (a + j) 0 % p) 0 k)

  pub pivot_on : j < n → get_or s (a + j) 0 % p ≡ 0 → pivot_from p j (drop j (row_words s a n)) ≡ pivot_from p (j + 1) (drop (j + 1) (row_words s a n))
  pivot_on h k =
      let e : suc j ≡ j + 1 = omega arith in
      ap (pivot_from p j) (row_drop h) ∙ ap from_here (eq-eqb (get_or s (a + j) 0 % p) 0 k) ∙ ap (λ i. pivot_from p i (drop (j + 1) row)) e

  pub pivot_none : n ≤ j → pivot_from p j (drop j (row_words s a n)) ≡ none
  pivot_none h =
      let past : length row ≤ j = omega (arith, length_row s a n room, h) in
      ap (pivot_from p j) (drop_of_length-le row past)
