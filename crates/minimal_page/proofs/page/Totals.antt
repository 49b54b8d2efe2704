-- Totals of rows one after the other, and that they fit.
use mathlib.Core.Path.{◌≡◌, sym, ap, ◌∙◌, subst}
use mathlib.Core.List.{List}
use Prim.Native.Nat.{ℕ, zero, suc, ◌+◌, ◌-◌, ◌<◌, ◌≤◌}
use native.Mathlib.Omega.{arith}
use lib.Dec.{T}
use lib.ListN.{get_or, replicate}
use Rattle.lists.specs.Filling.{filled_list}
use Rattle.definitions.specs.Limits.{document_01}
use Rattle.definitions.specs.Lists.{map, from, sum}
use Rattle.definitions.specs.Layout.{Words, decode, holds_state?}
use Rattle.definitions.specs.Pages.{all_columns}
use Rattle.definitions.specs.Places.{most_vectors, page_columns}
use Rattle.minimal_numbers.proofs.Pages.{numbers_few}
use Rattle.state.proofs.preparing.Complete.{holds_sound}
use Rattle.columns.proofs.counting.Counts.{at_column}
use Rattle.minimal_page.specs.numbers.Marks.{Fit, Added}
use Rattle.minimal_page.specs.page.Lines.{number_of, totals_from, RowsOf}

-- ## Sums over rows

sum_last : (f : ℕ → ℕ) (a n : ℕ) → sum (map f (from a (suc n))) ≡ sum (map f (from a n)) + f (a + n)
sum_last f a zero = let z : a ≡ a + 0 = omega arith in let e = ap f z in omega (arith, e)
sum_last f a (suc n) =
    let e : f (suc a + n) ≡ f (a + suc n) = ap f (omega arith) in
    let i = sum_last f (suc a) n in
    omega (arith, e, i)

sum_longer : (f : ℕ → ℕ) (a n k : ℕ) → n ≤ k → sum (map f (from a n)) ≤ sum (map f (from a k))
sum_longer f a zero k h = omega arith
sum_longer f a (suc n) zero h = absurd (omega arith)
sum_longer f a (suc n) (suc k) h = let i = sum_longer f (suc a) n k (omega arith) in omega (arith, i)

-- ## Totals

module _ (s : Words) (low : ℕ) where
  abbrev total : ℕ → ℕ → ℕ
  total n c = sum (map (λ r. number_of s r c) (from low n))

  at_total : (totals : List ℕ) (n c : ℕ) → c < page_columns → totals ≡ totals_from s low n → get_or totals c 0 ≡ total n c
  unfolding totals_from
  at_total totals n c h e = ap (λ l. get_or l c 0) e ∙ sym (at_column (total n) c h)

  pub no_totals : (n : ℕ) → n ≡ 0 → replicate page_columns 0 ≡ totals_from s low n
  unfolding totals_from
  no_totals n e = sym (ap (totals_from s low) e)

  module _ (totals row : List ℕ) (r : ℕ) (h : low ≤ r) (so_far : totals ≡ totals_from s low (r - low))
      (numbers : row ≡ map (number_of s r) all_columns) where
    with_row : (c : ℕ) → c < page_columns → get_or totals c 0 + get_or row c 0 ≡ total (suc (r - low)) c
    with_row c l =
        let a = at_total totals (r - low) c l so_far in
        let b = ap (λ z. get_or z c 0) numbers ∙ sym (at_column (number_of s r) c l) in
        let n : r ≡ low + (r - low) = omega (arith, h) in
        (λ i. a i + (b ∙ ap (λ j. number_of s j c) n) i) ∙ sym (sum_last (λ j. number_of s j c) low (r - low))

    pub totals_more : (sums : List ℕ) → Added totals row sums → sums ≡ totals_from s low (r + 1 - low)
    unfolding totals_from
    totals_more sums A =
        let n : suc (r - low) ≡ r + 1 - low = omega (arith, h) in
        filled_list (map (total (suc (r - low))) all_columns) sums A.0
        (λ c l. A.1 c l ∙ with_row c l ∙ at_column (total (suc (r - low))) c l)
        ∙ ap (totals_from s low) n

    -- the rows so far are some of all rows
    module _ (holds : T (holds_state? document_01 s)) (high : ℕ) (R : RowsOf s low high) (inside : r ≤ high) where
      total_most : (c : ℕ) → c < page_columns → total (suc (r - low)) c ≤ most_vectors
      total_most c l =
          let f : ℕ → ℕ = λ j. number_of s j c in
          let few = numbers_few document_01 tt (decode document_01 s) (holds_sound s holds) c (omega arith) in
          let all : sum (map f (from low (suc high - low))) ≤ most_vectors = subst (λ l. sum (map f l) ≤ most_vectors) R.rows few in
          let a = sum_longer f low (suc (r - low)) (suc high - low) (omega (arith, h, inside)) in
          omega (arith, a, all)

      pub totals_fit : Fit totals row
      totals_fit c l = let e = with_row c l in let m = total_most c l in omega (arith, e, m)
