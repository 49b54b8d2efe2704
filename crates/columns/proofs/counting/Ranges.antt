-- The smallest and the largest row in use, column by column.
use mathlib.Core.Path.{◌≡◌, refl, sym, ap, ◌∙◌, subst}
use mathlib.Core.List.{List, [], ◌∷◌, ◌++◌}
use Prim.Native.Nat.{ℕ, zero, suc, ◌+◌, ◌-◌, ◌<◌, ◌≤◌, min, max}
use native.Mathlib.Omega.{arith}
use lib.Dec.{T}
use lib.ListN.{length, get_or, take, drop, drop_of_length-le}
use lib.Seq.{take-suc}
use Rattle.definitions.specs.Limits.{document_01}
use Rattle.definitions.specs.Lists.{map, from}
use Rattle.definitions.specs.Layout.{Words, decode, holds_state?}
use Rattle.definitions.specs.Betti.{rows_in_use, smallest, largest, all_rows}
use Rattle.definitions.specs.Places.{most_carried, row_shift, page_columns, page_rows, degrees_start, state_length}
use Rattle.laws.proofs.Members.{All, all_inside}
use Rattle.betti.proofs.Rows.{Row, rows_few, columns_low, length_from}
use Rattle.betti.proofs.Lines.{columns_are}
use Rattle.state.proofs.preparing.Complete.{holds_sound}
use Rattle.columns.specs.counting.Columns.{columns_of, column_of}
use Rattle.columns.proofs.counting.Standing.{few_columns, first_degree}

-- ## Rows of a list

smallest_append : (a : ℕ) (l m : List ℕ) → smallest a (l ++ m) ≡ smallest (smallest a l) m
smallest_append a [] m = refl
smallest_append a (b ∷ l) m = smallest_append (min a b) l m

largest_append : (a : ℕ) (l m : List ℕ) → largest a (l ++ m) ≡ largest (largest a l) m
largest_append a [] m = refl
largest_append a (b ∷ l) m = largest_append (max a b) l m

map_last : (g : ℕ → ℕ) (l : List ℕ) (x : ℕ) → map g (l ++ x ∷ []) ≡ map g l ++ g x ∷ []
map_last g [] x = refl
map_last g (y ∷ l) x = ap (λ z. g y ∷ z) (map_last g l x)

pub map_more : (g : ℕ → ℕ) (l : List ℕ) (i : ℕ) → i < length l → map g (take (i + 1) l) ≡ map g (take i l) ++ g (get_or l i 0) ∷ []
map_more g l i h =
    let s : i + 1 ≡ suc i = omega arith in
    ap (λ j. map g (take j l)) s ∙ ap (map g) (take-suc l i 0 h) ∙ map_last g (take i l) (get_or l i 0)

pub smallest_more : (g : ℕ → ℕ) (l : List ℕ) (i a : ℕ) → i < length l
    → min (smallest a (map g (take i l))) (g (get_or l i 0)) ≡ smallest a (map g (take (i + 1) l))
smallest_more g l i a h =
    sym (ap (smallest a) (map_more g l i h) ∙ smallest_append a (map g (take i l)) (g (get_or l i 0) ∷ []))

pub largest_more : (g : ℕ → ℕ) (l : List ℕ) (i a : ℕ) → i < length l
    → max (largest a (map g (take i l))) (g (get_or l i 0)) ≡ largest a (map g (take (i + 1) l))
largest_more g l i a h =
    sym (ap (largest a) (map_more g l i h) ∙ largest_append a (map g (take i l)) (g (get_or l i 0) ∷ []))

-- ## Columns

rows_at : (a c : ℕ) (cs : List (List ℕ))
    → rows_in_use a (drop c cs) ≡ map (λ d. d + row_shift - a) (get_or cs c []) ++ rows_in_use (suc a) (drop (suc c) cs)
rows_at a zero [] = refl
rows_at a (suc c) [] = refl
rows_at a zero (ds ∷ cs) = refl
rows_at a (suc c) (ds ∷ cs) = rows_at a c cs

-- the smallest and the largest row, from these and the columns from c on; shut, so that arithmetic does not look inside
unfoldable pub low_from : Words → ℕ → ℕ → ℕ
low_from s c low = smallest low (rows_in_use c (drop c (columns_of s)))

unfoldable pub high_from : Words → ℕ → ℕ → ℕ
high_from s c high = largest high (rows_in_use c (drop c (columns_of s)))

-- those of the columns before column c
pub record SoFar (s : Words) (first c low high : ℕ) : Type 0 where
  pub lowest : low_from s 0 first ≡ low_from s c low
  pub highest : high_from s 0 first ≡ high_from s c high
  pub below : low ≤ first
  pub above : first ≤ high

pub so_far_first : (s : Words) (first : ℕ) → SoFar s first 0 first first
so_far_first s first = record { lowest = refl; highest = refl; below = omega arith; above = omega arith }

low_more : (s : Words) (c low : ℕ) → low_from s c low ≡ low_from s (c + 1) (smallest low (map (λ d. d + row_shift - c) (column_of s c)))
unfolding low_from
low_more s c low =
    let e : suc c ≡ c + 1 = omega arith in
    let column = map (λ d. d + row_shift - c) (column_of s c) in
    ap (smallest low) (rows_at c c (columns_of s)) ∙ smallest_append low column (rows_in_use (suc c) (drop (suc c) (columns_of s)))
    ∙ ap (λ i. smallest (smallest low column) (rows_in_use i (drop i (columns_of s)))) e

high_more : (s : Words) (c high : ℕ) → high_from s c high ≡ high_from s (c + 1) (largest high (map (λ d. d + row_shift - c) (column_of s c)))
unfolding high_from
high_more s c high =
    let e : suc c ≡ c + 1 = omega arith in
    let column = map (λ d. d + row_shift - c) (column_of s c) in
    ap (largest high) (rows_at c c (columns_of s)) ∙ largest_append high column (rows_in_use (suc c) (drop (suc c) (columns_of s)))
    ∙ ap (λ i. largest (largest high column) (rows_in_use i (drop i (columns_of s)))) e

pub so_far_more : (s : Words) (first c low high low' high' : ℕ) → SoFar s first c low high
    → low' ≡ smallest low (map (λ d. d + row_shift - c) (column_of s c)) → high' ≡ largest high (map (λ d. d + row_shift - c) (column_of s c))
    → low' ≤ low → high ≤ high' → SoFar s first (c + 1) low' high'
so_far_more s first c low high low' high' r e f l h = record {
  lowest = r.lowest ∙ low_more s c low ∙ sym (ap (low_from s (c + 1)) e);
  highest = r.highest ∙ high_more s c high ∙ sym (ap (high_from s (c + 1)) f);
  below = let a = r.below in omega (arith, a, l);
  above = let a = r.above in omega (arith, a, h);
}

-- ## All rows

from_first : (first : ℕ) (rest l : List ℕ) → l ≡ first ∷ rest → all_rows l ≡ from (smallest first l) (suc (largest first l) - smallest first l)
from_first first rest l e =
    ap all_rows e
    ∙ sym (λ i. from (smallest (least i) rest) (suc (largest (most i) rest) - smallest (least i) rest))
    ∙ sym (ap (λ z. from (smallest first z) (suc (largest first z) - smallest first z)) e)
  where
    least : min first first ≡ first
    least = omega arith

    most : max first first ≡ first
    most = omega arith

at_from : (a n i : ℕ) → i < n → get_or (from a n) i 0 ≡ a + i
at_from a zero i h = absurd (omega arith)
at_from a (suc n) zero h = omega arith
at_from a (suc n) (suc i) h = at_from (suc a) n i (omega arith) ∙ (omega arith)

module _ (s : Words) (long : state_length ≤ length s) (holds : T (holds_state? document_01 s)) (low high : ℕ)
    (r : SoFar s (get_or s degrees_start 0 + row_shift) page_columns low high) where
  abbrev cs : List (List ℕ)
  cs = columns_of s

  abbrev first : ℕ
  first = get_or s degrees_start 0 + row_shift

  none_left : rows_in_use page_columns (drop page_columns (columns_of s)) ≡ []
  none_left = ap (rows_in_use page_columns) (drop_of_length-le (columns_of s) (few_columns s long holds))

  low_is : smallest first (rows_in_use 0 (columns_of s)) ≡ low
  unfolding low_from
  low_is = r.lowest ∙ ap (smallest low) none_left

  high_is : largest first (rows_in_use 0 (columns_of s)) ≡ high
  unfolding high_from
  high_is = r.highest ∙ ap (largest high) none_left

  abbrev others : List ℕ
  others = map (λ d. d + row_shift - 0) (take (get_or s 3 0 - 1) (drop (suc degrees_start) s)) ++ rows_in_use 1 (drop 1 (columns_of s))

  none_less : first - 0 ≡ first
  none_less = omega arith

  pub rows_are : all_rows (rows_in_use 0 (columns_of s)) ≡ from low (suc high - low)
  rows_are =
      from_first first others
      (rows_in_use 0 (columns_of s))
      (ap (λ ds. map (λ d. d + row_shift - 0) ds ++ rows_in_use 1 (drop 1 (columns_of s))) (first_degree s long holds) ∙ ap (λ r. r ∷ others) none_less)
      ∙ (λ i. from (low_is i) (suc (high_is i) - low_is i))

  pub low_first : low ≤ high
  low_first = let a = r.below in let b = r.above in omega (arith, a, b)

  pub high_few : high < page_rows
  high_few =
      let X = decode document_01 s in
      let h = rows_few most_carried cs (columns_low cs (columns_are document_01 tt X (holds_sound s holds))) in
      let each = subst (All (Row most_carried)) rows_are h.each in
      let n = length_from low (suc high - low) in
      let inside : high - low < length (from low (suc high - low)) = omega (arith, n, low_first) in
      let at : get_or (from low (suc high - low)) (high - low) 0 ≡ low + (high - low) = at_from low (suc high - low) (high - low) (omega (arith, low_first)) in
      let last = all_inside (Row most_carried) 0 (from low (suc high - low)) (high - low) inside each in
      omega (arith, last, at, low_first)
