-- The sums one generator and one column after the other.
use mathlib.Core.Path.{◌≡◌, refl, sym, ap, ◌∙◌}
use mathlib.Core.Bool.{true, false}
use mathlib.Core.List.{List, [], ◌∷◌, ◌++◌}
use Prim.Native.Nat.{ℕ, zero, suc, ◌+◌, ◌-◌, ◌<◌, ◌≤◌}
use native.Mathlib.Omega.{arith}
use lib.Dec.{T}
use lib.ListN.{length, get_or, take, drop, drop_of_length-le}
use borrow.Author.Tests.{le-leb, lt-leb}
use Rattle.definitions.specs.Limits.{document_01}
use Rattle.definitions.specs.Lists.{◌and◌, between, map, sum}
use Rattle.definitions.specs.Layout.{Words, decode, holds_state?}
use Rattle.definitions.specs.Pascal.{monomials}
use Rattle.definitions.specs.Hilbert.{left_over, column_value, both_sums, hilbert_value}
use Rattle.definitions.specs.Places.{exponents_length, page_columns, state_length}
use Rattle.laws.proofs.Tests.{and_left, between_low, between_high}
use Rattle.laws.proofs.Sound.{sound_says}
use Rattle.laws.proofs.Degrees.{holds_says}
use Rattle.columns.specs.counting.Columns.{columns_of, column_of}
use Rattle.columns.proofs.counting.Standing.{few_columns}
use Rattle.columns.proofs.counting.Ranges.{map_more}

-- ## A generator

pub left_none : (n d g : ℕ) → d < g → left_over n d g ≡ 0
left_none n d g h = ap (λ b. elim b [ true ↦ monomials n (d - g) | false ↦ 0 ]) (lt-leb g d h)

pub left_some : (n d g : ℕ) → g ≤ d → left_over n d g ≡ monomials n (d - g)
left_some n d g h = ap (λ b. elim b [ true ↦ monomials n (d - g) | false ↦ 0 ]) (le-leb g d h)

-- ## A column

sum_last : (l : List ℕ) (x : ℕ) → sum (l ++ x ∷ []) ≡ sum l + x
sum_last [] x = omega arith
sum_last (y ∷ l) x = let e = sum_last l x in omega (arith, e)

pub value_more : (n d : ℕ) (l : List ℕ) (i : ℕ) → i < length l
    → column_value n d (take i l) + left_over n d (get_or l i 0) ≡ column_value n d (take (i + 1) l)
value_more n d l i h =
    sym (ap sum (map_more (left_over n d) l i h) ∙ sum_last (map (left_over n d) (take i l)) (left_over n d (get_or l i 0)))

-- ## Columns

-- those from column c on: what columns c, c + 2, .. count and what the others do; shut, so that arithmetic does not look inside
unfoldable pub even_from : ℕ → ℕ → Words → ℕ → ℕ
even_from n d s c = (both_sums n d (drop c (columns_of s))).0

unfoldable pub odd_from : ℕ → ℕ → Words → ℕ → ℕ
odd_from n d s c = (both_sums n d (drop c (columns_of s))).1

sums_at : (n d c : ℕ) (cs : List (List ℕ))
    → both_sums n d (drop c cs) ≡ (column_value n d (get_or cs c []) + (both_sums n d (drop (suc c) cs)).1, (both_sums n d (drop (suc c) cs)).0)
sums_at n d zero [] = refl
sums_at n d (suc c) [] = refl
sums_at n d zero (ds ∷ cs) = refl
sums_at n d (suc c) (ds ∷ cs) = sums_at n d c cs

-- one column more in front
pub even_more : (n d : ℕ) (s : Words) (c : ℕ) → 0 < c → even_from n d s (c - 1) ≡ column_value n d (column_of s (c - 1)) + odd_from n d s c
unfolding even_from odd_from
even_more n d s c h =
    let e : suc (c - 1) ≡ c = omega (arith, h) in
    ap (λ (x : ℕ × ℕ). x.0) (sums_at n d (c - 1) (columns_of s))
    ∙ ap (λ i. column_value n d (column_of s (c - 1)) + (both_sums n d (drop i (columns_of s))).1) e

pub odd_more : (n d : ℕ) (s : Words) (c : ℕ) → 0 < c → odd_from n d s (c - 1) ≡ even_from n d s c
unfolding even_from odd_from
odd_more n d s c h =
    let e : suc (c - 1) ≡ c = omega (arith, h) in
    ap (λ (x : ℕ × ℕ). x.1) (sums_at n d (c - 1) (columns_of s)) ∙ ap (λ i. (both_sums n d (drop i (columns_of s))).0) e

-- none behind the last column
module _ (n d : ℕ) (s : Words) (long : state_length ≤ length s) (holds : T (holds_state? document_01 s)) where
  none_left : drop page_columns (columns_of s) ≡ []
  none_left = drop_of_length-le (columns_of s) (few_columns s long holds)

  pub even_none : 0 ≡ even_from n d s page_columns
  unfolding even_from
  even_none = sym (ap (λ cs. (both_sums n d cs).0) none_left)

  pub odd_none : 0 ≡ odd_from n d s page_columns
  unfolding odd_from
  odd_none = sym (ap (λ cs. (both_sums n d cs).1) none_left)

-- all columns
pub even_all : (n d : ℕ) (s : Words) → even_from n d s 0 ≡ (both_sums n d (columns_of s)).0
unfolding even_from
even_all n d s = refl

pub odd_all : (n d : ℕ) (s : Words) → odd_from n d s 0 ≡ (both_sums n d (columns_of s)).1
unfolding odd_from
odd_all n d s = refl

-- what is left of the even sum
pub difference : (n d : ℕ) (s : Words) (even odd r : ℕ) → even ≡ (both_sums n d (columns_of s)).0 → odd ≡ (both_sums n d (columns_of s)).1 → r ≡ even - odd
    → r ≡ hilbert_value n (columns_of s) d
difference n d s even odd r e f g = g ∙ λ k. e k - f k

-- ## Variables

module _ (s : Words) (holds : T (holds_state? document_01 s)) where
  ranges : T (between 1 (get_or s 1 0) exponents_length)
  ranges =
      and_left (between 1 (get_or s 1 0) 8) (between 1 (get_or s 2 0) 3 and between 1 (get_or s 3 0) 16)
      (sound_says document_01 (decode document_01 s) (holds_says document_01 s holds).sound).ranges

  pub some_variable : 1 ≤ get_or s 1 0
  some_variable = between_low 1 (get_or s 1 0) 8 ranges

  pub few_variables : get_or s 1 0 ≤ exponents_length
  few_variables = between_high 1 (get_or s 1 0) 8 ranges
