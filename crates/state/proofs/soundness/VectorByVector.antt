-- The vectors of a level, one after the other; the two kinds of level.
use mathlib.Core.Path.{◌≡◌, refl, sym, ap, ◌∙◌}
use mathlib.Core.Bool.{true, false}
use mathlib.Core.List.{◌∷◌}
use Prim.Native.Nat.{ℕ, zero, suc, ◌+◌, ◌-◌, ◌<◌, ◌≤◌}
use native.Mathlib.Omega.{arith}
use lib.ListN.{length, get_or, take, drop, length-drop, drop_of_length-le}
use lib.Seq.{drop-cons, take_all}
use Rattle.definitions.specs.Lists.{◌and◌}
use Rattle.definitions.specs.Monomial.{Monomial}
use Rattle.definitions.specs.Order.{Comparison}
use Rattle.definitions.specs.Layout.{Words}
use Rattle.definitions.specs.Places.{most_elements, most_vectors, most_rows, most_terms}
use Rattle.orders.specs.Images.{Table, table_order}
use Rattle.state.specs.declared.soundness.Bounds.{Bounds}
use Rattle.state.specs.soundness.Places.{count_at, count_below}
use Rattle.state.specs.soundness.Holding.{bounds_of, vector_holds?, vectors_hold?, level_holds?, level_test?}

module _ (b : Bounds) (most : ℕ) (order : Monomial → Monomial → Comparison) (s : Words) where
  pub vectors_on : (es : Words) (j a e : ℕ) → j < length es → get_or es j 0 ≡ e → vector_holds? b most order s a e ≡ true
      → vectors_hold? b most order s a (drop j es) ≡ vectors_hold? b most order s e (drop (j + 1) es)
  vectors_on es j a e h q t =
      let z : suc j ≡ j + 1 = omega arith in
      ap (vectors_hold? b most order s a) (drop-cons es j 0 h) ∙ ap (λ x. vectors_hold? b most order s a (x ∷ drop (suc j) es)) q
      ∙ (λ i. t i and vectors_hold? b most order s e (drop (suc j) es)) ∙ ap (λ k. vectors_hold? b most order s e (drop k es)) z

  pub vectors_stop : (es : Words) (j a e : ℕ) → j < length es → get_or es j 0 ≡ e → vector_holds? b most order s a e ≡ false
      → vectors_hold? b most order s a (drop j es) ≡ false
  vectors_stop es j a e h q t =
      ap (vectors_hold? b most order s a) (drop-cons es j 0 h) ∙ ap (λ x. vectors_hold? b most order s a (x ∷ drop (suc j) es)) q
      ∙ (λ i. t i and vectors_hold? b most order s e (drop (suc j) es))

  pub vectors_end : (es : Words) (j a : ℕ) → length es ≤ j → vectors_hold? b most order s a (drop j es) ≡ true
  vectors_end es j a h = ap (vectors_hold? b most order s a) (drop_of_length-le es h)

-- ## Level 0 and those above it

pub test_basis : (s : Words) (k : ℕ) (T : Table) → k ≡ 0
    → level_holds? 1 most_elements most_rows (bounds_of (get_or s 0 0) (get_or s 1 0) (get_or s 3 0)) (table_order (get_or s 2 0) T) s k ≡ level_test? s k T
test_basis s k T e = ap (level_holds? 1 most_elements most_rows (bounds_of (get_or s 0 0) (get_or s 1 0) (get_or s 3 0)) (table_order (get_or s 2 0) T) s) e
    ∙ sym (ap (λ j. level_test? s j T) e)

pub test_above : (s : Words) (k : ℕ) (T : Table) → (k ≡ 0 → ⊥)
    → level_holds? 0 most_vectors most_terms (bounds_of (get_or s 0 0) (get_or s 1 0) (count_at s (k - 1))) (table_order (get_or s 2 0) T) s k
    ≡ level_test? s k T
test_above s zero T n = absurd (n refl)
test_above s (suc k) T n = let z : suc k - 1 ≡ k = omega arith in ap (λ j. level_holds? 0 most_vectors most_terms
    (bounds_of (get_or s 0 0) (get_or s 1 0) (count_at s j)) (table_order (get_or s 2 0) T) s (suc k)) z

pub below_basis : (s : Words) (k : ℕ) → k ≡ 0 → 0 ≡ count_below s k
below_basis s k e = ap (count_below s) (sym e)

pub below_above : (s : Words) (k : ℕ) → (k ≡ 0 → ⊥) → count_at s (k - 1) ≡ count_below s k
below_above s zero n = absurd (n refl)
below_above s (suc k) n = let z : suc k - 1 ≡ k = omega arith in ap (count_at s) z

-- ## The rest of a slice from a word on

pub whole_part : (a : ℕ) (s : Words) → take (length s - a) (drop a s) ≡ drop a s
whole_part a s = take_all (length s - a) (drop a s) (omega (arith, length-drop a s))

pub length_part : (a : ℕ) (s : Words) → length (take (length s - a) (drop a s)) ≡ length s - a
length_part a s = ap length (whole_part a s) ∙ length-drop a s
