-- Terms of two numbers, row by row and vector by vector.
use mathlib.Core.Path.{◌≡◌, ap, ◌∙◌}
use mathlib.Core.Bool.{Bool, true, false, not}
use mathlib.Core.Option.{Option, none, some}
use mathlib.Core.List.{◌∷◌}
use Prim.Native.Nat.{ℕ, suc, ◌+◌, ◌-◌, ◌<◌, ◌≤◌}
use native.Mathlib.Omega.{arith}
use borrow.Author.Tests.{eq-eqb, ne_eqb}
use lib.ListN.{length, get_or, drop, drop_of_length-le}
use lib.Seq.{drop-cons}
use Rattle.definitions.specs.Lists.{any}
use Rattle.definitions.specs.Monomial.{Monomial, Term, Vector}
use Rattle.definitions.specs.Layout.{Words, rows, row_at, vectors_at}
use Rattle.definitions.specs.Betti.{mixed?, first_mixed}
use Rattle.laws.proofs.Rows.{rows_first}
use Rattle.columns.specs.mixed.Placed.{same_by}

-- ## Rows

-- by one number for each monomial
module _ (g : Monomial → ℕ) (s : Words) (a : ℕ) where
  -- a row of another number than row a
  abbrev pub other? : Term → Bool
  other? u = not (same_by g (row_at s a).1 u.1)

  rest : (i to : ℕ) → i < to → rows s i (to - i) ≡ row_at s i ∷ rows s (i + 1) (to - (i + 1))
  rest i to h =
      let e : to - i ≡ suc (to - (i + 1)) = omega (arith, h) in
      let n : suc i ≡ i + 1 = omega arith in
      ap (rows s i) e ∙ rows_first s i (to - (i + 1)) ∙ ap (λ j. row_at s i ∷ rows s j (to - (i + 1))) n

  pub mixed_starts : (to : ℕ) → a < to → mixed? (same_by g) (rows s a (to - a)) ≡ any other? (rows s (a + 1) (to - (a + 1)))
  mixed_starts to h = ap (mixed? (same_by g)) (rest a to h)

  abbrev here : Vector → Bool → Bool
  here v b = elim b [ true ↦ true | false ↦ any other? v ]

  pub mixed_on : (i to : ℕ) → i < to → g (row_at s a).1 ≡ g (row_at s i).1
      → any other? (rows s i (to - i)) ≡ any other? (rows s (i + 1) (to - (i + 1)))
  mixed_on i to h e =
      ap (any other?) (rest i to h)
      ∙ ap (λ b. here (rows s (i + 1) (to - (i + 1))) (not b)) (eq-eqb (g (row_at s a).1) (g (row_at s i).1) e)

  pub mixed_stops : (i to : ℕ) → i < to → (g (row_at s a).1 ≡ g (row_at s i).1 → ⊥) → any other? (rows s i (to - i)) ≡ true
  mixed_stops i to h n =
      ap (any other?) (rest i to h)
      ∙ ap (λ b. here (rows s (i + 1) (to - (i + 1))) (not b)) (ne_eqb (g (row_at s a).1) (g (row_at s i).1) n)

  pub mixed_ends : (i to : ℕ) → to ≤ i → any other? (rows s i (to - i)) ≡ false
  unfolding rows
  mixed_ends i to h = let e : to - i ≡ 0 = omega (arith, h) in ap (λ n. any other? (rows s i n)) e

-- ## Vectors

module _ (same? : Monomial → Monomial → Bool) (s : Words) where
  abbrev from_here : ℕ → ℕ → Words → Bool → Option ℕ
  from_here n e es b = elim b [ true ↦ some n | false ↦ first_mixed same? (suc n) (vectors_at s e es) ]

  at_vector : (es : Words) (n j a e : ℕ) → j < length es → get_or es j 0 ≡ e
      → first_mixed same? n (vectors_at s a (drop j es)) ≡ from_here n e (drop (suc j) es) (mixed? same? (rows s a (e - a)))
  at_vector es n j a e h q =
      ap (λ l. first_mixed same? n (vectors_at s a l)) (drop-cons es j 0 h)
      ∙ ap (λ x. first_mixed same? n (vectors_at s a (x ∷ drop (suc j) es))) q

  pub first_on : (es : Words) (j a e : ℕ) → j < length es → get_or es j 0 ≡ e → mixed? same? (rows s a (e - a)) ≡ false
      → first_mixed same? (j + 1) (vectors_at s a (drop j es)) ≡ first_mixed same? (j + 1 + 1) (vectors_at s e (drop (j + 1) es))
  first_on es j a e h q t =
      let z : suc j ≡ j + 1 = omega arith in
      let y : suc (j + 1) ≡ j + 1 + 1 = omega arith in
      at_vector es (j + 1) j a e h q ∙ ap (from_here (j + 1) e (drop (suc j) es)) t
      ∙ (λ i. first_mixed same? (y i) (vectors_at s e (drop (z i) es)))

  pub first_stops : (es : Words) (j a e : ℕ) → j < length es → get_or es j 0 ≡ e → mixed? same? (rows s a (e - a)) ≡ true
      → first_mixed same? (j + 1) (vectors_at s a (drop j es)) ≡ some (j + 1)
  first_stops es j a e h q t = at_vector es (j + 1) j a e h q ∙ ap (from_here (j + 1) e (drop (suc j) es)) t

  pub first_ends : (es : Words) (n j a : ℕ) → length es ≤ j → first_mixed same? n (vectors_at s a (drop j es)) ≡ none
  first_ends es n j a h = ap (λ l. first_mixed same? n (vectors_at s a l)) (drop_of_length-le es h)
