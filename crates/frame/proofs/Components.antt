-- A frame term's component is the number of its element.
use mathlib.Core.Path.{◌≡◌, sym, ap, ◌∙◌, subst}
use mathlib.Core.List.{List, [], ◌∷◌, ◌++◌}
use Prim.Native.Nat.{ℕ, zero, suc, ◌+◌, ◌*◌, ◌<◌, ◌≤◌}
use native.Mathlib.Nat.{not-suc-le-zero}
use native.Mathlib.Omega.{arith}
use lib.ListN.{length, get_or}
use Rattle.definitions.specs.Monomial.{Exponents, Monomial, Vector, no_term}
use Rattle.definitions.specs.Frame.{generators, minimal, with_component, frame_of, frame_from, frame}
use Rattle.definitions.specs.Layout.{Words, rows}
use Rattle.laws.proofs.Rows.{length_rows}
use Rattle.definitions.specs.Places.{row_length, component_offset}
use Rattle.laws.proofs.Rows.{row_is}
use Rattle.vectors.proofs.sums.Rowwise.{at_row}
use Rattle.frame.specs.Generators.{monomials_of}

abbrev Each : (Monomial → Type 0) → List Monomial → Type 0
Each P [] = Unit {0}
Each P (m ∷ ms) = P m × Each P ms

each_both : (P : Monomial → Type 0) (l k : List Monomial) → Each P l → Each P k → Each P (l ++ k)
each_both P [] k a b = b
each_both P (m ∷ l) k a b = (a.0, each_both P l k a.1 b)

each_own : (P : Monomial → Type 0) (i : ℕ) → ((g : Exponents) → P (g, i)) → (gs : List Exponents) → Each P (with_component i gs)
each_own P i p [] = tt
each_own P i p (g ∷ gs) = (p g, each_own P i p gs)

each_from : (code low high i : ℕ) (before ms : List Monomial) → low ≤ i → i + length ms ≤ high
    → Each (λ m. (low ≤ m.1) × (m.1 < high)) (frame_from code i before ms)
each_from code low high i before [] l h = tt
each_from code low high i before (m ∷ ms) l h =
    each_both (λ m. (low ≤ m.1) × (m.1 < high)) (frame_of code i before m) (frame_from code (suc i) (m ∷ before) ms)
    (each_own (λ m. (low ≤ m.1) × (m.1 < high)) i (λ g. (l, omega arith)) (minimal (generators code before m)))
    (each_from code low high (suc i) (m ∷ before) ms (omega arith) (omega arith))

each_at : (P : Monomial → Type 0) (v : Vector) (i : ℕ) → i < length v → Each P (monomials_of v) → P (get_or v i no_term).1
each_at P [] i h a = absurd (not-suc-le-zero h)
each_at P (t ∷ v) zero h a = a.0
each_at P (t ∷ v) (suc i) h a = each_at P v i (omega arith) a.1

pub frame_components : (code : ℕ) (ms : List Monomial) (d : Words) (n : ℕ) → monomials_of (rows d 0 n) ≡ frame code ms
    → (i : ℕ) → i < n → (1 ≤ get_or d (i * row_length + component_offset) 0) × (get_or d (i * row_length + component_offset) 0 ≤ length ms)
frame_components code ms d n e i h =
    let b = each_at (λ m. (1 ≤ m.1) × (m.1 < 1 + length ms)) (rows d 0 n) i (omega (arith, length_rows d 0 n))
    (subst (Each (λ m. (1 ≤ m.1) × (m.1 < 1 + length ms))) (sym e) (each_from code 1 (1 + length ms) 1 [] ms (omega arith) (omega arith))) in
    let c : (get_or (rows d 0 n) i no_term).1.1 ≡ get_or d (i * row_length + component_offset) 0 = ap (λ t. t.1.1) (at_row d n i h ∙ row_is d i) in
    (omega (arith, b.0, c), omega (arith, b.1, c))
