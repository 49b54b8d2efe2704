-- The first number that passes a test, of a part that holds all that do; and the first head that divides.
use mathlib.Core.Path.{◌≡◌, refl, sym, ap, ◌∙◌, subst}
use mathlib.Core.Bool.{Bool, true, false}
use mathlib.Core.List.{[], ◌∷◌}
use Prim.Native.Nat.{ℕ, zero, suc, ◌+◌, ◌-◌, ◌*◌, ◌<◌, ◌≤◌}
use native.Mathlib.Nat.{not-suc-le-zero}
use native.Mathlib.Omega.{arith}
use lib.Dec.{T, leb, ltb, ltb→lt, nltb→le}
use lib.ListN.{length, get_or}
use borrow.Author.Tests.{ltb-true, ltb-false, leb-true, leb-false, ne_eqb}
use Rattle.definitions.specs.Lists.{◌and◌, choose}
use Rattle.definitions.specs.Monomial.{Monomial, Term, Vector, divides?, divides_monomial?, no_term}
use Rattle.definitions.specs.Packed.{unpack}
use Rattle.definitions.specs.Layout.{Words, long_at, row_at, rows}
use Rattle.laws.proofs.Rows.{row_is, get_d_rows, length_rows}
use Rattle.definitions.specs.Places.{row_length, component_offset, exponents_offset}
use Rattle.reducers.specs.search.Search.{Spanned, span_at, first_from, first_dividing}

-- ## Numbers

pub record First (f : ℕ → Bool) (a b r : ℕ) : Type 0 where
  pub from : a ≤ r
  pub none_before : (k : ℕ) → a ≤ k → k < r → f k ≡ false
  pub passes : r < b → f r ≡ true

-- one step of the loop
pub first_past : (f : ℕ → Bool) (i to : ℕ) → i < to → false ≡ f i → first_from f (to - i) i ≡ first_from f (to - (i + 1)) (i + 1)
first_past f i to h e =
    let z : to - i ≡ suc (to - suc i) = omega arith in
    let s : suc i ≡ i + 1 = omega arith in
    ap (λ n. first_from f n i) z ∙ ap (λ b. elim b [ true ↦ i | false ↦ first_from f (to - suc i) (suc i) ]) (sym e)
    ∙ ap (λ k. first_from f (to - k) k) s

first_at : (f : ℕ → Bool) (n i : ℕ) → First f i (i + n) (first_from f n i)
first_at f zero i = record { from = omega arith; none_before = λ k h l. absurd (omega arith); passes = λ h. absurd (omega arith) }
first_at f (suc n) i = go (first_at f n (suc i)) (f i) refl
  where
    go : First f (suc i) (suc i + n) (first_from f n (suc i)) → (b : Bool) → f i ≡ b
        → First f i (i + suc n) (elim b [ true ↦ i | false ↦ first_from f n (suc i) ])
    go r true e = record { from = omega arith; none_before = λ k h l. absurd (omega arith); passes = λ h. e }
    go r false e =
        let l : suc i ≤ first_from f n (suc i) = r.from in
        record { from = omega arith; none_before = λ k h m. before k h m (ltb i k) (ltb→lt i k) (nltb→le i k); passes = λ h. r.passes (omega arith) }
      where
        before : (k : ℕ) → i ≤ k → k < first_from f n (suc i) → (b : Bool) → (T b → i < k) → (T (mathlib.Core.Bool.not b) → k ≤ i) → f k ≡ false
        before k h m true u v = r.none_before k (u tt) m
        before k h m false u v = let w : k ≤ i = v tt in let q : i ≡ k = omega arith in subst (λ j. f j ≡ false) q e

-- ## Heads

-- a head that divides, and none before it
first_is : (m : Monomial) (v : Vector) (j i : ℕ) → j < length v → divides_monomial? (get_or v j no_term).1 m ≡ true
    → ((k : ℕ) → k < j → divides_monomial? (get_or v k no_term).1 m ≡ false) → first_dividing m v i ≡ i + j
first_is m [] j i h e f = absurd (not-suc-le-zero h)
first_is m (u ∷ v) zero i h e f = ap (λ b. elim b [ true ↦ i | false ↦ first_dividing m v (suc i) ]) e ∙ omega arith
first_is m (u ∷ v) (suc j) i h e f =
    ap (λ b. elim b [ true ↦ i | false ↦ first_dividing m v (suc i) ]) (f 0 (omega arith))
    ∙ first_is m v j (suc i) (omega arith) e (λ k l. f (suc k) (omega arith)) ∙ omega arith

first_none : (m : Monomial) (v : Vector) (i : ℕ) → ((k : ℕ) → k < length v → divides_monomial? (get_or v k no_term).1 m ≡ false) → first_dividing m v i
    ≡ i + length v
first_none m [] i f = omega arith
first_none m (u ∷ v) i f = ap (λ b. elim b [ true ↦ i | false ↦ first_dividing m v (suc i) ]) (f 0 (omega arith))
    ∙ first_none m v (suc i) (λ k l. f (suc k) (omega arith)) ∙ omega arith

-- ## A table's words

-- head i's monomial is that of row i
pub head_is : (s : Words) (r i : ℕ) → i < r → (get_or (rows s 0 r) i no_term).1 ≡ (row_at s i).1
head_is s r i l = let z : 0 + i ≡ i = omega arith in ap (λ (t : Term). t.1) (get_d_rows s 0 r i no_term l ∙ ap (row_at s) z)

-- the span's part holds every row with the component
pub record Holds (s : ℕ × ℕ) (r i : ℕ) (heads : Words) : Type 0 where
  pub ends : s.1 ≤ r
  pub inside : (j : ℕ) → j < r → get_or heads (j * row_length + component_offset) 0 ≡ i → (s.0 ≤ j) × (j < s.1)

pub span_holds : (k r : ℕ) (spans heads : Words) (i : ℕ) → Spanned k r spans heads → Holds (span_at k r spans i) r i heads
span_holds k r spans heads i h = go (leb k i) refl
  where
    go : (b : Bool) → leb k i ≡ b → Holds (choose b (0, r) (get_or spans (i * 2) 0, get_or spans (i * 2 + 1) 0)) r i heads
    go true e = record { ends = omega arith; inside = λ j l q. (omega arith, l) }
    go false e = let n : i < k = leb-false k i e in record { ends = (h i n).0; inside = (h i n).1 }

-- a row outside it has another component
outside : (s : ℕ × ℕ) (r : ℕ) (heads : Words) (m : Monomial) (k : ℕ) → Holds s r m.1 heads → k < r → ((s.0 ≤ k) → (k < s.1) → ⊥)
    → divides_monomial? (get_or (rows heads 0 r) k no_term).1 m ≡ false
outside s r heads m k h l n =
    ap (λ x. divides_monomial? x m) (head_is heads r k l ∙ ap (λ (t : Term). t.1) (row_is heads k))
    ∙ ap (λ b. b and divides? (unpack (long_at heads (k * row_length + exponents_offset))) m.0)
    (ne_eqb (get_or heads (k * row_length + component_offset) 0) m.1 (λ q. n (h.inside k l q).0 (h.inside k l q).1))

-- what the search in the span's part found is the first of all; none found: there is none
pub first_spanned : (s : ℕ × ℕ) (r : ℕ) (heads : Words) (m : Monomial) (j : ℕ) → Holds s r m.1 heads → j
    ≡ first_from (λ i. divides_monomial? (row_at heads i).1 m) (s.1 - s.0) s.0 → j < s.1 → j ≡ first_dividing m (rows heads 0 r) 0
first_spanned s r heads m j h e l = sym (first_is m (rows heads 0 r) j 0 (omega (arith, length_rows heads 0 r)) here before ∙ omega arith)
  where
    f : ℕ → Bool
    f i = divides_monomial? (row_at heads i).1 m

    found : First f s.0 (s.0 + (s.1 - s.0)) j
    found = subst (First f s.0 (s.0 + (s.1 - s.0))) (sym e) (first_at f (s.1 - s.0) s.0)

    above : s.0 ≤ j
    above = found.from

    end : s.1 ≤ r
    end = h.ends

    here : divides_monomial? (get_or (rows heads 0 r) j no_term).1 m ≡ true
    here = ap (λ x. divides_monomial? x m) (head_is heads r j (omega arith)) ∙ found.passes (omega arith)

    before : (k : ℕ) → k < j → divides_monomial? (get_or (rows heads 0 r) k no_term).1 m ≡ false
    before k q = go (leb s.0 k) refl
      where
        go : (b : Bool) → leb s.0 k ≡ b → divides_monomial? (get_or (rows heads 0 r) k no_term).1 m ≡ false
        go true t = ap (λ x. divides_monomial? x m) (head_is heads r k (omega arith)) ∙ found.none_before k (leb-true s.0 k t) q
        go false t = let w : k < s.0 = leb-false s.0 k t in outside s r heads m k h (omega arith) (λ u v. omega arith)

pub none_spanned : (s : ℕ × ℕ) (r : ℕ) (heads : Words) (m : Monomial) (j : ℕ) → Holds s r m.1 heads → j
    ≡ first_from (λ i. divides_monomial? (row_at heads i).1 m) (s.1 - s.0) s.0 → s.1 ≤ j → r ≡ first_dividing m (rows heads 0 r) 0
none_spanned s r heads m j h e l = sym (first_none m (rows heads 0 r) 0 each ∙ omega (arith, length_rows heads 0 r))
  where
    f : ℕ → Bool
    f i = divides_monomial? (row_at heads i).1 m

    found : First f s.0 (s.0 + (s.1 - s.0)) j
    found = subst (First f s.0 (s.0 + (s.1 - s.0))) (sym e) (first_at f (s.1 - s.0) s.0)

    each : (k : ℕ) → k < length (rows heads 0 r) → divides_monomial? (get_or (rows heads 0 r) k no_term).1 m ≡ false
    each k n = go (leb s.0 k) refl (ltb k s.1) refl
      where
        inside : k < r
        inside = omega (arith, length_rows heads 0 r)

        go : (b : Bool) → leb s.0 k ≡ b → (d : Bool) → ltb k s.1 ≡ d → divides_monomial? (get_or (rows heads 0 r) k no_term).1 m ≡ false
        go true t true u = let w : k < s.1 = ltb-true k s.1 u in ap (λ x. divides_monomial? x m) (head_is heads r k inside)
            ∙ found.none_before k (leb-true s.0 k t) (omega arith)
        go true t false u = let w : s.1 ≤ k = ltb-false k s.1 u in outside s r heads m k h inside (λ x v. omega arith)
        go false t d u = let w : k < s.0 = leb-false s.0 k t in outside s r heads m k h inside (λ x v. omega arith)
