-- Looking up a component's row.
use mathlib.Core.Path.{◌≡◌, refl, sym, ap, ◌∙◌}
use mathlib.Core.Option.{none, some}
use mathlib.Core.List.{List, [], ◌∷◌, ◌++◌}
use Prim.Native.Nat.{ℕ, zero, suc, ◌+◌, ◌-◌, ◌*◌, ◌<◌, ◌≤◌}
use native.Mathlib.Nat.{not-suc-le-zero, le_of_suc-le-suc}
use native.Mathlib.Omega.{arith}
use native.Mathlib.Decide.{ℕ_discrete}
use lib.ListN.{length, get_or, get_elem?, length-append}
use Rattle.definitions.specs.Layout.{Words}
use Rattle.definitions.specs.Monomial.{Exponents, Monomial, product}
use Rattle.definitions.specs.Places.{image_length}
use Rattle.orders.specs.Images.{Key, exponents_raw, entry_at, table_of, looked_up, key_by, key}

module _ {A : Type 0} where
  element_left : (l m : List A) (k : ℕ) → k < length l → get_elem? (l ++ m) k ≡ get_elem? l k
  element_left [] m k h = absurd (not-suc-le-zero h)
  element_left (a ∷ l) m zero h = refl
  element_left (a ∷ l) m (suc k) h = element_left l m k (le_of_suc-le-suc h)

  element_seam : (l : List A) (a : A) (m : List A) → get_elem? (l ++ a ∷ m) (length l) ≡ some a
  element_seam [] a m = refl
  element_seam (b ∷ l) a m = element_seam l a m

  element_beyond : (l : List A) (k : ℕ) → length l ≤ k → get_elem? l k ≡ none
  element_beyond [] k h = refl
  element_beyond (a ∷ l) zero h = absurd (omega arith)
  element_beyond (a ∷ l) (suc k) h = element_beyond l k (omega arith)

pub length_table : (r : ℕ) (s : Words) → length (table_of r s) ≡ r
unfolding table_of
length_table zero s = refl
length_table (suc r) s = length-append (table_of r s) (entry_at s r ∷ []) ∙ omega (arith, length_table r s)

table_at : (r : ℕ) (s : Words) (k : ℕ) → k < r → get_elem? (table_of r s) k ≡ some (entry_at s k)
unfolding table_of
table_at zero s k h = absurd (not-suc-le-zero h)
table_at (suc r) s k h = go (ℕ_discrete k r) (table_at r s k)
  where
    go : Dec (k ≡ r) → (k < r → get_elem? (table_of r s) k ≡ some (entry_at s k)) → get_elem? (table_of r s ++ entry_at s r ∷ []) k ≡ some (entry_at s k)
    go (yes e) f = ap (get_elem? (table_of r s ++ entry_at s r ∷ [])) (e ∙ sym (length_table r s)) ∙ element_seam (table_of r s) (entry_at s r) []
        ∙ ap (λ j. some (entry_at s j)) (sym e)
    go (no ne) f = element_left (table_of r s) (entry_at s r ∷ []) k (omega (arith, length_table r s)) ∙ f (omega arith)

-- ## The key of a monomial

pub key_at_0 : (r : ℕ) (s : Words) (m : Monomial) (e : Exponents) → m.1 ≡ 0 → e ≡ m.0 → ◌≡◌ {A = Key} (e, (0, m.1)) (key (table_of r s) m)
key_at_0 r s m e z f = (λ i. (f i, (0, m.1))) ∙ sym (ap (λ j. key_by (looked_up (table_of r s) j) m) z)

pub key_beyond : (r : ℕ) (s : Words) (m : Monomial) (e : Exponents) → r < m.1 → e ≡ m.0 → ◌≡◌ {A = Key} (e, (0, m.1)) (key (table_of r s) m)
key_beyond r s m e h f = (λ i. (f i, (0, m.1))) ∙ sym (ap (λ o. key_by o m) (go m.1 h))
  where
    go : (c : ℕ) → r < c → looked_up (table_of r s) c ≡ none
    go zero h = absurd (omega arith)
    go (suc c) h = element_beyond (table_of r s) c (omega (arith, length_table r s))

pub key_inside : (r : ℕ) (s : Words) (m : Monomial) (e : Exponents) → (m.1 ≡ 0 → ⊥) → m.1 ≤ r → e
    ≡ product m.0 (exponents_raw s (m.1 * image_length - image_length + 2))
    → ◌≡◌ {A = Key} (e, (get_or s (m.1 * image_length - image_length + 1) 0, m.1)) (key (table_of r s) m)
key_inside r s m e n h f = go m.1 n h f
  where
    go : (c : ℕ) → (c ≡ 0 → ⊥) → c ≤ r → e ≡ product m.0 (exponents_raw s (c * image_length - image_length + 2))
        → ◌≡◌ {A = Key} (e, (get_or s (c * image_length - image_length + 1) 0, m.1)) (key_by (looked_up (table_of r s) c) m)
    go zero n h f = absurd (n refl)
    go (suc c) n h f =
        let a : suc c * image_length - image_length ≡ c * image_length = omega arith in
        (λ i. ((f ∙ ap (λ j. product m.0 (exponents_raw s (j + 2))) a) i, (get_or s (a i + 1) 0, m.1)))
        ∙ sym (ap (λ o. key_by o m) (table_at r s c (omega arith)))
