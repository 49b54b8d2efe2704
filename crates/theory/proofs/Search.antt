-- The search finds the lowest reducer, or there is none.
use mathlib.Core.Path.{◌≡◌, subst}
use mathlib.Core.Logic.{inl, inr, ◌⊎◌}
use mathlib.Core.Option.{Option, none, some}
use Prim.Native.Nat.{ℕ, zero, suc, ◌<◌, ◌≤◌}
use native.Mathlib.Omega.{arith}
use native.Mathlib.Decide.{dec_lt}
use Rattle.theory.specs.Laws.{Scalars, Monoid, Level}
use Rattle.theory.specs.Induced.{image}
use Rattle.theory.specs.Reckon.{Reducer, Lower, Reducers}
use Rattle.theory.specs.Stage.{Finite, family}
use Rattle.theory.specs.Division.{Quotient, Divided}
use Rattle.theory.specs.Frames.{find, first, numbered}

module _ {M : Monoid} (L : Level M) (Q : Divided L) (lm : ℕ → L.B) where
  open M use {E}
  open L use {B, act}

  abbrev pub Found : ℕ → B → Option (E × ℕ) → Type 0
  Found r b none = (y : E × ℕ) → y.1 < r → image L lm y ≡ b → ⊥
  Found r b (some x) = (x.1 < r) × (image L lm x ≡ b) × ((y : E × ℕ) → y.1 < r → image L lm y ≡ b → x.1 ≤ y.1)

  pub find_is : (r : ℕ) (b : B) → Found r b (find L Q lm r b)
  find_is zero b = λ y h e. omega arith
  find_is (suc j) b = go (find L Q lm j b) (Q.quotL (lm j) b) (find_is j b) (Q.quotL_is (lm j) b)
    where
      at_j : (y : E × ℕ) → y.1 ≡ j → image L lm y ≡ b → act y.0 (lm j) ≡ b
      at_j y i e = subst (λ z. act y.0 (lm z) ≡ b) i e

      go : (o : Option (E × ℕ)) (q : Option E) → Found j b o → Quotient (λ m. act m (lm j)) b q → Found (suc j) b (first o (numbered j q))
      go (some x) q h k = (omega arith, h.1, λ y l e. least y l e (dec_lt y.1 j))
        where
          least : (y : E × ℕ) → y.1 < suc j → image L lm y ≡ b → Dec (y.1 < j) → x.1 ≤ y.1
          least y l e (yes p) = h.2 y p e
          least y l e (no p) = let a : x.1 < j = h.0 in omega arith
      go none (some m) h k = (omega arith, k, λ y l e. least y l e (dec_lt y.1 j))
        where
          least : (y : E × ℕ) → y.1 < suc j → image L lm y ≡ b → Dec (y.1 < j) → j ≤ y.1
          least y l e (yes p) = absurd (h y p e)
          least y l e (no p) = omega arith
      go none none h k = λ y l e. least y l e (dec_lt y.1 j)
        where
          least : (y : E × ℕ) → y.1 < suc j → image L lm y ≡ b → Dec (y.1 < j) → ⊥
          least y l e (yes p) = h y p e
          least y l e (no p) = k y.0 (at_j y (omega arith) e)

module _ (S : Scalars) {M : Monoid} (L : Level M) (Q : Divided L) (A : Finite S L) where
  abbrev pub reducer_by : (b : L.B) (o : Option (M.E × ℕ)) → Found L Q A.lm A.count b o
      → Reducer S L (family S L A) b ⊎ Lower S L (family S L A) b
  reducer_by b (some x) h = inl (record { at = x; dom = h.0; hits = h.1; lowest = h.2 })
  reducer_by b none h = inr h

  abbrev pub reducers : Reducers S L (family S L A)
  reducers b = reducer_by b (find L Q A.lm A.count b) (find_is L Q A.lm A.count b)
