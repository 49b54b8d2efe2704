-- Some member of a list, every member of a list.
use mathlib.Core.Logic.{◌⊎◌, inl, inr}
use mathlib.Core.List.{List, [], ◌∷◌, ◌++◌}
use Prim.Native.Nat.{ℕ, zero, suc, ◌<◌}
use native.Mathlib.Omega.{arith}
use lib.ListN.{get_or, length}

abbrev pub Some : {A : Type 0} → (A → Type 0) → List A → Type 0
Some P [] = ⊥
Some P (x ∷ l) = P x ⊎ Some P l

abbrev pub Every : {A : Type 0} → (A → Type 0) → List A → Type 0
Every P [] = Unit {0}
Every P (x ∷ l) = P x × Every P l

module _ {A : Type 0} where
  pub some_map : (P Q : A → Type 0) → ((x : A) → P x → Q x) → (l : List A) → Some P l → Some Q l
  some_map P Q h [] x' = elim x' [ ]
  some_map P Q h (x ∷ l) (inl p) = inl (h x p)
  some_map P Q h (x ∷ l) (inr s) = inr (some_map P Q h l s)

  pub some_left : (P : A → Type 0) (l k : List A) → Some P l → Some P (l ++ k)
  some_left P [] k x' = elim x' [ ]
  some_left P (x ∷ l) k (inl p) = inl p
  some_left P (x ∷ l) k (inr s) = inr (some_left P l k s)

  pub some_right : (P : A → Type 0) (l k : List A) → Some P k → Some P (l ++ k)
  some_right P [] k s = s
  some_right P (x ∷ l) k s = inr (some_right P l k s)

  pub some_at : (d : A) (P : A → Type 0) (l : List A) → Some P l → (k : ℕ) × (k < length l) × P (get_or l k d)
  some_at d P [] x' = elim x' [ ]
  some_at d P (x ∷ l) (inl p) = (0, omega arith, p)
  some_at d P (x ∷ l) (inr s) = let (k, h, p) = some_at d P l s in (suc k, omega arith, p)

  pub every_map : (P Q : A → Type 0) → ((x : A) → P x → Q x) → (l : List A) → Every P l → Every Q l
  every_map P Q h [] s = tt
  every_map P Q h (x ∷ l) s = (h x s.0, every_map P Q h l s.1)

  pub every_append : (P : A → Type 0) (l k : List A) → Every P l → Every P k → Every P (l ++ k)
  every_append P [] k h s = s
  every_append P (x ∷ l) k h s = (h.0, every_append P l k h.1 s)

  pub every_at : (d : A) (P : A → Type 0) (l : List A) → Every P l → (k : ℕ) → k < length l → P (get_or l k d)
  every_at d P [] h k l = absurd (omega arith)
  every_at d P (x ∷ l) h zero i = h.0
  every_at d P (x ∷ l) h (suc k) i = every_at d P l h.1 k (omega arith)

  pub every_both : (P Q : A → Type 0) (l : List A) → Every P l → Every Q l → Every (λ x. P x × Q x) l
  every_both P Q [] p q = tt
  every_both P Q (x ∷ l) p q = ((p.0, q.0), every_both P Q l p.1 q.1)

  -- search
  pub seek : (P : A → Type 0) → ((x : A) → P x ⊎ (P x → ⊥)) → (l : List A) → Some P l ⊎ (Some P l → ⊥)
  seek P d [] = inr (λ s. s)
  seek P d (x ∷ l) = go (d x) (seek P d l)
    where
      go : P x ⊎ (P x → ⊥) → Some P l ⊎ (Some P l → ⊥) → Some P (x ∷ l) ⊎ (Some P (x ∷ l) → ⊥)
      go (inl p) s = inl (inl p)
      go (inr p) (inl s) = inl (inr s)
      go (inr p) (inr s) = inr (λ t. elim t [ inl a ↦ p a | inr b ↦ s b ])
