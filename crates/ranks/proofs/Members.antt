-- Members of the lists that the definition of a rank goes through.
use mathlib.Core.Path.{◌≡◌, refl, sym, ap, subst}
use mathlib.Core.Logic.{◌⊎◌, inl, inr}
use mathlib.Core.Bool.{Bool, true, false}
use mathlib.Core.List.{List, [], ◌∷◌, ◌++◌}
use Prim.Native.Nat.{ℕ, zero, suc, ◌+◌, ◌≤◌, ◌<◌}
use native.Mathlib.Omega.{arith}
use native.Mathlib.Decide.{ℕ_discrete}
use lib.Dec.{T}
use Rattle.definitions.specs.Lists.{map, from, every, those}
use Rattle.laws.proofs.Tests.{and_left, and_right, and_both}
use Rattle.ranks.proofs.Choices.{Among}

module _ {A : Type 0} where
  pub among_either : (a : A) (l k : List A) → Among a (l ++ k) → Among a l ⊎ Among a k
  among_either a [] k m = inr m
  among_either a (b ∷ l) k (inl e) = inl (inl e)
  among_either a (b ∷ l) k (inr m) = go (among_either a l k m)
    where
      go : Among a l ⊎ Among a k → Among a (b ∷ l) ⊎ Among a k
      go (inl i) = inl (inr i)
      go (inr i) = inr i

  pub every_says : (f : A → Bool) (l : List A) → T (every f l) → (a : A) → Among a l → T (f a)
  every_says f [] t a x'' = elim x'' [ ]
  every_says f (b ∷ l) t a (inl e) = subst (λ z. T (f z)) (sym e) (and_left (f b) (every f l) t)
  every_says f (b ∷ l) t a (inr m) = every_says f l (and_right (f b) (every f l) t) a m

  pub every_shows : (f : A → Bool) (l : List A) → ((a : A) → Among a l → T (f a)) → T (every f l)
  every_shows f [] h = tt
  every_shows f (b ∷ l) h = and_both (f b) (every f l) (h b (inl refl)) (every_shows f l (λ a m. h a (inr m)))

  -- the members that pass the test
  pub those_says : (f : A → Bool) (l : List A) (a : A) → Among a (those f l) → Among a l × T (f a)
  those_says f [] a m = elim m [ ]
  those_says f (b ∷ l) a m = go (f b) (λ s. s) m (those_says f l a)
    where
      go : (s : Bool) → (T s → T (f b)) → Among a (elim s [ true ↦ b ∷ those f l | false ↦ those f l ]) → (Among a (those f l) → Among a l × T (f a))
          → Among a (b ∷ l) × T (f a)
      go true h (inl e) k = (inl e, subst (λ z. T (f z)) (sym e) (h tt))
      go true h (inr m) k = (inr (k m).0, (k m).1)
      go false h m k = (inr (k m).0, (k m).1)

  pub those_shown : (f : A → Bool) (l : List A) (a : A) → Among a l → T (f a) → Among a (those f l)
  those_shown f [] a m t = elim m [ ]
  those_shown f (b ∷ l) a m t = go (f b) (λ e. subst (λ z. T (f z)) e t) m (λ i. those_shown f l a i t)
    where
      go : (s : Bool) → (a ≡ b → T s) → (a ≡ b) ⊎ Among a l → (Among a l → Among a (those f l))
          → Among a (elim s [ true ↦ b ∷ those f l | false ↦ those f l ])
      go true h (inl e) k = inl e
      go true h (inr i) k = inr (k i)
      go false h (inl e) k = absurd (h e)
      go false h (inr i) k = k i

module _ {A B : Type 0} (g : A → B) where
  pub among_map : (a : A) (l : List A) → Among a l → Among (g a) (map g l)
  among_map a [] x' = elim x' [ ]
  among_map a (b ∷ l) (inl e) = inl (ap g e)
  among_map a (b ∷ l) (inr m) = inr (among_map a l m)

  pub map_among : (b : B) (l : List A) → Among b (map g l) → (a : A) × (b ≡ g a) × Among a l
  map_among b [] x' = elim x' [ ]
  map_among b (a ∷ l) (inl e) = (a, e, inl refl)
  map_among b (a ∷ l) (inr m) = let (x, e, i) = map_among b l m in (x, e, inr i)

-- the numbers from a to a + n − 1
pub among_from : (a n j : ℕ) → a ≤ j → j < a + n → Among j (from a n)
among_from a zero j h k = absurd (omega arith)
among_from a (suc n) j h k = go (ℕ_discrete j a) (λ u v. among_from (suc a) n j u v)
  where
    go : Dec (j ≡ a) → (suc a ≤ j → j < suc a + n → Among j (from (suc a) n)) → Among j (from a (suc n))
    go (yes e) r = inl e
    go (no ne) r = inr (r (omega arith) (omega arith))

pub from_among : (a n j : ℕ) → Among j (from a n) → (a ≤ j) × (j < a + n)
from_among a zero j x' = elim x' [ ]
from_among a (suc n) j (inl e) = (omega arith, omega arith)
from_among a (suc n) j (inr m) = let (h, k) = from_among (suc a) n j m in (omega arith, omega arith)
