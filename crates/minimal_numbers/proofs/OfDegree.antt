-- The numbers of a column's generators of one degree.
use mathlib.Core.Path.{◌≡◌, refl, sym, ap, ◌∙◌, subst}
use mathlib.Core.Bool.{Bool, true, false}
use mathlib.Core.List.{List, [], ◌∷◌}
use Prim.Native.Nat.{ℕ, zero, suc, ◌+◌, ◌<◌}
use native.Mathlib.Omega.{arith}
use lib.Dec.{T, eqb, eqb→eq, eqb_refl}
use lib.ListN.{length, get_or}
use Rattle.definitions.specs.Lists.{those, count, map, from}
use Rattle.definitions.specs.Monomial.{Level, vector_of}
use Rattle.definitions.specs.Minimal.{of_degree}
use Rattle.definitions.specs.Places.{row_shift}
use Rattle.laws.proofs.Members.{All, all_map}

-- the numbers of those of degree d, i being the first one's
abbrev pub numbers_from : ℕ → ℕ → List ℕ → List ℕ
numbers_from i d [] = []
numbers_from i d (x ∷ xs) = elim (eqb x d) [ true ↦ i ∷ numbers_from (suc i) d xs | false ↦ numbers_from (suc i) d xs ]

-- what a number of the list says
pub record Numbered (i d : ℕ) (xs : List ℕ) (n : ℕ) : Type 0 where
  pub place : ℕ
  pub is : n ≡ i + place
  pub inside : place < length xs
  pub degree_is : get_or xs place 0 ≡ d

pub numbers_say : (i d : ℕ) (xs : List ℕ) → All (Numbered i d xs) (numbers_from i d xs)
numbers_say i d [] = tt
numbers_say i d (x ∷ xs) = go (eqb x d) (eqb→eq x d)
    (all_map (Numbered (suc i) d xs) (Numbered i d (x ∷ xs)) later (numbers_from (suc i) d xs) (numbers_say (suc i) d xs))
  where
    later : (n : ℕ) → Numbered (suc i) d xs n → Numbered i d (x ∷ xs) n
    later n s = record {
      place = suc s.place;
      is = omega (arith, s.is);
      inside = omega (arith, s.inside);
      degree_is = s.degree_is;
    }

    go : (b : Bool) → (T b → x ≡ d) → All (Numbered i d (x ∷ xs)) (numbers_from (suc i) d xs)
        → All (Numbered i d (x ∷ xs)) (elim b [ true ↦ i ∷ numbers_from (suc i) d xs | false ↦ numbers_from (suc i) d xs ])
    go true e k = (record { place = 0; is = omega arith; inside = omega arith; degree_is = e tt }, k)
    go false e k = k

pub length_numbers : (i d : ℕ) (xs : List ℕ) → length (numbers_from i d xs) ≡ count (λ x. eqb x d) xs
length_numbers i d [] = refl
length_numbers i d (x ∷ xs) = go (eqb x d) (length_numbers (suc i) d xs)
  where
    go : (b : Bool) → length (numbers_from (suc i) d xs) ≡ count (λ x. eqb x d) xs
        → length {A = ℕ} (elim b [ true ↦ i ∷ numbers_from (suc i) d xs | false ↦ numbers_from (suc i) d xs ])
        ≡ elim b [ true ↦ suc (count (λ x. eqb x d) xs) | false ↦ count (λ x. eqb x d) xs ]
    go true e = ap suc e
    go false e = e

-- degrees given by number
pub those_are : (P : ℕ → ℕ) (d i : ℕ) (xs : List ℕ) → ((k : ℕ) → k < length xs → P (i + k) ≡ get_or xs k 0)
    → those (λ n. eqb (P n) d) (from i (length xs)) ≡ numbers_from i d xs
those_are P d i [] h = refl
those_are P d i (x ∷ xs) h =
    let here : P i ≡ x = let z : i ≡ i + 0 = omega arith in ap P z ∙ h 0 (omega arith) in
    let later = those_are P d (suc i) xs (λ k l. let z : suc i + k ≡ i + suc k = omega arith in ap P z ∙ h (suc k) (omega arith)) in
    λ t. elim (eqb (here t) d) [ true ↦ i ∷ later t | false ↦ later t ]

-- ## The definition's lists

module _ (d t : ℕ) (e : d + row_shift ≡ t) where
  same_test : (x : ℕ) → eqb (x + row_shift) t ≡ eqb x d
  same_test x = go (eqb (x + row_shift) t) (eqb x d) (eqb→eq (x + row_shift) t) (eqb→eq x d)
      (λ i. subst (λ y. T (eqb (x + row_shift) y)) i (eqb_refl (x + row_shift))) (λ i. subst (λ y. T (eqb x y)) i (eqb_refl x))
    where
      go : (a b : Bool) → (T a → x + row_shift ≡ t) → (T b → x ≡ d) → (x + row_shift ≡ t → T a) → (x ≡ d → T b) → a ≡ b
      go true true p q r s = refl
      go false false p q r s = refl
      go true false p q r s = absurd (s (let i : x + row_shift ≡ t = p tt in omega (arith, i, e)))
      go false true p q r s = absurd (r (let i : x ≡ d = q tt in omega (arith, i, e)))

  module _ {A : Type 0} (F : ℕ → A) (none : A) where
    -- of a list given by number
    members_are : (i : ℕ) (xs : List ℕ) (l : List A) → length xs ≡ length l → ((k : ℕ) → k < length l → F (i + k) ≡ get_or l k none)
        → of_degree t xs l ≡ map F (numbers_from i d xs)
    members_are i [] l h f = refl
    members_are i (x ∷ xs) [] h f = absurd (omega arith)
    members_are i (x ∷ xs) (a ∷ l) h f =
        let here : a ≡ F i = let z : i ≡ i + 0 = omega arith in sym (ap F z ∙ f 0 (omega arith)) in
        let later = members_are (suc i) xs l (omega arith) (λ k s. let z : suc i + k ≡ i + suc k = omega arith in ap F z ∙ f (suc k) (omega arith)) in
        (λ j. elim (same_test x j) [ true ↦ here j ∷ later j | false ↦ later j ]) ∙ go (eqb x d)
      where
        go : (b : Bool) → ◌≡◌ {A = List A} (elim b [ true ↦ F i ∷ map F (numbers_from (suc i) d xs) | false ↦ map F (numbers_from (suc i) d xs) ])
            (map F (elim b [ true ↦ i ∷ numbers_from (suc i) d xs | false ↦ numbers_from (suc i) d xs ]))
        go true = refl
        go false = refl

  getD_from : (i k n m : ℕ) → k < n → get_or (from i n) k m ≡ i + k
  getD_from i k zero m h = absurd (omega arith)
  getD_from i zero (suc n) m h = omega arith
  getD_from i (suc k) (suc n) m h = getD_from (suc i) k n m (omega arith) ∙ omega arith

  map_same : (l : List ℕ) → map (λ n. n) l ≡ l
  map_same [] = refl
  map_same (n ∷ l) = ap (λ z. n ∷ z) (map_same l)

  length_from : (i n : ℕ) → length (from i n) ≡ n
  length_from i zero = refl
  length_from i (suc n) = ap suc (length_from (suc i) n)

  -- the numbers themselves
  pub numbers_are : (xs : List ℕ) → of_degree t xs (from 1 (length xs)) ≡ numbers_from 1 d xs
  numbers_are xs =
      members_are (λ n. n) 0 1 xs (from 1 (length xs)) (sym (length_from 1 (length xs)))
      (λ k h. sym (getD_from 1 k (length xs) 0 (subst (λ n. k < n) (length_from 1 (length xs)) h))) ∙ map_same (numbers_from 1 d xs)

  -- the vectors
  pub vectors_are : (xs : List ℕ) (f : Level) → length xs ≡ length f → of_degree t xs f ≡ map (vector_of f) (numbers_from 1 d xs)
  vectors_are xs f h = members_are (vector_of f) [] 1 xs f h (λ k l. let z : 1 + k ≡ suc k = omega arith in ap (vector_of f) z)
