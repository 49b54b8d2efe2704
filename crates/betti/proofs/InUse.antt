-- Rows in use: the smallest and the largest are rows of generators, and every generator's row is between them.
use mathlib.Core.Path.{◌≡◌, refl, sym, ◌∙◌, subst}
use mathlib.Core.Logic.{◌⊎◌, inl, inr}
use mathlib.Core.Bool.{Bool, true, false, not}
use mathlib.Core.List.{List, [], ◌∷◌, ◌++◌}
use Prim.Native.Nat.{ℕ, suc, ◌+◌, ◌-◌, ◌<◌, ◌≤◌, max, min}
use native.Mathlib.Omega.{arith}
use lib.Dec.{T, eqb, leb, leb→le, nleb→lt, eqb→eq, eqb_refl}
use lib.ListN.{length, get_or}
use Rattle.definitions.specs.Lists.{count, map}
use Rattle.definitions.specs.Betti.{rows_in_use, smallest, largest}
use Rattle.definitions.specs.Places.{row_shift}
use Rattle.demands.specs.Notions.{Member}
use Rattle.laws.proofs.Members.{All}

-- ## Members

module _ {A : Type 0} where
  member_append : (a : A) (l m : List A) → Member a (l ++ m) → Member a l ⊎ Member a m
  member_append a [] m h = inr h
  member_append a (b ∷ l) m (inl e) = inl (inl e)
  member_append a (b ∷ l) m (inr h) = go (member_append a l m h)
    where
      go : Member a l ⊎ Member a m → Member a (b ∷ l) ⊎ Member a m
      go (inl x) = inl (inr x)
      go (inr x) = inr x

-- a member of the images is one of a member
pub record ImageOf (f : ℕ → ℕ) (l : List ℕ) (x : ℕ) : Type 0 where
  pub of : ℕ
  pub member : Member of l
  pub is : x ≡ f of

member_map : (f : ℕ → ℕ) (l : List ℕ) (x : ℕ) → Member x (map f l) → ImageOf f l x
member_map f [] x h = absurd h
member_map f (a ∷ l) x (inl e) = record { of = a; member = inl refl; is = e }
member_map f (a ∷ l) x (inr h) = let r = member_map f l x h in record { of = r.of; member = inr r.member; is = r.is }

-- counted where it is a member
pub member_counted : (x : ℕ) (l : List ℕ) → Member x l → 0 < count (λ y. eqb y x) l
member_counted x [] h = absurd h
member_counted x (a ∷ l) h = go (eqb a x) (λ (e : x ≡ a). subst (λ z. T (eqb a z)) (sym e) (eqb_refl a)) h (member_counted x l)
  where
    go : (b : Bool) → (x ≡ a → T b) → (x ≡ a) ⊎ Member x l → (Member x l → 0 < count (λ y. eqb y x) l)
        → 0 < elim b [ true ↦ suc (count (λ y. eqb y x) l) | false ↦ count (λ y. eqb y x) l ]
    go true f h ih = omega arith
    go false f (inl e) ih = absurd (f e)
    go false f (inr h) ih = ih h

-- .. and then it has what all members have
pub counted_all : (P : ℕ → Type 0) (x : ℕ) (l : List ℕ) → 0 < count (λ y. eqb y x) l → All P l → P x
counted_all P x [] h k = absurd (omega arith)
counted_all P x (a ∷ l) h k = go (eqb a x) (eqb→eq a x) h (λ i. counted_all P x l i k.1)
  where
    go : (b : Bool) → (T b → a ≡ x) → 0 < elim b [ true ↦ suc (count (λ y. eqb y x) l) | false ↦ count (λ y. eqb y x) l ]
        → (0 < count (λ y. eqb y x) l → P x) → P x
    go true f h ih = subst P (f tt) k.0
    go false f h ih = ih h

-- ## The smallest and the largest

one_of_two : (a b c : ℕ) (l : List ℕ) → ((c ≡ a) ⊎ (c ≡ b)) → (x : ℕ) → Member x (c ∷ l) → Member x (a ∷ b ∷ l)
one_of_two a b c l (inl e) x (inl h) = inl (h ∙ e)
one_of_two a b c l (inr e) x (inl h) = inr (inl (h ∙ e))
one_of_two a b c l e x (inr h) = inr (inr h)

min_is : (a b : ℕ) → (min a b ≡ a) ⊎ (min a b ≡ b)
min_is a b = go (leb a b) (leb→le a b) (nleb→lt a b)
  where
    go : (t : Bool) → (T t → a ≤ b) → (T (not t) → b < a) → (min a b ≡ a) ⊎ (min a b ≡ b)
    go true h k = inl (let l = h tt in omega (arith, l))
    go false h k = inr (let l = k tt in omega (arith, l))

max_is : (a b : ℕ) → (max a b ≡ a) ⊎ (max a b ≡ b)
max_is a b = go (leb a b) (leb→le a b) (nleb→lt a b)
  where
    go : (t : Bool) → (T t → a ≤ b) → (T (not t) → b < a) → (max a b ≡ a) ⊎ (max a b ≡ b)
    go true h k = inr (let l = h tt in omega (arith, l))
    go false h k = inl (let l = k tt in omega (arith, l))

pub smallest_member : (a : ℕ) (l : List ℕ) → Member (smallest a l) (a ∷ l)
smallest_member a [] = inl refl
smallest_member a (b ∷ l) = one_of_two a b (min a b) l (min_is a b) (smallest (min a b) l) (smallest_member (min a b) l)

pub largest_member : (a : ℕ) (l : List ℕ) → Member (largest a l) (a ∷ l)
largest_member a [] = inl refl
largest_member a (b ∷ l) = one_of_two a b (max a b) l (max_is a b) (largest (max a b) l) (largest_member (max a b) l)

-- ## A row in use is a generator's

pub record Used (first : ℕ) (cs : List (List ℕ)) (r : ℕ) : Type 0 where
  pub column : ℕ
  pub inside : column < length cs
  pub degree : ℕ
  pub member : Member degree (get_or cs column [])
  pub row : r ≡ degree + row_shift - (first + column)

pub row_used : (first : ℕ) (cs : List (List ℕ)) (r : ℕ) → Member r (rows_in_use first cs) → Used first cs r
row_used first [] r h = absurd h
row_used first (ds ∷ cs) r h =
    go (member_append r (map (λ d. d + row_shift - first) ds) (rows_in_use (suc first) cs) h) (row_used (suc first) cs r)
  where
    go : Member r (map (λ d. d + row_shift - first) ds) ⊎ Member r (rows_in_use (suc first) cs)
        → (Member r (rows_in_use (suc first) cs) → Used (suc first) cs r) → Used first (ds ∷ cs) r
    go (inl m) ih =
        let i = member_map (λ d. d + row_shift - first) ds r m in
        record { column = 0; inside = omega arith; degree = i.of; member = i.member; row = let e = i.is in omega (arith, e) }
    go (inr m) ih =
        let u = ih m in
        record {
          column = suc u.column;
          inside = let l = u.inside in omega (arith, l);
          degree = u.degree;
          member = u.member;
          row = let e = u.row in omega (arith, e);
        }
