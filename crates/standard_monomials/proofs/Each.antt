-- Lists that have each member once: parts, images, those that pass a test, and how many there are.
use mathlib.Core.Path.{◌≡◌, refl, sym, ap, ◌∙◌, subst}
use mathlib.Core.Logic.{◌⊎◌, inl, inr}
use mathlib.Core.Bool.{Bool, true, false}
use mathlib.Core.List.{List, [], ◌∷◌, ◌++◌}
use Prim.Native.Nat.{suc, ◌≤◌}
use native.Mathlib.Omega.{arith}
use lib.ListN.{length}
use Rattle.definitions.specs.Lists.{those, map}
use Rattle.laws.proofs.Members.{All}
use Rattle.demands.specs.Notions.{Member}
use Rattle.demands.proofs.Members.{member_either, those_says}
use Rattle.standard_monomials.specs.Notions.{Distinct, ListsEach}

-- ## Members

module _ {A : Type 0} where
  pub all_member : (P : A → Type 0) (l : List A) → All P l → (a : A) → Member a l → P a
  all_member P [] h a x'' = elim x'' [ ]
  all_member P (b ∷ l) h a (inl e) = subst P (sym e) h.0
  all_member P (b ∷ l) h a (inr m) = all_member P l h.1 a m

module _ {A B : Type 0} where
  pub map_shown : (h : A → B) (l : List A) (a : A) → Member a l → Member (h a) (map h l)
  map_shown h [] a x' = elim x' [ ]
  map_shown h (b ∷ l) a (inl e) = inl (ap h e)
  map_shown h (b ∷ l) a (inr m) = inr (map_shown h l a m)

  pub map_says : (h : A → B) (l : List A) (b : B) → Member b (map h l) → (a : A) × Member a l × (b ≡ h a)
  map_says h [] b x' = elim x' [ ]
  map_says h (a ∷ l) b (inl e) = (a, inl refl, e)
  map_says h (a ∷ l) b (inr m) = let (c, i, e) = map_says h l b m in (c, inr i, e)

-- ## Distinct

module _ {A : Type 0} where
  pub distinct_append : (l k : List A) → Distinct l → Distinct k → ((a : A) → Member a l → ¬ (Member a k)) → Distinct (l ++ k)
  distinct_append [] k h i apart = i
  distinct_append (a ∷ l) k h i apart =
      (λ m. go (member_either a l k m), distinct_append l k h.1 i (λ b m. apart b (inr m)))
    where
      go : Member a l ⊎ Member a k → ⊥
      go (inl m) = h.0 m
      go (inr m) = apart a (inl refl) m

  pub distinct_those : (f : A → Bool) (l : List A) → Distinct l → Distinct (those f l)
  distinct_those f [] h = tt
  distinct_those f (a ∷ l) h = go (f a) (distinct_those f l h.1)
    where
      go : (b : Bool) → Distinct (those f l) → Distinct {A = A} (elim b [ true ↦ a ∷ those f l | false ↦ those f l ])
      go true d = (λ m. h.0 (those_says f l a m).0, d)
      go false d = d

module _ {A B : Type 0} (P : A → Type 0) (h : A → B) (apart : (a b : A) → P a → P b → h a ≡ h b → a ≡ b) where
  -- of members that h keeps apart
  pub distinct_map : (l : List A) → All P l → Distinct l → Distinct (map h l)
  distinct_map [] p d = tt
  distinct_map (a ∷ l) p d = (other, distinct_map l p.1 d.1)
    where
      other : ¬ (Member (h a) (map h l))
      other m =
          let (b, i, e) = map_says h l (h a) m in
          d.0 (subst (λ c. Member c l) (sym (apart a b p.0 (all_member P l p.1 b i) e)) i)

-- ## How many

module _ {A : Type 0} where
  -- the list without this member
  taken : (a : A) (l : List A) → Member a l → List A
  taken a [] x' = elim x' [ ]
  taken a (b ∷ l) (inl e) = l
  taken a (b ∷ l) (inr m) = b ∷ taken a l m

  taken_length : (a : A) (l : List A) (m : Member a l) → length l ≡ suc (length (taken a l m))
  unfolding taken
  taken_length a [] m = elim m [ ]
  taken_length a (b ∷ l) (inl e) = refl
  taken_length a (b ∷ l) (inr m) = ap suc (taken_length a l m)

  -- what is in the list is the member, or still there
  taken_either : (a : A) (l : List A) (m : Member a l) (x : A) → Member x l → (x ≡ a) ⊎ Member x (taken a l m)
  unfolding taken
  taken_either a [] m x _ = elim m [ ]
  taken_either a (b ∷ l) (inl e) x (inl z) = inl (z ∙ sym e)
  taken_either a (b ∷ l) (inl e) x (inr i) = inr i
  taken_either a (b ∷ l) (inr m) x (inl z) = inr (inl z)
  taken_either a (b ∷ l) (inr m) x (inr i) = go (taken_either a l m x i)
    where
      go : (x ≡ a) ⊎ Member x (taken a l m) → (x ≡ a) ⊎ ((x ≡ b) ⊎ Member x (taken a l m))
      go (inl z) = inl z
      go (inr j) = inr (inr j)

  no_more : (l k : List A) → Distinct l → ((a : A) → Member a l → Member a k) → length l ≤ length k
  no_more [] k d h = omega arith
  no_more (a ∷ l) k d h =
      let m : Member a k = h a (inl refl) in
      let r = no_more l (taken a k m) d.1 (λ x i. still x i (taken_either a k m x (h x (inr i)))) in
      let e = taken_length a k m in
      omega (arith, r, e)
    where
      still : (x : A) → Member x l → (x ≡ a) ⊎ Member x (taken a k (h a (inl refl))) → Member x (taken a k (h a (inl refl)))
      still x i (inl e) = absurd (d.0 (subst (λ z. Member z l) e i))
      still x i (inr j) = j

  -- two lists that have each of the same once have the same length
  pub one_number : (P : A → Type 0) (l k : List A) → ListsEach P l → ListsEach P k → length l ≡ length k
  one_number P l k L K =
      let a = no_more l k L.once (λ x m. K.all x (L.only x m)) in
      let b = no_more k l K.once (λ x m. L.all x (K.only x m)) in
      omega (arith, a, b)
