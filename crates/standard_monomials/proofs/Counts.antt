-- Laws of counting over lists.
use mathlib.Core.Path.{◌≡◌, refl, sym, ap, ap₂, ◌∙◌}
use mathlib.Core.Bool.{Bool, true, false, not}
use mathlib.Core.List.{List, [], ◌∷◌, ◌++◌}
use Prim.Native.Nat.{ℕ, suc, ◌+◌, ◌≤◌}
use native.Mathlib.Omega.{arith}
use lib.ListN.{length}
use Rattle.definitions.specs.Lists.{those, count, map}
use Rattle.laws.proofs.Members.{All}

-- what a member adds to the count
abbrev pub one : Bool → ℕ
one true = 1
one false = 0

module _ {A : Type 0} where
  pub count_more : (f : A → Bool) (a : A) (l : List A) → count f (a ∷ l) ≡ one (f a) + count f l
  count_more f a l = go (f a)
    where
      go : (b : Bool) → elim b [ true ↦ suc (count f l) | false ↦ count f l ] ≡ one b + count f l
      go true = omega arith
      go false = omega arith

  pub count_append : (f : A → Bool) (l m : List A) → count f (l ++ m) ≡ count f l + count f m
  count_append f [] m = omega arith
  count_append f (a ∷ l) m =
      let x = count_more f a (l ++ m) in let y = count_more f a l in let e = count_append f l m in omega (arith, x, y, e)

  -- tests that agree on the members
  pub count_agree : (f g : A → Bool) (l : List A) → All (λ a. f a ≡ g a) l → count f l ≡ count g l
  count_agree f g [] h = refl
  count_agree f g (a ∷ l) h = ap₂ {C = ℕ} (λ b n. elim b [ true ↦ suc n | false ↦ n ]) h.0 (count_agree f g l h.1)

  pub all_of : (P : A → Type 0) → ((a : A) → P a) → (l : List A) → All P l
  all_of P h [] = tt
  all_of P h (a ∷ l) = (h a, all_of P h l)

  -- tests that agree everywhere
  pub count_same : (f g : A → Bool) (l : List A) → ((a : A) → f a ≡ g a) → count f l ≡ count g l
  count_same f g l h = count_agree f g l (all_of (λ a. f a ≡ g a) h l)

  pub count_none : (l : List A) → count (λ a. false) l ≡ 0
  count_none [] = refl
  count_none (a ∷ l) = count_none l

  pub count_all : (l : List A) → count (λ a. true) l ≡ length l
  count_all [] = refl
  count_all (a ∷ l) = ap suc (count_all l)

  pub length_those : (f : A → Bool) (l : List A) → length (those f l) ≡ count f l
  length_those f [] = refl
  length_those f (a ∷ l) = go (f a) (length_those f l)
    where
      go : (b : Bool) → length (those f l) ≡ count f l
          → length {A = A} (elim b [ true ↦ a ∷ those f l | false ↦ those f l ]) ≡ elim b [ true ↦ suc (count f l) | false ↦ count f l ]
      go true e = ap suc e
      go false e = e

  -- a count parted in two
  pub count_parted : (f g h : A → Bool) (l : List A) → ((a : A) → one (f a) ≡ one (g a) + one (h a)) → count f l ≡ count g l + count h l
  count_parted f g h [] e = refl
  count_parted f g h (a ∷ l) e =
      let x = count_more f a l in let y = count_more g a l in let z = count_more h a l in let i = e a in let r = count_parted f g h l e in
      omega (arith, x, y, z, i, r)

  -- those that pass the test and those that do not
  pub count_not : (f : A → Bool) (l : List A) → count (λ a. not (f a)) l + count f l ≡ length l
  count_not f l = sym (count_parted (λ a. true) (λ a. not (f a)) f l (λ a. go (f a))) ∙ count_all l
    where
      go : (b : Bool) → 1 ≡ one (not b) + one b
      go true = refl
      go false = refl

  pub count_bound : (f : A → Bool) (l : List A) → count f l ≤ length l
  count_bound f l = let e = count_not f l in omega (arith, e)

module _ {A B : Type 0} where
  pub count_map : (f : B → Bool) (h : A → B) (l : List A) → count f (map h l) ≡ count (λ a. f (h a)) l
  count_map f h [] = refl
  count_map f h (a ∷ l) = ap {B = ℕ} (λ n. elim (f (h a)) [ true ↦ suc n | false ↦ n ]) (count_map f h l)

  pub length_map : (h : A → B) (l : List A) → length (map h l) ≡ length l
  length_map h [] = refl
  length_map h (a ∷ l) = ap suc (length_map h l)

  pub all_mapped : (P : B → Type 0) (h : A → B) (l : List A) → All (λ a. P (h a)) l → All P (map h l)
  all_mapped P h [] k = tt
  all_mapped P h (a ∷ l) k = (k.0, all_mapped P h l k.1)
