-- Members of lists, and lists of eight exponents: divisibility, and the orders as strict orders.
use mathlib.Core.Path.{◌≡◌, refl, sym, ap, ap₂, ◌∙◌, subst, subst₂}
use mathlib.Core.Logic.{◌⊎◌, inl, inr}
use mathlib.Core.Bool.{Bool, true, false}
use mathlib.Core.List.{List, [], ◌∷◌, ◌++◌}
use Prim.Native.Nat.{ℕ, zero, suc, ◌+◌, ◌<◌, ◌≤◌}
use native.Mathlib.Nat.{le_antisymm}
use native.Mathlib.Omega.{arith}
use lib.Dec.{T, leb, eqb, leb→le, le→leb, eqb→eq, eqb_refl}
use lib.ListN.{length, drop}
use Rattle.definitions.specs.Lists.{any, those, sum}
use Rattle.definitions.specs.Monomial.{Exponents, Monomial, divides?, divides_monomial?}
use Rattle.definitions.specs.Order.{Comparison, smaller, exponents_by}
use Rattle.laws.proofs.Tests.{and_left, and_right, and_both}
use Rattle.demands.specs.Notions.{Member}
use Rattle.demands.proofs.Exponents.{out, into, out_into, none}
use Rattle.demands.proofs.Comparisons.{Says, less, level, more, says_less, order, exponents_says}

-- ## Members

module _ {A : Type 0} where
  pub member_left : (a : A) (l k : List A) → Member a l → Member a (l ++ k)
  member_left a [] k x' = elim x' [ ]
  member_left a (b ∷ l) k (inl e) = inl e
  member_left a (b ∷ l) k (inr m) = inr (member_left a l k m)

  pub member_right : (a : A) (l k : List A) → Member a k → Member a (l ++ k)
  member_right a [] k m = m
  member_right a (b ∷ l) k m = inr (member_right a l k m)

  pub member_either : (a : A) (l k : List A) → Member a (l ++ k) → Member a l ⊎ Member a k
  member_either a [] k m = inr m
  member_either a (b ∷ l) k (inl e) = inl (inl e)
  member_either a (b ∷ l) k (inr m) = go (member_either a l k m)
    where
      go : Member a l ⊎ Member a k → Member a (b ∷ l) ⊎ Member a k
      go (inl i) = inl (inr i)
      go (inr i) = inr i

  -- a member passes the test
  pub any_says : (f : A → Bool) (l : List A) → T (any f l) → (a : A) × Member a l × T (f a)
  any_says f [] t = absurd t
  any_says f (a ∷ l) t = go (f a) (λ s. s) t (any_says f l)
    where
      go : (b : Bool) → (T b → T (f a)) → T (elim b [ true ↦ true | false ↦ any f l ]) → (T (any f l) → (a : A) × Member a l × T (f a))
          → (x : A) × Member x (a ∷ l) × T (f x)
      go true h t r = (a, inl refl, h tt)
      go false h t r = let (x, m, s) = r t in (x, inr m, s)

  pub any_shown : (f : A → Bool) (l : List A) (a : A) → Member a l → T (f a) → T (any f l)
  any_shown f [] a m t = elim m [ ]
  any_shown f (b ∷ l) a m t = go (f b) m (λ e. subst (λ z. T (f z)) e t) (λ i. any_shown f l a i t)
    where
      go : (s : Bool) → (a ≡ b) ⊎ Member a l → (a ≡ b → T s) → (Member a l → T (any f l)) → T (elim s [ true ↦ true | false ↦ any f l ])
      go true m h k = tt
      go false (inl e) h k = absurd (h e)
      go false (inr i) h k = k i

  -- the members that pass the test
  pub those_says : (f : A → Bool) (l : List A) (a : A) → Member a (those f l) → Member a l × T (f a)
  those_says f [] a m = elim m [ ]
  those_says f (b ∷ l) a m = go (f b) (λ s. s) m (those_says f l a)
    where
      go : (s : Bool) → (T s → T (f b)) → Member a (elim s [ true ↦ b ∷ those f l | false ↦ those f l ]) → (Member a (those f l) → Member a l × T (f a))
          → Member a (b ∷ l) × T (f a)
      go true h (inl e) k = (inl e, subst (λ z. T (f z)) (sym e) (h tt))
      go true h (inr m) k = (inr (k m).0, (k m).1)
      go false h m k = (inr (k m).0, (k m).1)

  pub those_shown : (f : A → Bool) (l : List A) (a : A) → Member a l → T (f a) → Member a (those f l)
  those_shown f [] a m t = elim m [ ]
  those_shown f (b ∷ l) a m t = go (f b) (λ e. subst (λ z. T (f z)) e t) m (λ i. those_shown f l a i t)
    where
      go : (s : Bool) → (a ≡ b → T s) → (a ≡ b) ⊎ Member a l → (Member a l → Member a (those f l))
          → Member a (elim s [ true ↦ b ∷ those f l | false ↦ those f l ])
      go true h (inl e) k = inl e
      go true h (inr i) k = inr (k i)
      go false h (inl e) k = absurd (h e)
      go false h (inr i) k = k i

-- ## Divisibility of exponents

pub divides_trans : (a b c : Exponents) → length a ≡ length b → T (divides? a b) → T (divides? b c) → T (divides? a c)
divides_trans [] b c l s t = tt
divides_trans (x ∷ a) [] c l s t = absurd (omega arith)
divides_trans (x ∷ a) (y ∷ b) [] l s t = tt
divides_trans (x ∷ a) (y ∷ b) (z ∷ c) l s t =
    let i : x ≤ y = leb→le x y (and_left (leb x y) (divides? a b) s) in
    let j : y ≤ z = leb→le y z (and_left (leb y z) (divides? b c) t) in
    and_both (leb x z) (divides? a c) (le→leb x z (omega arith)) (divides_trans a b c (omega arith) (and_right (leb x y) (divides? a b) s)
    (and_right (leb y z) (divides? b c) t))

pub divides_both : (a b : Exponents) → length a ≡ length b → T (divides? a b) → T (divides? b a) → a ≡ b
divides_both [] [] l s t = refl
divides_both [] (y ∷ b) l s t = absurd (omega arith)
divides_both (x ∷ a) [] l s t = absurd (omega arith)
divides_both (x ∷ a) (y ∷ b) l s t =
    ap₂ (λ u v. u ∷ v) (le_antisymm (leb→le x y (and_left (leb x y) (divides? a b) s)) (leb→le y x (and_left (leb y x) (divides? b a) t)))
    (divides_both a b (omega arith) (and_right (leb x y) (divides? a b) s) (and_right (leb y x) (divides? b a) t))

-- a divisor has at most the degree, and the same degree only if it is the same
pub divides_degree : (a b : Exponents) → length a ≡ length b → T (divides? a b) → (sum a < sum b) ⊎ (a ≡ b)
divides_degree [] [] l s = inr refl
divides_degree [] (y ∷ b) l s = absurd (omega arith)
divides_degree (x ∷ a) [] l s = absurd (omega arith)
divides_degree (x ∷ a) (y ∷ b) l s =
    go (divides_degree a b (omega arith) (and_right (leb x y) (divides? a b) s)) (eqb x y) (eqb→eq x y) (λ e. subst (λ z. T (eqb x z)) e (eqb_refl x))
  where
    i : x ≤ y
    i = leb→le x y (and_left (leb x y) (divides? a b) s)

    go : (sum a < sum b) ⊎ (a ≡ b) → (t : Bool) → (T t → x ≡ y) → (x ≡ y → T t) → (x + sum a < y + sum b) ⊎ ((x ∷ a) ≡ (y ∷ b))
    go (inl h) t e n = inl (omega (arith, i))
    go (inr h) true e n = inr (ap₂ (λ u v. u ∷ v) (e tt) h)
    go (inr h) false e n = inl (let k : sum a ≡ sum b = ap sum h in let m : ¬ (x ≡ y) = λ z. n z in omega (arith, i))

pub monomial_divides : (t u : Monomial) → T (divides_monomial? t u) → (t.1 ≡ u.1) × T (divides? t.0 u.0)
monomial_divides t u s = (
  eqb→eq t.1 u.1 (and_left (eqb t.1 u.1) (divides? t.0 u.0) s),
  and_right (eqb t.1 u.1) (divides? t.0 u.0) s,
)

pub divides_monomial : (t u : Monomial) → t.1 ≡ u.1 → T (divides? t.0 u.0) → T (divides_monomial? t u)
divides_monomial t u e s = and_both (eqb t.1 u.1) (divides? t.0 u.0) (subst (λ z. T (eqb t.1 z)) e (eqb_refl t.1)) s

-- ## The orders of eight exponents

module _ (code : ℕ) where
  -- a is below b
  abbrev pub Under : Exponents → Exponents → Type 0
  Under a b = (order code 8).Lt (into 8 a) (into 8 b)

  eight_back : (a : Exponents) → length a ≡ 8 → out 8 (into 8 a) ≡ a
  eight_back a h = out_into 8 (omega arith) a h (past 8 a h)
    where
      past : (k : ℕ) (l : Exponents) → length l ≡ k → T (none (drop k l))
      past zero [] e = tt
      past zero (x ∷ l) e = absurd (omega arith)
      past (suc k) [] e = tt
      past (suc k) (x ∷ l) e = past k l (omega arith)

  pub eight_says : (a b : Exponents) → length a ≡ 8 → length b ≡ 8 → Says (Under a b) (a ≡ b) (Under b a) (exponents_by code a b)
  eight_says a b ha hb = turn (subst₂ (λ x y. Says (Under a b) (into 8 a ≡ into 8 b) (Under b a) (exponents_by code x y)) (eight_back a ha)
      (eight_back b hb)
      (exponents_says code 8 (into 8 a) (into 8 b)))
    where
      turn : {c : Comparison} → Says (Under a b) (into 8 a ≡ into 8 b) (Under b a) c → Says (Under a b) (a ≡ b) (Under b a) c
      turn (less s) = less s
      turn (level s) = level (sym (eight_back a ha) ∙ ap (out 8) s ∙ eight_back b hb)
      turn (more s) = more s

  pub says_under : (a b : Exponents) → length a ≡ 8 → length b ≡ 8 → exponents_by code a b ≡ smaller → Under a b
  says_under a b ha hb e = says_less (eight_says a b ha hb) e

  pub under_says : (a b : Exponents) → length a ≡ 8 → length b ≡ 8 → Under a b → exponents_by code a b ≡ smaller
  under_says a b ha hb h = go (eight_says a b ha hb)
    where
      go : {c : Comparison} → Says (Under a b) (a ≡ b) (Under b a) c → c ≡ smaller
      go (less s) = refl
      go (level s) = absurd ((order code 8).irrefl (into 8 b) (subst (λ z. Under z b) s h))
      go (more s) = absurd ((order code 8).irrefl (into 8 a) ((order code 8).trans (into 8 a) (into 8 b) (into 8 a) h s))
