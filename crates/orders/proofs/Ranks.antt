-- The rank of a tie among a list of keys compares as the tie does.
use mathlib.Core.Path.{◌≡◌, refl, sym, ◌∙◌, subst}
use mathlib.Core.Logic.{◌⊎◌, inl, inr}
use mathlib.Core.Bool.{Bool, true, false}
use mathlib.Core.List.{List, [], ◌∷◌}
use Prim.Native.Nat.{ℕ, ◌<◌, ◌≤◌}
use native.Mathlib.Omega.{arith}
use Rattle.definitions.specs.Order.{Comparison, greater, equal, smaller, or_at_tie, numbers}
use Rattle.laws.proofs.Comparisons.{Says, numbers_say, numbers_are}
use Rattle.orders.specs.Images.{Key}
use Rattle.orders.specs.Levels.{Tie, compare_ties, smaller?, counted, lower, rank}

-- ## What a comparison of ties says

-- a before b
abbrev Before : Tie → Tie → Type 0
Before a b = (a.0 < b.0) ⊎ ((a.0 ≡ b.0) × (a.1 < b.1))

abbrev Ties : Comparison → Tie → Tie → Type 0
Ties greater a b = Before b a
Ties equal a b = (a.0 ≡ b.0) × (a.1 ≡ b.1)
Ties smaller a b = Before a b

ties_say : (a b : Tie) → Ties (compare_ties a b) a b
ties_say a b = go (numbers a.0 b.0) (numbers_say a.0 b.0) (numbers a.1 b.1) (numbers_say a.1 b.1)
  where
    go : (c : Comparison) → Says c a.0 b.0 → (d : Comparison) → Says d a.1 b.1 → Ties (or_at_tie c d) a b
    go greater h d k = inl h
    go equal h greater k = inr (sym h, k)
    go equal h equal k = (h, k)
    go equal h smaller k = inr (h, k)
    go smaller h d k = inl h

before_trans : (a b c : Tie) → Before a b → Before b c → Before a c
before_trans a b c (inl h) (inl k) = inl (omega arith)
before_trans a b c (inl h) (inr k) = inl (omega arith)
before_trans a b c (inr h) (inl k) = inl (omega arith)
before_trans a b c (inr h) (inr k) = inr (h.0 ∙ k.0, omega arith)

before_not : (a b : Tie) → Before a b → Before b a → ⊥
before_not a b (inl h) (inl k) = omega arith
before_not a b (inl h) (inr k) = omega arith
before_not a b (inr h) (inl k) = omega arith
before_not a b (inr h) (inr k) = omega arith

before_self : (a : Tie) → Before a a → ⊥
before_self a (inl h) = omega arith
before_self a (inr h) = omega arith

-- the test for smaller is that for before
before_test : (a b : Tie) → Before a b → smaller? (compare_ties a b) ≡ true
before_test a b h = go (compare_ties a b) (ties_say a b)
  where
    go : (c : Comparison) → Ties c a b → smaller? c ≡ true
    go greater k = absurd (before_not a b h k)
    go equal k = absurd (before_self b (subst (λ n. Before (n, b.1) b) k.0 (subst (λ n. Before (a.0, n) b) k.1 h)))
    go smaller k = refl

test_before : (a b : Tie) → smaller? (compare_ties a b) ≡ true → Before a b
test_before a b e = go (compare_ties a b) (ties_say a b) e
  where
    go : (c : Comparison) → Ties c a b → smaller? c ≡ true → Before a b
    go greater k e = let z : ◌≡◌ {A = ℕ} 0 1 = cc in absurd (omega arith)
    go equal k e = let z : ◌≡◌ {A = ℕ} 0 1 = cc in absurd (omega arith)
    go smaller k e = k

-- ## Counting

-- a key with this tie stands in the list
abbrev pub Stands : Tie → List Key → Type 0
Stands t [] = ⊥
Stands t (k ∷ ks) = (k.1 ≡ t) ⊎ Stands t ks

counted_le : (x y : Bool) (m n : ℕ) → (x ≡ true → y ≡ true) → m ≤ n → counted x m ≤ counted y n
counted_le true true m n h l = omega arith
counted_le true false m n h l = let e = h refl in let z : ◌≡◌ {A = ℕ} 0 1 = cc in absurd (omega arith)
counted_le false true m n h l = omega arith
counted_le false false m n h l = l

lower_le : (a b : Tie) → Before a b → (ks : List Key) → lower ks a ≤ lower ks b
lower_le a b h [] = omega arith
lower_le a b h (k ∷ ks) =
    counted_le (smaller? (compare_ties k.1 a)) (smaller? (compare_ties k.1 b)) (lower ks a) (lower ks b)
    (λ e. before_test k.1 b (before_trans k.1 a b (test_before k.1 a e) h)) (lower_le a b h ks)

lower_lt : (a b : Tie) → Before a b → (ks : List Key) → Stands a ks → lower ks a < lower ks b
lower_lt a b h [] s = absurd s
lower_lt a b h (k ∷ ks) (inl e) = go (smaller? (compare_ties k.1 a)) refl (smaller? (compare_ties k.1 b))
    (subst (λ t. smaller? (compare_ties t b) ≡ true) (sym e) (before_test a b h))
  where
    go : (x : Bool) → smaller? (compare_ties k.1 a) ≡ x → (y : Bool) → y ≡ true → counted x (lower ks a) < counted y (lower ks b)
    go true t y u = absurd (before_self a (subst (λ z. Before z a) e (test_before k.1 a t)))
    go false t true u = let l = lower_le a b h ks in omega arith
    go false t false u = let z : ◌≡◌ {A = ℕ} 0 1 = cc in absurd (omega arith)
lower_lt a b h (k ∷ ks) (inr s) =
    go (smaller? (compare_ties k.1 a)) (smaller? (compare_ties k.1 b))
    (λ e. before_test k.1 b (before_trans k.1 a b (test_before k.1 a e) h)) (lower_lt a b h ks s)
  where
    go : (x y : Bool) → (x ≡ true → y ≡ true) → lower ks a < lower ks b → counted x (lower ks a) < counted y (lower ks b)
    go true true f l = omega arith
    go true false f l = let e = f refl in let z : ◌≡◌ {A = ℕ} 0 1 = cc in absurd (omega arith)
    go false true f l = omega arith
    go false false f l = l

-- ranks compare as ties do
pub rank_compares : (ks : List Key) (a b : Tie) → Stands a ks → Stands b ks → numbers (rank ks a) (rank ks b) ≡ compare_ties a b
rank_compares ks a b s t = numbers_are (rank ks a) (rank ks b) (compare_ties a b) (go (compare_ties a b) (ties_say a b))
  where
    go : (c : Comparison) → Ties c a b → Says c (rank ks a) (rank ks b)
    go greater h = let l = lower_lt b a h ks t in omega arith
    go equal h = λ i. rank ks (h.0 i, h.1 i)
    go smaller h = let l = lower_lt a b h ks s in omega arith

-- any tie with a component from 1 on is above the lowest
pub above_lowest : (t : Tie) → 1 ≤ t.1 → compare_ties t (0, 0) ≡ greater
above_lowest t h = go (numbers t.0 0) (numbers_say t.0 0)
  where
    go : (c : Comparison) → Says c t.0 0 → or_at_tie c (numbers t.1 0) ≡ greater
    go greater k = refl
    go equal k = numbers_are t.1 0 greater (omega arith)
    go smaller k = absurd (omega arith)

pub below_any : (t : Tie) → 1 ≤ t.1 → compare_ties (0, 0) t ≡ smaller
below_any t h = go (numbers 0 t.0) (numbers_say 0 t.0)
  where
    go : (c : Comparison) → Says c 0 t.0 → or_at_tie c (numbers 0 t.1) ≡ smaller
    go greater k = absurd (omega arith)
    go equal k = numbers_are 0 t.1 smaller (omega arith)
    go smaller k = refl
