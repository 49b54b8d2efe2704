-- lcm(a, b) / b for a before b in the lexicographic order.
use mathlib.Core.Path.{◌≡◌, sym, subst}
use mathlib.Core.Logic.{◌⊎◌, inl, inr}
use mathlib.Core.List.{[], ◌∷◌}
use Prim.Native.Nat.{ℕ, zero, suc, ◌-◌, ◌<◌, ◌≤◌, max}
use native.Mathlib.Omega.{arith}
use lib.Dec.{T, leb, eqb, le→leb, eqb→eq}
use lib.ListN.{take, drop}
use Rattle.definitions.specs.Monomial.{Exponents, quotient, lcm, divides?}
use Rattle.definitions.specs.Order.{Comparison, smaller, or_at_tie, numbers, lexicographic}
use Rattle.laws.proofs.Tests.{and_left, and_right, and_both}
use Rattle.demands.proofs.Comparisons.{Says, less, level, more, numbers_says}
use Rattle.lengths.specs.Notions.{zero?}

-- ## The first exponents decide

first_decides : (x y : ℕ) (c : Comparison) → or_at_tie (numbers x y) c ≡ smaller → (x < y) ⊎ ((x ≡ y) × (c ≡ smaller))
first_decides x y c = go (numbers_says x y)
  where
    go : {d : Comparison} → Says (x < y) (x ≡ y) (y < x) d → or_at_tie d c ≡ smaller → (x < y) ⊎ ((x ≡ y) × (c ≡ smaller))
    go (less s) e = inl s
    go (level s) e = inr (s, e)
    go (more s) e = let z : ◌≡◌ {A = ℕ} 0 1 = cc in absurd (omega arith)

first_below : (x y : ℕ) (c : Comparison) → or_at_tie (numbers x y) c ≡ smaller → x ≤ y
first_below x y c e = go (first_decides x y c e)
  where
    go : (x < y) ⊎ ((x ≡ y) × (c ≡ smaller)) → x ≤ y
    go (inl l) = omega arith
    go (inr (h, k)) = omega arith

-- .. and the later ones where both are zero
later_decides : (x y : ℕ) (c : Comparison) → x ≡ 0 → y ≡ 0 → or_at_tie (numbers x y) c ≡ smaller → c ≡ smaller
later_decides x y c a b e = go (first_decides x y c e)
  where
    go : (x < y) ⊎ ((x ≡ y) × (c ≡ smaller)) → c ≡ smaller
    go (inl l) = absurd (omega arith)
    go (inr (h, k)) = k

pub not_below_itself : (a : Exponents) → lexicographic a a ≡ smaller → ⊥
not_below_itself [] e = let z : ◌≡◌ {A = ℕ} 0 1 = cc in omega arith
not_below_itself (x ∷ a) e = go (first_decides x x (lexicographic a a) e) (not_below_itself a)
  where
    go : (x < x) ⊎ ((x ≡ x) × (lexicographic a a ≡ smaller)) → (lexicographic a a ≡ smaller → ⊥) → ⊥
    go (inl l) h = omega arith
    go (inr (h, k)) n = n k

-- ## Zeros

zero_here : (x : ℕ) (e : Exponents) → T (zero? (x ∷ e)) → x ≡ 0
zero_here x e t = eqb→eq x 0 (and_left (eqb x 0) (zero? e) t)

zero_later : (x : ℕ) (e : Exponents) → T (zero? (x ∷ e)) → T (zero? e)
zero_later x e t = and_right (eqb x 0) (zero? e) t

zero_both : (x : ℕ) (e : Exponents) → x ≡ 0 → T (zero? e) → T (zero? (x ∷ e))
zero_both x e h t = and_both (eqb x 0) (zero? e) (subst (λ z. T (eqb z 0)) (sym h) tt) t

zero_drop : (n m : ℕ) → n ≤ m → (e : Exponents) → T (zero? (drop n e)) → T (zero? (drop m e))
zero_drop zero zero l e t = t
zero_drop (suc n) zero l e t = absurd (omega arith)
zero_drop zero (suc m) l [] t = tt
zero_drop zero (suc m) l (x ∷ e) t = zero_drop zero m (omega arith) e (zero_later x e t)
zero_drop (suc n) (suc m) l [] t = tt
zero_drop (suc n) (suc m) l (x ∷ e) t = zero_drop n m (omega arith) e t

-- ## The quotient

-- x1 to xk in neither: x(k+1) is not in lcm(a, b) / b, as it is no higher in a than in b
pub colon_free : (k : ℕ) (a b : Exponents) → lexicographic a b ≡ smaller → T (zero? (take k a)) → T (zero? (take k b))
    → T (zero? (take (suc k) (quotient (lcm a b) b)))
colon_free k [] b e s t = tt
colon_free k (x ∷ a) [] e s t = tt
colon_free zero (x ∷ a) (y ∷ b) e s t =
    let l : x ≤ y = first_below x y (lexicographic a b) e in
    zero_both (max x y - y) [] (omega arith) tt
colon_free (suc k) (x ∷ a) (y ∷ b) e s t =
    let i : x ≡ 0 = zero_here x (take k a) s in
    let j : y ≡ 0 = zero_here y (take k b) t in
    zero_both (max x y - y) (take (suc k) (quotient (lcm a b) b)) (omega arith)
    (colon_free k a b (later_decides x y (lexicographic a b) i j e) (zero_later x (take k a) s) (zero_later y (take k b) t))

pub colon_past : (n : ℕ) (a b : Exponents) → T (zero? (drop n a)) → T (zero? (drop n b)) → T (zero? (drop n (quotient (lcm a b) b)))
colon_past zero [] b s t = tt
colon_past zero (x ∷ a) [] s t = tt
colon_past zero (x ∷ a) (y ∷ b) s t =
    let i : x ≡ 0 = zero_here x a s in
    zero_both (max x y - y) (quotient (lcm a b) b) (omega arith) (colon_past zero a b (zero_later x a s) (zero_later y b t))
colon_past (suc n) [] b s t = tt
colon_past (suc n) (x ∷ a) [] s t = tt
colon_past (suc n) (x ∷ a) (y ∷ b) s t = colon_past n a b s t

-- ## One variable left: the lower of two divides the higher

zero_divides : (a b : Exponents) → T (zero? a) → T (divides? a b)
zero_divides [] b t = tt
zero_divides (x ∷ a) [] t = tt
zero_divides (x ∷ a) (y ∷ b) t =
    let i : x ≡ 0 = zero_here x a t in
    and_both (leb x y) (divides? a b) (le→leb x y (omega arith)) (zero_divides a b (zero_later x a t))

last_divides : (k : ℕ) (a b : Exponents) → lexicographic a b ≡ smaller → T (zero? (take k a)) → T (zero? (take k b)) → T (zero? (drop (suc k) a))
    → T (divides? a b)
last_divides k [] b e s t u = tt
last_divides k (x ∷ a) [] e s t u = tt
last_divides zero (x ∷ a) (y ∷ b) e s t u =
    and_both (leb x y) (divides? a b) (le→leb x y (first_below x y (lexicographic a b) e)) (zero_divides a b u)
last_divides (suc k) (x ∷ a) (y ∷ b) e s t u =
    let i : x ≡ 0 = zero_here x (take k a) s in
    let j : y ≡ 0 = zero_here y (take k b) t in
    and_both (leb x y) (divides? a b) (le→leb x y (omega arith))
    (last_divides k a b (later_decides x y (lexicographic a b) i j e) (zero_later x (take k a) s) (zero_later y (take k b) t) u)

pub one_variable : (n k : ℕ) → n ≤ suc k → (a b : Exponents) → lexicographic a b ≡ smaller → T (zero? (take k a)) → T (zero? (take k b))
    → T (zero? (drop n a))
    → T (divides? a b)
one_variable n k l a b e s t u = last_divides k a b e s t (zero_drop n (suc k) l a u)
