-- n exponents as eight, zero past n: products, quotients, divisibility and degrees are those of the n.
use mathlib.Core.Path.{◌≡◌, refl, sym, ap, ap₂, ◌∙◌, subst}
use mathlib.Core.Bool.{true}
use mathlib.Core.List.{[], ◌∷◌, ◌++◌}
use Prim.Native.Nat.{ℕ, zero, suc, ◌+◌, ◌-◌, ◌≤◌}
use native.Mathlib.Omega.{arith}
use lib.Dec.{T, leb, eqb, eqb→eq}
use lib.ListN.{length, take, drop, replicate, length-append, length-replicate}
use Rattle.definitions.specs.Lists.{◌and◌, every}
use Rattle.definitions.specs.Monomial.{Exponents, Monomial, divides?, quotient, degree}
use Rattle.definitions.specs.Places.{exponents_length}
use Rattle.laws.proofs.Tests.{and_left, and_right}
use Rattle.standard_monomials.proofs.Ways.{Long}
use Rattle.standard_monomials.proofs.Components.{padded}

-- ## Zeros

zeros_divide : (k : ℕ) → divides? (replicate k 0) (replicate k 0) ≡ true
zeros_divide zero = refl
zeros_divide (suc k) = zeros_divide k

zeros_quotient : (k : ℕ) → quotient (replicate k 0) (replicate k 0) ≡ replicate k 0
zeros_quotient zero = refl
zeros_quotient (suc k) = ap (λ a. 0 ∷ a) (zeros_quotient k)

zeros_degree : (k : ℕ) → degree (replicate k 0) ≡ 0
zeros_degree zero = refl
zeros_degree (suc k) = let e = zeros_degree k in omega (arith, e)

-- ## With zeros behind

pub divides_padded : (n : ℕ) (a m : Exponents) → length a ≡ length m → divides? (padded n a) (padded n m) ≡ divides? a m
divides_padded n [] [] h = zeros_divide (exponents_length - n)
divides_padded n [] (y ∷ m) h = absurd (omega (arith, h))
divides_padded n (x ∷ a) [] h = absurd (omega (arith, h))
divides_padded n (x ∷ a) (y ∷ m) h = ap (λ b. leb x y and b) (divides_padded n a m (omega (arith, h)))

pub quotient_padded : (n : ℕ) (m a : Exponents) → length a ≡ length m → quotient (padded n m) (padded n a) ≡ padded n (quotient m a)
quotient_padded n [] [] h = zeros_quotient (exponents_length - n)
quotient_padded n [] (x ∷ a) h = absurd (omega (arith, h))
quotient_padded n (y ∷ m) [] h = absurd (omega (arith, h))
quotient_padded n (y ∷ m) (x ∷ a) h = ap (λ e. (y - x) ∷ e) (quotient_padded n m a (omega (arith, h)))

pub degree_padded : (n : ℕ) (a : Exponents) → degree (padded n a) ≡ degree a
degree_padded n [] = zeros_degree (exponents_length - n)
degree_padded n (x ∷ a) = ap (λ s. x + s) (degree_padded n a)

pub length_padded : (n : ℕ) → n ≤ exponents_length → (a : Exponents) → Long n a → length (padded n a) ≡ exponents_length
length_padded n l a h =
    let x = length-append a (replicate (exponents_length - n) 0) in
    let y = length-replicate {A = ℕ} (exponents_length - n) 0 in
    omega (arith, x, y, h, l)

pub padded_apart : (n : ℕ) (a b : Exponents) → length a ≡ length b → padded n a ≡ padded n b → a ≡ b
padded_apart n a b h e = sym (front a) ∙ ap₂ (λ k l. take k l) h e ∙ front b
  where
    front : (c : Exponents) → take (length c) (padded n c) ≡ c
    front [] = refl
    front (x ∷ c) = ap (λ l. x ∷ l) (front c)

-- ## Eight exponents, zero past n

pub record Padded (n : ℕ) (e : Exponents) : Type 0 where
  pub own : Exponents
  pub long : Long n own
  pub is : e ≡ padded n own

-- a monomial in n variables over so many generators
pub record Over (n many : ℕ) (m : Monomial) : Type 0 where
  pub exponents : Padded n m.0
  pub low : 1 ≤ m.1
  pub high : m.1 ≤ many

pub padded_eight : (n : ℕ) → n ≤ exponents_length → (e : Exponents) → Padded n e → length e ≡ exponents_length
padded_eight n l e h = ap length h.is ∙ length_padded n l h.own h.long

module _ (n : ℕ) (l : n ≤ exponents_length) where
  zeros_are : (k : ℕ) (e : Exponents) → length e ≡ k → T (every (λ x. eqb x 0) e) → e ≡ replicate k 0
  zeros_are zero [] h t = refl
  zeros_are zero (x ∷ e) h t = absurd (omega (arith, h))
  zeros_are (suc k) [] h t = absurd (omega (arith, h))
  zeros_are (suc k) (x ∷ e) h t =
      ap₂ (λ a b. a ∷ b) (eqb→eq x 0 (and_left (eqb x 0) (every (λ x. eqb x 0) e) t))
      (zeros_are k e (omega (arith, h)) (and_right (eqb x 0) (every (λ x. eqb x 0) e) t))

  parted : (k past : ℕ) (e : Exponents) → length e ≡ k + past → T (every (λ x. eqb x 0) (drop k e)) → Long k (take k e) × (e ≡ take k e ++ replicate past 0)
  parted zero past e h t = (refl, zeros_are past e (omega (arith, h)) t)
  parted (suc k) past [] h t = absurd (omega (arith, h))
  parted (suc k) past (x ∷ e) h t = let (a, b) = parted k past e (omega (arith, h)) t in (ap suc a, ap (λ r. x ∷ r) b)

  -- as a sound state's terms have them
  pub padded_of : (e : Exponents) → length e ≡ exponents_length → T (every (λ x. eqb x 0) (drop n e)) → Padded n e
  padded_of e h t =
      let (a, b) = parted n (exponents_length - n) e (omega (arith, h, l)) t in
      record { own = take n e; long = a; is = b }

zeros_past : (k : ℕ) → T (every (λ x. eqb x 0) (replicate k 0))
zeros_past zero = tt
zeros_past (suc k) = zeros_past k

past_of : (k n : ℕ) (a : Exponents) → Long n a → T (every (λ x. eqb x 0) (drop n (a ++ replicate k 0)))
past_of k zero [] h = zeros_past k
past_of k zero (x ∷ a) h = absurd (omega (arith, h))
past_of k (suc n) [] h = absurd (omega (arith, h))
past_of k (suc n) (x ∷ a) h = past_of k n a (omega (arith, h))

pub padded_past : (n : ℕ) (e : Exponents) → Padded n e → T (every (λ x. eqb x 0) (drop n e))
padded_past n e h = subst (λ z. T (every (λ x. eqb x 0) (drop n z))) (sym h.is) (past_of (exponents_length - n) n h.own h.long)
