-- The prime test tests primes, and up to 65,535 it is enough to divide by 2 to 255.
use mathlib.Core.Path.{◌≡◌, ◌∙◌, subst}
use mathlib.Core.Bool.{Bool, true, false, not}
use Prim.Native.Nat.{ℕ, zero, suc, ◌*◌, ◌/◌, ◌%◌, ◌<◌, ◌≤◌}
use native.Mathlib.Nat.{div-add-mod, mul-mod_right, mul_comm, mul-le-mul, le_refl}
use native.Mathlib.Omega.{arith}
use lib.Dec.{T, ltb, ltb→lt, nltb→le}
use Rattle.definitions.specs.Field.{prime?}
use Rattle.laws.proofs.Modular.{Prime, prime_says, prime_shows}
use Rattle.primes.specs.Primes.{PrimeTest}

-- no number of 2 to p − 1 divides p, as products
abbrev Undivided : ℕ → Type 0
Undivided p = (2 ≤ p) × ((d : ℕ) → 2 ≤ d → d < p → (k : ℕ) → ¬ (d * k ≡ p))

-- .. of 2 to 255
abbrev To255 : ℕ → Type 0
To255 p = (2 ≤ p) × ((d : ℕ) → 2 ≤ d → d ≤ 255 → d < p → (k : ℕ) → ¬ (d * k ≡ p))

says : (p : ℕ) → T (prime? p) → Undivided p
says p t =
    let P : Prime p = prime_says p t in
    (P.big, λ d h l k e. P.alone d h l (subst (λ z. z % d ≡ 0) e (mul-mod_right d k)))

shows : (p : ℕ) → Undivided p → T (prime? p)
shows p (b, h) = prime_shows p (record { big = b; alone = λ d a l z. h d a l (p / d) (let w = div-add-mod p d in omega (arith, w, z)) })

-- a divisor above 255 has a cofactor up to 255
module _ (p : ℕ) (l : p ≤ 65_535) (h : To255 p) where
  cofactor_more : (d k : ℕ) → d < p → d * k ≡ p → 2 ≤ k
  cofactor_more d zero a e = let b = h.0 in absurd (omega arith)
  cofactor_more d (suc zero) a e = absurd (omega arith)
  cofactor_more d (suc (suc k)) a e = omega arith

  cofactor_small : (d k : ℕ) → 256 ≤ d → d * k ≡ p → k ≤ 255
  cofactor_small d k a e = go (ltb k 256) (ltb→lt k 256) (nltb→le k 256)
    where
      go : (b : Bool) → (T b → k < 256) → (T (not b) → 256 ≤ k) → k ≤ 255
      go true u w = let m = u tt in omega arith
      go false u w = absurd (omega (arith, mul-le-mul a (w tt), e, l))

  cofactor_below : (d k : ℕ) → 256 ≤ d → 2 ≤ k → d * k ≡ p → k < p
  cofactor_below d k a b e =
      let two : 2 ≤ d = omega (arith, a) in
      omega (arith, mul-le-mul two (le_refl k), b, e)

  alone : (d : ℕ) → 2 ≤ d → d < p → (k : ℕ) → ¬ (d * k ≡ p)
  alone d a b k e = go (ltb d 256) (ltb→lt d 256) (nltb→le d 256)
    where
      go : (c : Bool) → (T c → d < 256) → (T (not c) → 256 ≤ d) → ⊥
      go true u w = let m = u tt in h.1 d a (omega arith) b k e
      go false u w =
          let m = w tt in
          let two : 2 ≤ k = cofactor_more d k b e in
          h.1 k two (cofactor_small d k m e) (cofactor_below d k m two e) d (mul_comm k d ∙ e)

pub prime_test : PrimeTest
prime_test = record {
  prime = λ p. (says p, shows p);
  to_255 = λ p l. (λ t. let u = says p t in (u.0, λ d a b. u.1 d a), λ h. shows p (h.0, alone p l h));
}
