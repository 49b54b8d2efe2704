-- Trial division up to the square root decides the definition's test.
use mathlib.Core.Path.{◌≡◌, refl, sym, ap, ◌∙◌}
use mathlib.Core.Logic.{◌≢◌, ◌⊎◌, inl, inr}
use mathlib.Core.Bool.{Bool, true, false, not}
use Prim.Native.Nat.{ℕ, zero, suc, ◌+◌, ◌*◌, ◌/◌, ◌%◌, ◌<◌, ◌≤◌, ◌∣◌}
use native.Mathlib.Nat.{div-add-mod, mul-mod_right, mul_comm, mul-le-mul, le_refl, le_of_dvd, eq-zero_of_zero-dvd, mod-eq-zero_of_dvd, dvd_of_mod-eq-zero}
use native.Mathlib.Omega.{arith}
use native.Mathlib.Decide.{ℕ_discrete}
use lib.Dec.{T, ltb, ltb→lt, nltb→le}
use Rattle.definitions.specs.Field.{prime?}
use Rattle.laws.proofs.Modular.{Prime, prime_says, prime_shows}
use Rattle.laws.proofs.Tests.{true_is}

-- no number of 2 .. d − 1 divides p
abbrev pub Clear : ℕ → ℕ → Type 0
Clear p d = (k : ℕ) → 1 < k → k < d → p % k ≢ 0

-- a divisor e gives the divisor p / e, and one of the two is at most the root
cofactor : (p e : ℕ) → p % e ≡ 0 → e * (p / e) ≡ p
cofactor p e z = let w : e * (p / e) + p % e ≡ p = div-add-mod p e in omega arith

cofactor_divides : (p e : ℕ) → p % e ≡ 0 → p % (p / e) ≡ 0
cofactor_divides p e z = ap (λ w. w % (p / e)) (sym (cofactor p e z) ∙ mul_comm e (p / e)) ∙ mul-mod_right (p / e) e

pub clear_prime : (p d : ℕ) → 2 ≤ p → p < d * d → Clear p d → Prime p
clear_prime p d big root f = record { big = big; alone = alone }
  where
    small : (e : ℕ) → d ≤ e → p % e ≡ 0 → p / e < d
    small e h z = go (ltb (p / e) d) (ltb→lt (p / e) d) (nltb→le (p / e) d)
      where
        go : (b : Bool) → (T b → p / e < d) → (T (not b) → d ≤ p / e) → p / e < d
        go true f g = f tt
        go false f g = absurd (omega (arith, mul-le-mul h (g tt), cofactor p e z))

    more : (e : ℕ) → e < p → p % e ≡ 0 → 1 < p / e
    more e h z = go (p / e) (cofactor p e z)
      where
        go : (k : ℕ) → e * k ≡ p → 1 < k
        go zero w = absurd (omega arith)
        go (suc zero) w = absurd (omega arith)
        go (suc (suc k)) w = omega arith

    alone : (e : ℕ) → 1 < e → e < p → p % e ≢ 0
    alone e h l z = go (ltb e d) (ltb→lt e d) (nltb→le e d)
      where
        go : (b : Bool) → (T b → e < d) → (T (not b) → d ≤ e) → ⊥
        go true u w = f e h (u tt) z
        go false u w = f (p / e) (more e l z) (small e (w tt) z) (cofactor_divides p e z)

pub prime_true : (p d : ℕ) → 2 ≤ p → p < d * d → Clear p d → true ≡ prime? p
prime_true p d big root f = sym (true_is (prime? p) (prime_shows p (clear_prime p d big root f)))

not_shown : (b : Bool) → (T b → ⊥) → false ≡ b
not_shown true h = absurd (h tt)
not_shown false h = refl

pub prime_false : (p d : ℕ) → 2 ≤ d → d * d ≤ p → p % d ≡ 0 → false ≡ prime? p
prime_false p d h l z = not_shown (prime? p) (λ t. (prime_says p t).alone d h (omega (arith, mul-le-mul h (le_refl d))) z)

-- ## A prime has no divisor but 1 and itself

pub record OnlyDivisors (p : ℕ) : Type 0 where
  pub two : 2 ≤ p
  pub only : (d : ℕ) → d ∣ p → (d ≡ 1) ⊎ (d ≡ p)

pub prime_only : (p : ℕ) → T (prime? p) → OnlyDivisors p
prime_only p t = record { two = P.big; only = only }
  where
    P : Prime p
    P = prime_says p t

    only : (d : ℕ) → d ∣ p → (d ≡ 1) ⊎ (d ≡ p)
    only zero v = let b = P.big in let z : p ≡ 0 = eq-zero_of_zero-dvd v in absurd (omega arith)
    only (suc zero) v = inl refl
    only (suc (suc d)) v = go (ℕ_discrete (suc (suc d)) p)
      where
        go : Dec (suc (suc d) ≡ p) → (suc (suc d) ≡ 1) ⊎ (suc (suc d) ≡ p)
        go (yes e) = inr e
        go (no ne) = absurd (P.alone (suc (suc d)) (omega arith) (let b = P.big in omega (arith, le_of_dvd {m = suc (suc d)} (omega arith) v))
            (mod-eq-zero_of_dvd (suc (suc d)) v))

pub only_prime : (p : ℕ) → OnlyDivisors p → T (prime? p)
only_prime p h = prime_shows p (record { big = h.two; alone = alone })
  where
    alone : (d : ℕ) → 1 < d → d < p → p % d ≢ 0
    alone d a b z = go (h.only d (dvd_of_mod-eq-zero d z))
      where
        go : (d ≡ 1) ⊎ (d ≡ p) → ⊥
        go (inl e) = omega arith
        go (inr e) = omega arith
