-- The inverse's recursion as a loop: what is still to be multiplied.
use mathlib.Core.Path.{◌≡◌, refl, sym, ap, ◌∙◌}
use Prim.Native.Nat.{ℕ, zero, suc, ◌-◌, ◌*◌, ◌/◌, ◌%◌, ◌<◌, ◌≤◌}
use native.Mathlib.Omega.{arith}
use native.Mathlib.Nat.{mul_assoc, mod-lt, mod-eq_of_lt, mul-one}
use Rattle.definitions.specs.Field.{times, inverse_by}
use Rattle.laws.proofs.Modular.{times_left, times_right}

pub times_assoc : (p a b c : ℕ) → times p (times p a b) c ≡ times p a (times p b c)
times_assoc p a b c = times_left p (a * b) c ∙ ap (λ z. z % p) (mul_assoc a b c) ∙ sym (times_right p a (b * c))

-- the bound does not matter once it is large enough
inverse_of_0 : (n p : ℕ) → inverse_by n p 0 ≡ 1
inverse_of_0 zero p = refl
inverse_of_0 (suc n) p = refl

inverse_of_1 : (n p : ℕ) → inverse_by n p 1 ≡ 1
inverse_of_1 zero p = refl
inverse_of_1 (suc n) p = refl

inverse_bound : (n m p a : ℕ) → a ≤ n → a ≤ m → inverse_by n p a ≡ inverse_by m p a
inverse_bound zero m p a h k = let z : a ≡ 0 = omega arith in rw z (sym (inverse_of_0 m p))
inverse_bound (suc n) zero p a h k = let z : a ≡ 0 = omega arith in rw z
inverse_bound (suc n) (suc m) p a h k = go a h k (λ b x y. inverse_bound n m p b x y)
  where
    go : (a : ℕ) → a ≤ suc n → a ≤ suc m → ((b : ℕ) → b ≤ n → b ≤ m → inverse_by n p b ≡ inverse_by m p b) → inverse_by (suc n) p a
        ≡ inverse_by (suc m) p a
    go zero h k r = refl
    go (suc zero) h k r = refl
    go (suc (suc c)) h k r =
        let l : p % suc (suc c) < suc (suc c) = mod-lt p (omega arith) in
        ap (times p (p - p / suc (suc c))) (r (p % suc (suc c)) (omega arith) (omega arith))

pub inverse_step : (p x : ℕ) → 1 < x → inverse_by x p x ≡ times p (p - p / x) (inverse_by (p % x) p (p % x))
inverse_step p zero h = absurd (omega arith)
inverse_step p (suc zero) h = absurd (omega arith)
inverse_step p (suc (suc c)) h =
    let l : p % suc (suc c) < suc (suc c) = mod-lt p (omega arith) in
    ap (times p (p - p / suc (suc c))) (inverse_bound (suc c) (p % suc (suc c)) p (p % suc (suc c)) (omega arith) (omega arith))

pub inverse_on : (p r x : ℕ) → 1 < x → times p (times p r (p - p / x)) (inverse_by (p % x) p (p % x)) ≡ times p r (inverse_by x p x)
inverse_on p r x h = times_assoc p r (p - p / x) (inverse_by (p % x) p (p % x)) ∙ ap (times p r) (sym (inverse_step p x h))

small_one : (p x : ℕ) → x ≤ 1 → inverse_by x p x ≡ 1
small_one p zero h = refl
small_one p (suc zero) h = refl
small_one p (suc (suc x)) h = absurd (omega arith)

pub inverse_end : (p r x : ℕ) → x ≤ 1 → r < p → times p r (inverse_by x p x) ≡ r
inverse_end p r x h l = ap (times p r) (small_one p x h) ∙ ap (λ z. z % p) (mul-one r) ∙ mod-eq_of_lt l
