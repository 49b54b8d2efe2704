-- Coefficients 1 to p − 1: sums, products, negatives and inverses of them, in the definitions' own functions.
use mathlib.Core.Path.{◌≡◌, sym, ap, ap₂, ◌∙◌}
use mathlib.Core.Logic.{◌≢◌}
use Prim.Native.Nat.{ℕ, ◌+◌, ◌*◌, ◌-◌, ◌%◌, ◌≤◌, ◌<◌}
use native.Mathlib.Nat.{mod-mod, mod-lt, mod-eq_of_lt}
use native.Mathlib.Omega.{arith}
use Rattle.theory.specs.Laws.{Scalars}
use Rattle.theory.specs.Modular.{ModP, one_times}
use Rattle.theory.proofs.Vec
use Rattle.definitions.specs.Field.{plus, times, minus, inverse}
use Rattle.laws.proofs.Modular.{Prime, times_right, plus_minus}

-- not zero, and reduced
abbrev pub Good : ℕ → ℕ → Type 0
Good p c = (¬ (times p 1 c ≡ 0)) × (times p 1 c ≡ c)

pub one_reduced : (p c : ℕ) → times p 1 (c % p) ≡ c % p
one_reduced p c = ap (λ z. z % p) (one_times (c % p)) ∙ mod-mod c p

-- the negative of a number is that of its remainder
pub minus_one : (p i : ℕ) → minus p (times p 1 i) ≡ minus p i
minus_one p i = ap (λ z. (p - z) % p) (mod-mod (1 * i) p ∙ ap (λ z. z % p) (one_times i))

pub times_one_right : (p c i : ℕ) → times p c (times p 1 i) ≡ times p c i
times_one_right p c i = times_right p c (1 * i) ∙ ap (λ z. times p c z) (one_times i)

module _ (p : ℕ) (P : Prime p) where
  abbrev S : Scalars
  S = ModP p P

  pub good_nonzero : (c : ℕ) → Good p c → c ≢ 0
  good_nonzero c g e = g.0 (g.1 ∙ e)

  pub good_mul : (a b : ℕ) → Good p a → Good p b → Good p (times p a b)
  good_mul a b g h = (Vec.nonzero_mul S a b g.0 h.0, S.one_mul_mul a b)

  pub good_one : Good p 1
  good_one = ((λ e. S.one≢zero (sym S.one_one ∙ e)), S.one_one)

  -- a sum that is not zero
  pub good_plus : (a b : ℕ) → plus p a b ≢ 0 → Good p (plus p a b)
  good_plus a b h = ((λ e. h (sym (one_reduced p (a + b)) ∙ e)), one_reduced p (a + b))

  pub good_range : (c : ℕ) → 1 ≤ c → c ≤ p - 1 → Good p c
  good_range c h l = ((λ e. let z : c ≡ 0 = sym r ∙ e in omega arith), r)
    where
      small : c < p
      small = omega arith

      r : times p 1 c ≡ c
      r = ap (λ z. z % p) (one_times c) ∙ mod-eq_of_lt small

  pub good_below : (c : ℕ) → Good p c → c < p
  good_below c g = let b : 1 < p = P.big in let l : times p 1 c < p = mod-lt (1 * c) (omega arith) in omega (arith, g.1)

  minus_nonzero : (a : ℕ) → ¬ (times p 1 a ≡ 0) → ¬ (times p 1 (minus p a) ≡ 0)
  minus_nonzero a h e = h (S.mul_comm 1 a ∙ sym (S.zero_add_mul a 1) ∙ ap (λ z. plus p z (times p a 1)) (sym (S.mul_comm (minus p a) 1 ∙ e))
      ∙ S.neg_add a 1)

  inverse_nonzero : (a : ℕ) → ¬ (times p 1 a ≡ 0) → ¬ (times p 1 (inverse p a) ≡ 0)
  inverse_nonzero a h e = S.one≢zero (sym (S.inv_mul a h) ∙ Vec.zero_term S (inverse p a) a e)

  -- −1/a
  pub good_turned : (a : ℕ) → ¬ (times p 1 a ≡ 0) → Good p (minus p (inverse p a))
  good_turned a h = (minus_nonzero (inverse p a) (inverse_nonzero a h), one_reduced p (p - inverse p a % p))

  -- −(c · i) = c · (−i), as numbers
  pub minus_times : (c i : ℕ) → minus p (times p c i) ≡ times p c (minus p i)
  minus_times c i =
      sym (one_reduced p (p - times p c i % p)) ∙ sym (S.zero_add_mul 1 (minus p (times p c i)))
      ∙ ap₂ (plus p) (sym none) (one_reduced p (p - times p c i % p))
      ∙ S.add_assoc _ _ _ ∙ ap (plus p (times p c (minus p i))) (plus_minus p P (times p c i)) ∙ S.add_comm _ _ ∙ S.zero_add_mul c (minus p i)
    where
      none : plus p (times p c (minus p i)) (times p c i) ≡ 0
      none = sym (S.mul_add c (minus p i) i) ∙ ap (times p c) (S.add_comm (minus p i) i ∙ plus_minus p P i) ∙ S.mul_zero c
