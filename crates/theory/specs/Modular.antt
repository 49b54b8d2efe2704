-- The integers modulo a prime, with the very functions of the definitions: every number stands for its remainder.
use Rattle.std.specs.Prelude.{◌≡◌, ◌≢◌, Bool, true, false, not, ℕ, ◌+◌, ◌*◌, ◌%◌, T, eqb}
use Rattle.std.proofs.Common.{sym, ap, ◌∙◌, subst, add_comm, add_assoc, mul_comm, mul_assoc, mul-zero, mod-eq_of_lt, arith, eqb→eq, T_not}
use Rattle.std.proofs.Math.Nat.{mod-add-mod, add-mod-mod, mod-mod, zero-mod}
use Rattle.std.proofs.Math.Dec.{eqb_refl}
use Rattle.definitions.specs.Field.{plus, times, minus, inverse}
use Rattle.laws.proofs.Modular.{Prime, times_left, times_right, inverse_times, plus_minus}
use Rattle.theory.specs.Laws.{Scalars}

pub distributes : (a b c : ℕ) → a * (b + c) ≡ a * b + a * c
distributes a b c = omega arith

pub one_times : (a : ℕ) → 1 * a ≡ a
one_times a = omega arith

pub zero_plus : (a : ℕ) → 0 + a ≡ a
zero_plus a = omega arith

-- no test of a number's being zero but this one
pub nonzero_by : (a : ℕ) → T (not (eqb a 0)) → a ≢ 0
nonzero_by a t e = T_not (eqb a 0) t (subst (λ z. T (eqb z 0)) (sym e) (eqb_refl 0))

module _ (p : ℕ) where
  pub times_comm : (a b : ℕ) → times p a b ≡ times p b a
  times_comm a b = ap (λ z. z % p) (mul_comm a b)

  pub times_plus : (a b c : ℕ) → times p a (plus p b c) ≡ plus p (times p a b) (times p a c)
  times_plus a b c =
      times_right p a (b + c) ∙ ap (λ z. z % p) (distributes a b c)
      ∙ sym (mod-add-mod (a * b) p (a * c % p) ∙ add-mod-mod (a * b) (a * c) p)

  pub times_zero : (a : ℕ) → times p a 0 ≡ 0
  times_zero a = ap (λ z. z % p) (mul-zero a) ∙ zero-mod p

  abbrev pub zero_by : (a : ℕ) (t : Bool) → (T t → times p 1 a ≡ 0) → (T (not t) → times p 1 a ≢ 0) → Dec (times p 1 a ≡ 0)
  zero_by a true h k = yes (h tt)
  zero_by a false h k = no (k tt)

  module _ (P : Prime p) where
    pub minus_times : (a b : ℕ) → plus p (times p (minus p a) b) (times p a b) ≡ 0
    minus_times a b =
        ap (λ z. z % p) (add_comm _ _) ∙ ap (λ z. plus p z (times p (minus p a) b)) (times_comm a b)
        ∙ ap (plus p (times p b a)) (times_comm (minus p a) b)
        ∙ sym (times_plus b a (minus p a)) ∙ ap (times p b) (plus_minus p P a) ∙ times_zero b

    abbrev pub ModP : Scalars
    ModP = record {
      K = ℕ;
      add = plus p;
      mul = times p;
      𝟘 = 0;
      𝟙 = 1;
      neg = minus p;
      inv = inverse p;
      add_comm = λ a b. ap (λ z. z % p) (add_comm a b);
      add_assoc = λ a b c. mod-add-mod (a + b) p c ∙ ap (λ z. z % p) (add_assoc a b c) ∙ sym (add-mod-mod a (b + c) p);
      mul_comm = times_comm;
      mul_assoc = λ a b c. times_left p (a * b) c ∙ ap (λ z. z % p) (mul_assoc a b c) ∙ sym (times_right p a (b * c));
      mul_add = times_plus;
      mul_zero = times_zero;
      zero_add_zero = zero-mod p;
      zero_add_mul = λ a b. ap (λ z. z % p) (zero_plus (times p a b)) ∙ mod-mod (a * b) p;
      zero_add_add = λ a b. ap (λ z. z % p) (zero_plus (plus p a b)) ∙ mod-mod (a + b) p;
      one_mul_mul = λ a b. ap (λ z. z % p) (one_times (times p a b)) ∙ mod-mod (a * b) p;
      neg_add = minus_times;
      inv_mul = λ a h. inverse_times p P a (λ e. h (ap (λ z. z % p) (one_times a) ∙ e));
      one_one = mod-eq_of_lt P.big;
      one≢zero = λ e. omega arith;
      zero? = λ a. zero_by a (eqb (times p 1 a) 0) (eqb→eq (times p 1 a) 0) (nonzero_by (times p 1 a));
    }
