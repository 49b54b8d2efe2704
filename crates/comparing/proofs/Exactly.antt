-- What an answer in three ways says, each exactly when: of two numbers, and of two answers in a row.
use mathlib.Core.Path.{◌≡◌, refl, sym, ap, subst}
use mathlib.Core.Logic.{◌⊎◌, inl, inr, ⊎_elim, ◌↔◌}
use Prim.Native.Nat.{ℕ, ◌<◌}
use Rattle.definitions.specs.Order.{Comparison, greater, equal, smaller, or_at_tie, numbers}
use Rattle.laws.proofs.Comparisons.{Says, numbers_say, numbers_are, greater≢smaller, greater≢equal, turned}

equal≢smaller : equal ≡ smaller → ⊥
equal≢smaller e = greater≢equal (sym (ap turned e))

-- greater exactly where A holds, equal exactly where B does, smaller exactly where C does
pub record Exactly (A B C : Type 0) (c : Comparison) : Type 0 where
  pub when_greater : (c ≡ greater) ↔ A
  pub when_equal : (c ≡ equal) ↔ B
  pub when_smaller : (c ≡ smaller) ↔ C

module _ {A B C A' B' C' : Type 0} where
  pub exactly_map : {c : Comparison} → A ↔ A' → B ↔ B' → C ↔ C' → Exactly A B C c → Exactly A' B' C' c
  exactly_map f g h x = record {
    when_greater = (λ e. f.0 (x.when_greater.0 e), λ a. x.when_greater.1 (f.1 a));
    when_equal = (λ e. g.0 (x.when_equal.0 e), λ b. x.when_equal.1 (g.1 b));
    when_smaller = (λ e. h.0 (x.when_smaller.0 e), λ s. x.when_smaller.1 (h.1 s));
  }

  -- the first decides, at a tie the second
  pub exactly_tie : (c d : Comparison) → Exactly A B C c → Exactly A' B' C' d → Exactly (A ⊎ (B × A')) (B × B') (C ⊎ (B × C')) (or_at_tie c d)
  exactly_tie greater d x y = record {
    when_greater = (λ e. inl (x.when_greater.0 refl), λ a. refl);
    when_equal = (λ e. absurd (greater≢equal e), λ b. x.when_equal.1 b.0);
    when_smaller = (λ e. absurd (greater≢smaller e), ⊎_elim (λ s. x.when_smaller.1 s) (λ s. absurd (greater≢equal (x.when_equal.1 s.0))));
  }
  exactly_tie equal d x y = record {
    when_greater = (
      λ e. inr (x.when_equal.0 refl, y.when_greater.0 e),
      ⊎_elim (λ a. absurd (greater≢equal (sym (x.when_greater.1 a)))) (λ a. y.when_greater.1 a.1),
    );
    when_equal = (λ e. (x.when_equal.0 refl, y.when_equal.0 e), λ b. y.when_equal.1 b.1);
    when_smaller = (
      λ e. inr (x.when_equal.0 refl, y.when_smaller.0 e),
      ⊎_elim (λ s. absurd (equal≢smaller (x.when_smaller.1 s))) (λ s. y.when_smaller.1 s.1),
    );
  }
  exactly_tie smaller d x y = record {
    when_greater = (
      λ e. absurd (greater≢smaller (sym e)),
      ⊎_elim (λ a. x.when_greater.1 a)
          (λ a. absurd (equal≢smaller (sym (x.when_equal.1 a.0)))),
    );
    when_equal = (λ e. absurd (equal≢smaller (sym e)), λ b. x.when_equal.1 b.0);
    when_smaller = (λ e. inl (x.when_smaller.0 refl), λ s. refl);
  }

pub exactly_of : {A B C : Type 0} {c d : Comparison} → c ≡ d → Exactly A B C d → Exactly A B C c
exactly_of {A} {B} {C} e x = subst (Exactly A B C) (sym e) x

pub numbers_exactly : (a b : ℕ) → Exactly (b < a) (a ≡ b) (a < b) (numbers a b)
numbers_exactly a b = record {
  when_greater = (λ e. subst (λ c. Says c a b) e (numbers_say a b), λ h. numbers_are a b greater h);
  when_equal = (λ e. subst (λ c. Says c a b) e (numbers_say a b), λ h. numbers_are a b equal h);
  when_smaller = (λ e. subst (λ c. Says c a b) e (numbers_say a b), λ h. numbers_are a b smaller h);
}
