-- The first product of a step cancels the picked term: the same monomial, the negative of its coefficient. As the monomials of a good value
-- are distinct, it is the picked term that leaves.
use mathlib.Core.Path.{◌≡◌, refl, sym, ap, ◌∙◌, subst}
use mathlib.Core.Logic.{◌≢◌}
use mathlib.Core.Bool.{Bool, true, false}
use mathlib.Core.Option.{some}
use mathlib.Core.List.{[], ◌∷◌}
use Prim.Native.Nat.{ℕ, zero, suc, ◌<◌}
use native.Mathlib.Omega.{arith}
use lib.ListN.{length, get_or}
use borrow.Author.Tests.{eq-eqb}
use Rattle.definitions.specs.Lists.{without}
use Rattle.definitions.specs.Field.{plus, times, minus}
use Rattle.definitions.specs.Monomial.{Exponents, Monomial, Term, Vector, fits?, same_monomial?, no_term}
use Rattle.definitions.specs.Reducer.{answer, lower_order?}
use Rattle.definitions.specs.Vectors.{unless_zero, behind, combined, or_last, store}
use Rattle.definitions.specs.Stage.{Reduction}
use Rattle.definitions.specs.Run.{multiple, dropped?, unless_dropped, if_fits, add_term}
use Rattle.laws.proofs.Tests.{true_is, false_is}
use Rattle.laws.proofs.Members.{all_inside}
use Rattle.laws.proofs.Products.{same_monomial_says, same_monomial_shows}
use Rattle.laws.proofs.Modular.{Prime}
use Rattle.laws.proofs.Reducers.{answer_alike, lower_order_alike, Reducing, Leading, reducing_leads, reducing_cancels}
use Rattle.laws.proofs.Results.{IfDone}
use Rattle.ending.specs.Well.{Proper}
use Rattle.ending.proofs.Values.{Good, good_at, good_eight}

-- ## In the value

combined_leaves : (p x : ℕ) (v : Vector) (i : ℕ) → Good v → i < length v → plus p (get_or v i no_term).0 x ≡ 0
    → combined p (x, (get_or v i no_term).1) v ≡ some (without i v)
combined_leaves p x [] i g l e = absurd (omega arith)
combined_leaves p x (u ∷ v) zero g l e =
    (λ i. elim (same i) [ true ↦ some (unless_zero (plus p u.0 x, u.1) v) | false ↦ behind u (combined p (x, u.1) v) ]) ∙
    (λ i. some (elim (eq-eqb (plus p u.0 x) 0 e i) [ true ↦ v | false ↦ (plus p u.0 x, u.1) ∷ v ]))
  where
    same : same_monomial? u.1 u.1 ≡ true
    same = true_is (same_monomial? u.1 u.1) (same_monomial_shows u.1 u.1 refl)
combined_leaves p x (u ∷ v) (suc i) g l e =
    (λ k. elim (other k) [ true ↦ some (unless_zero (plus p u.0 x, u.1) v) | false ↦ behind u (combined p (x, m) v) ]) ∙
    ap (behind u) (combined_leaves p x v i g.2 (omega arith) e)
  where
    m : Monomial
    m = (get_or v i no_term).1

    apart : u.1 ≢ m
    apart = all_inside (λ t. u.1 ≢ t.1) no_term v i (omega arith) g.1

    other : same_monomial? m u.1 ≡ false
    other = false_is (same_monomial? m u.1) (λ t. apart (sym (same_monomial_says m u.1 t)))

-- ## As a product

-- a term with a reducer is not dropped
kept_if_reduced : (R : Reduction) (drops : Bool) (t : Term) → lower_order? (answer R.p R.heads t) ≡ false → dropped? R drops t.1 ≡ false
kept_if_reduced R true t e =
    lower_order_alike (answer R.p R.heads (1, t.1)) (answer R.p R.heads t) (answer_alike R.p 1 R.heads t.1 1 t.0) ∙ e
kept_if_reduced R false t e = refl

pub add_term_leaves : (R : Reduction) (drops : Bool) (x : ℕ) (v : Vector) (i : ℕ) → Good v → i < length v
    → lower_order? (answer R.p R.heads (get_or v i no_term)) ≡ false
    → plus R.p (get_or v i no_term).0 x ≡ 0 → IfDone (λ u. u ≡ without i v) (add_term R drops (x, (get_or v i no_term).1) v)
add_term_leaves R drops x v i g l a e = go (fits? R.limits.exponent m.0)
  where
    m : Monomial
    m = (get_or v i no_term).1

    P : Vector → Type 0
    P u = u ≡ without i v

    stored : IfDone P (store R.limits.working R.p (x, m) v)
    stored = subst (λ o. IfDone P (or_last R.limits.working (x, m) v o)) (sym (combined_leaves R.p x v i g l e)) refl

    go : (b : Bool) → IfDone P (if_fits b R drops (x, m) v)
    go false = tt
    go true = subst (λ b. IfDone P (unless_dropped b R (x, m) v)) (sym (kept_if_reduced R drops (get_or v i no_term) a)) stored

-- the first product of a reducer whose leading term is u
pub first_leaves : (R : Reduction) → Prime R.p → (drops : Bool) (v : Vector) (i : ℕ) → Good v → i < length v
    → lower_order? (answer R.p R.heads (get_or v i no_term)) ≡ false
    → (c : ℕ) (q : Exponents) (u : Term) (f : Vector) → Proper R.p u → Reducing R.p (u ∷ f) (get_or v i no_term) c q
    → IfDone (λ w. w ≡ without i v) (add_term R drops (multiple R.p (minus R.p c) q u) v)
first_leaves R P drops v i g l a c q u f s r =
    subst (λ m. IfDone (λ w. w ≡ without i v) (add_term R drops (x, m) v)) (sym led.product_is) (add_term_leaves R drops x v i g l a cancels)
  where
    t : Term
    t = get_or v i no_term

    x : ℕ
    x = times R.p (minus R.p c) u.0

    led : Leading 8 q u.1 t.1
    led = reducing_leads R.p t c q u f r 8 s.shaped.long (good_eight t.1 (good_at v g i l))

    cancels : plus R.p t.0 x ≡ 0
    cancels = reducing_cancels R.p t c q u f r P s.coefficient
