-- A division by the elements of a sound basis: what it ends with, how it is refused, that it ends, and that the bound does not matter.
use mathlib.Core.Path.{◌≡◌, refl, subst}
use mathlib.Core.Bool.{Bool, true, false}
use mathlib.Core.Option.{Option, none, some}
use mathlib.Core.List.{[], ◌∷◌}
use Prim.Native.Nat.{ℕ, zero, suc, ◌≤◌}
use native.Mathlib.Omega.{arith}
use lib.Dec.{T, ltb}
use lib.ListN.{length, get_or}
use Rattle.definitions.specs.Limits.{Limits}
use Rattle.definitions.specs.Lists.{without}
use Rattle.definitions.specs.Field.{minus}
use Rattle.definitions.specs.Monomial
use Rattle.definitions.specs.Monomial.{Exponents, Monomial, Term, Vector, fits?, no_term, vector_of}
use Rattle.definitions.specs.Order.{compare_over}
use Rattle.definitions.specs.Reducer.{Answer, reducer, lower_order, answer}
use Rattle.definitions.specs.Result.{Result, done, refused, unfinished, finished?, ◌>>=◌}
use Rattle.definitions.specs.Vectors.{combined, appended, or_last, store}
use Rattle.definitions.specs.Stage.{Reduction, Stage, highest, stage_over}
use Rattle.definitions.specs.Run.{greatest, multiple, dropped?, unless_dropped, if_fits, add_products}
use Rattle.definitions.specs.Problem.{Parameters}
use Rattle.definitions.specs.State.{State, sound?}
use Rattle.laws.proofs.Modular.{Prime}
use Rattle.laws.proofs.Sound.{sound_says}
use Rattle.laws.proofs.Reading.{basis_state}
use Rattle.laws.proofs.Steady.{steady_once}
use Rattle.ending.specs.Good.{good?}
use Rattle.ending.specs.Well.{Well}
use Rattle.ending.proofs.Soundness.{descending_well, sound_levels}
use Rattle.demands.specs.Demands.{sensible?}
use Rattle.demands.proofs.Results
use Rattle.demands.proofs.Results.{ends_at, ends_refused}
use Rattle.demands.proofs.Soundness.{tlevel, LevelsRight, levels_right}
use Rattle.demands.proofs.Short.{descending_length}
use Rattle.demands.proofs.Over.{small_exponents, vector_room, sound_prime, sound_eight}
use Rattle.definitions.specs.Membership.{Division, by_reducer, division_step, divide_by, divide}
use Rattle.members.specs.Members.{brought?, division_of, Divides, DivisionRight}
use Rattle.members.proofs.Divisions.{Limit}
use Rattle.members.proofs.Counts.{Short, divide_short}
use Rattle.members.proofs.Ending.{divide_steady, divide_ends}
use Rattle.members.proofs.Dividing.{brought_ends, brought_good}

-- ## Refusals have place 0

abbrev Plain : {A : Type 0} → Result A → Type 0
Plain (done a) = Unit {0}
Plain (refused number place value) = place ≡ 0
Plain unfinished = Unit {0}

plain_then : {A B : Type 0} (x : Result A) (f : A → Result B) → Plain x → ((a : A) → Plain (f a)) → Plain (x >>= f)
plain_then (done a) f h k = k a
plain_then (refused number place value) f h k = h
plain_then unfinished f h k = tt

plain_appended : (b : Bool) (t : Term) (v : Vector) → Plain (appended b t v)
plain_appended true t v = tt
plain_appended false t v = refl

plain_store : (limit p : ℕ) (t : Term) (v : Vector) → Plain (store limit p t v)
plain_store limit p t v = go (combined p t v)
  where
    go : (o : Option Vector) → Plain (or_last limit t v o)
    go none = plain_appended (ltb (length v) limit) t v
    go (some w) = tt

plain_products : (R : Reduction) (drops : Bool) (c : ℕ) (q : Exponents) (f v : Vector) → Plain (add_products R drops c q f v)
plain_products R drops c q [] v = tt
plain_products R drops c q (t ∷ f) v =
    plain_then (if_fits (fits? R.limits.exponent u.1.0) R drops u v) (λ w. add_products R drops c q f w)
    (fitting (fits? R.limits.exponent u.1.0))
    (λ w. plain_products R drops c q f w)
  where
    u : Term
    u = multiple R.p c q t

    kept : (b : Bool) → Plain (unless_dropped b R u v)
    kept true = tt
    kept false = plain_store R.limits.working R.p u v

    fitting : (b : Bool) → Plain (if_fits b R drops u v)
    fitting false = refl
    fitting true = kept (dropped? R drops u.1)

plain_divide : (S : Stage) (n : ℕ) (d : Division) → Plain (divide S n d)
plain_divide S zero d = tt
plain_divide S (suc n) d = go (greatest S.below d.value) (plain_divide S n)
  where
    R : Reduction
    R = S.reduction

    step : (i : ℕ) (t : Term) (a : Answer) → Plain (by_reducer S d i t a)
    step i t (reducer j c q) =
        plain_then (store R.limits.vector R.p (c, (q, j)) d.quotients)
        (λ w. add_products R false (minus R.p c) q (vector_of S.family j) d.value >>= λ v. done
        (record { value = v; quotients = w; remainder = d.remainder }))
        (plain_store R.limits.vector R.p (c, (q, j)) d.quotients) λ w.
        plain_then (add_products R false (minus R.p c) q (vector_of S.family j) d.value)
        (λ v. done (record { value = v; quotients = w; remainder = d.remainder }))
        (plain_products R false (minus R.p c) q (vector_of S.family j) d.value) (λ v. tt)
    step i t lower_order =
        plain_then (appended (ltb (length d.remainder) R.limits.working) t d.remainder)
        (λ r. done (record { value = without i d.value; quotients = d.quotients; remainder = r }))
        (plain_appended (ltb (length d.remainder) R.limits.working) t d.remainder) (λ r. tt)

    go : (o : Option ℕ) → ((e : Division) → Plain (divide S n e)) → Plain (divide_by S (divide S n) d o)
    go none ih = tt
    go (some i) ih =
        let t = get_or d.value i no_term in
        plain_then (division_step S d i t) (divide S n) (step i t (answer R.p R.heads t)) ih

-- ## Over the elements of a sound basis

module _ (lim : Limits) (o : T (sensible? lim)) (q : Parameters) (f : Monomial.Level) (h : T (sound? lim (basis_state (q, f)))) (v : Vector)
    (b : T (brought? lim q v)) where
  abbrev X : State
  X = basis_state (q, f)

  P : Prime q.p
  P = sound_prime lim o X h

  eight : q.n ≤ 8
  eight = sound_eight lim o X h

  r : LevelsRight lim q P eight (f ∷ [])
  r = levels_right lim q P eight (f ∷ []) (sound_says lim X h).levels

  right : (n : ℕ) → Results.Ends (Divides lim q f v) Limit (division_of lim q f v n)
  right n =
      subst (λ ls. Results.Ends (Divides lim q (highest ls) v) Limit (division_of lim q (highest ls) v n)) r.back
      (brought_ends lim q P eight (tlevel q.n f) r.deep r.fits v b n)

  pub vector_good : T (good? v)
  vector_good = brought_good lim q P eight (tlevel q.n f) r.deep r.fits (small_exponents lim o) v b

  well : Well (stage_over lim q.p q.code (f ∷ []))
  well = descending_well lim q.p q.code (f ∷ []) P (small_exponents lim o) (sound_levels lim X h)

  pub division_right : DivisionRight lim q f v
  division_right = record {
    divides = λ n d e. ends_at e (right n);
    short = λ n e h.
        let k : Short S e = ends_at h (divide_short S n d (record { quotients = omega arith; remainder = omega arith })) in
        (omega (arith, descending_length (compare_over q.code (f ∷ [])) q.p e.quotients, k.quotients), k.remainder);
    refused_by = λ n number place value e.
        let l : Limit number value = ends_refused (subst (Results.Ends (Divides lim q f v) Limit) e (right n)) in
        let z : place ≡ 0 = subst Plain e (plain_divide S n d) in
        (l.0, z, l.1);
    ends = divide_ends S well (vector_room lim o) d vector_good;
    once = λ n m s t. steady_once finished? (λ k. divide S k d) (divide_steady S d) n m s t;
  }
    where
      S : Stage
      S = stage_over lim q.p q.code (f ∷ [])

      d : Division
      d = record { value = v; quotients = []; remainder = [] }
