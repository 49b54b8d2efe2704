-- One step of a division, put together from its parts.
use mathlib.Core.Bool.{false}
use mathlib.Core.Path.{◌≡◌, sym, ap, ◌∙◌}
use mathlib.Core.Option.{some}
use mathlib.Core.List.{[], ◌∷◌, ◌++◌}
use Prim.Native.Nat.{ℕ, ◌<◌, ◌≤◌}
use native.Mathlib.Omega.{arith}
use lib.ListN.{length, get_or}
use borrow.Author.Tests.{lt-ltb, le-ltb}
use Rattle.definitions.specs.Lists.{without}
use Rattle.definitions.specs.Field.{minus}
use Rattle.definitions.specs.Monomial.{Exponents, Term, Vector, no_term, vector_of}
use Rattle.definitions.specs.Reducer.{Answer, answer}
use Rattle.definitions.specs.Result.{Result, done, refusal, ◌>>=◌}
use Rattle.definitions.specs.Vectors.{store, appended}
use Rattle.definitions.specs.Stage.{Stage}
use Rattle.definitions.specs.Run.{add_products}
use Rattle.definitions.specs.Membership.{Division, divided, moved, by_reducer}
use Rattle.definitions.specs.Layout.{Words}
use Rattle.runs.specs.declared.reduction.Ground.{Ground}
use Rattle.dividing.specs.steps.Divisions.{Rooms, stepped}

-- ## With a reducer

module _ (S : Stage) (d : Division) (j c : ℕ) (q : Exponents) where
  abbrev stored : Result Vector
  stored = store S.reduction.limits.vector S.reduction.p (c, (q, j)) d.quotients

  abbrev added : Result Vector
  added = add_products S.reduction false (minus S.reduction.p c) q (vector_of S.family j) d.value

  abbrev with_quotients : Vector → Result Vector → Result Division
  with_quotients w a = a >>= λ v. done (record { value = v; quotients = w; remainder = d.remainder })

  pub record_refused : (number : ℕ) → refusal number ≡ stored → refusal number ≡ divided S d j c q
  record_refused number e = ap (λ s. s >>= λ w. with_quotients w added) e

  pub products_refused : (w : Vector) (number : ℕ) → done w ≡ stored → refusal number ≡ added → refusal number ≡ divided S d j c q
  products_refused w number e h = ap (with_quotients w) h ∙ ap (λ s. s >>= λ w. with_quotients w added) e

  pub both_added : (w v : Vector) → done w ≡ stored → done v ≡ added
      → done (record { value = v; quotients = w; remainder = d.remainder }) ≡ divided S d j c q
  both_added w v e h = ap (with_quotients w) h ∙ ap (λ s. s >>= λ w. with_quotients w added) e

-- ## Without one

module _ (S : Stage) (d : Division) (i : ℕ) (t : Term) where
  abbrev moves : Result Vector → Result Division
  moves a = a >>= λ r. done (record { value = without i d.value; quotients = d.quotients; remainder = r })

  pub moved_full : S.reduction.limits.working ≤ length d.remainder → refusal 14 ≡ moved S d i t
  moved_full l = sym (ap (λ b. moves (appended b t d.remainder)) (le-ltb (length d.remainder) S.reduction.limits.working l))

  pub moved_on : (v r : Vector) → length d.remainder < S.reduction.limits.working → v ≡ without i d.value → r ≡ d.remainder ++ t ∷ []
      → done (record { value = v; quotients = d.quotients; remainder = r }) ≡ moved S d i t
  moved_on v r l e h =
      (λ k. done (record { value = e k; quotients = d.quotients; remainder = h k }))
      ∙ sym (ap (λ b. moves (appended b t d.remainder)) (lt-ltb (length d.remainder) S.reduction.limits.working l))

-- ## The whole step

module _ (S : Stage) (d : Division) (i : ℕ) where
  pub step_at : (a : Answer) → a ≡ answer S.reduction.p S.reduction.heads (get_or d.value i no_term)
      → by_reducer S d i (get_or d.value i no_term) a ≡ stepped S d (some i)
  step_at a e = ap (by_reducer S d i (get_or d.value i no_term)) e

-- ## The slices keep their lengths

pub rooms_again : (g : Ground) (value quotients remainder value' quotients' remainder' : Words) → length value' ≡ length value
    → length quotients' ≡ length quotients → length remainder' ≡ length remainder
    → Rooms g value quotients remainder → Rooms g value' quotients' remainder'
rooms_again g value quotients remainder value' quotients' remainder' e h k r = record {
  value_fits = omega (arith, r.value_fits);
  quotients_fit = omega (arith, r.quotients_fit);
  remainder_fits = omega (arith, r.remainder_fits);
}
