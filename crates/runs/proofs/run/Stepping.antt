-- One step, put together from its parts.
use mathlib.Core.Path.{◌≡◌, refl, sym, ap, ◌∙◌, subst}
use mathlib.Core.Bool.{Bool, true, false}
use mathlib.Core.Option.{some}
use mathlib.Core.List.{[], ◌∷◌}
use Prim.Native.Nat.{ℕ, suc, ◌+◌, ◌*◌, ◌<◌, ◌≤◌}
use native.Mathlib.Omega.{arith}
use lib.ListN.{length}
use Rattle.std.specs.Prelude.{Ok}
use Rattle.definitions.specs.Monomial.{Exponents, Monomial, Term, Vector, Level, vector_of, divides_monomial?}
use Rattle.definitions.specs.Order.{Comparison}
use Rattle.definitions.specs.Reducer.{Answer, reducer, lower_order, answer_from}
use Rattle.definitions.specs.Result.{Result, done, refusal, ◌>>=◌}
use Rattle.definitions.specs.Vectors.{store}
use Rattle.definitions.specs.Stage.{Reduction, Stage}
use Rattle.definitions.specs.Run.{Run, Step, on, add_products, without_reducer, by_code}
use Rattle.definitions.specs.Layout.{Words, rows}
use Rattle.vectors.proofs.terms.Stored.{rows_closed}
use Rattle.ending.proofs.Picking.{picks_by_code}
use Rattle.laws.proofs.Rows.{length_rows}
use Rattle.definitions.specs.Places.{row_length}
use Rattle.runs.specs.declared.reduction.Ground.{Ground}
use Rattle.runs.specs.run.Stages.{run_of, reduced_by, without_step, without_words, step_of, Room, Rooms}

-- ## The part with a reducer

module _ (R : Reduction) (f : Level) (drops : Bool) (r : Run) (j c : ℕ) (q : Exponents) where
  abbrev stored : Result Vector
  stored = store R.limits.vector R.p (c, (q, j)) r.vector

  abbrev added : Result Vector
  added = add_products R drops c q (vector_of f j) r.value

  abbrev with_vector : Vector → Result Vector → Result Step
  with_vector v a = a >>= λ w. done (on (record { value = w; vector = v }))

  pub record_refused : (number : ℕ) → refusal number ≡ stored → refusal number ≡ reduced_by R f drops r j c q
  record_refused number e = ap (λ s. s >>= λ v. with_vector v added) e

  pub products_refused : (v : Vector) (number : ℕ) → done v ≡ stored → refusal number ≡ added → refusal number ≡ reduced_by R f drops r j c q
  products_refused v number e h = ap (with_vector v) h ∙ ap (λ s. s >>= λ v. with_vector v added) e

  pub both_added : (v w : Vector) → done v ≡ stored → done w ≡ added → done (on (record { value = w; vector = v })) ≡ reduced_by R f drops r j c q
  both_added v w e h = ap (with_vector v) h ∙ ap (λ s. s >>= λ v. with_vector v added) e

-- ## The part without one

module _ (S : Stage) (value : Words) (n : ℕ) (vector : Words) (v i : ℕ) (l : i < n) (fits : n * row_length ≤ length value) where
  pub left_out : (stops : Bool)
      → step_of S.below S.reduction.p (Ok (without_step stops n v)) (without_words stops value n i) vector
      ≡ without_reducer stops S (run_of value n vector v) i
  left_out true = refl
  left_out false = ap (λ w. done (on (record { value = w; vector = rows vector 0 v }))) (rows_closed value n i l fits)

pub without_room : (g : Ground) (n v : ℕ) (stops : Bool) → n ≤ g.working → v ≤ g.vector → Room g (Ok (without_step stops n v))
without_room g n v true k l = k
without_room g n v false k l = (omega arith, l)

-- ## The pick

-- it is inside the value
pub inside : (value : Words) (n : ℕ) (order : Monomial → Monomial → Comparison) (code i : ℕ) → some i ≡ by_code order code (rows value 0 n) → i < n
inside value n order code i e = omega (arith, picks_by_code order code (rows value 0 n) i (sym e), length_rows value 0 n)

-- ## The reducer's number

abbrev Numbered : ℕ → ℕ → Answer → Type 0
Numbered k r (reducer j c q) = (k ≤ j) × (j < k + r)
Numbered k r lower_order = Unit {0}

numbered : (p k : ℕ) (hs : Vector) (t : Term) → Numbered k (length hs) (answer_from p k hs t)
numbered p k [] t = tt
numbered p k (h ∷ hs) t = go (divides_monomial? h.1 t.1) (answer_from p (suc k) hs t) (numbered p (suc k) hs t)
  where
    here : Answer
    here = reducer k (Rattle.definitions.specs.Field.times p t.0 h.0) (Rattle.definitions.specs.Monomial.quotient t.1.0 h.1.0)

    wider : (a : Answer) → Numbered (suc k) (length hs) a → Numbered k (suc (length hs)) a
    wider (reducer j c q) l = (omega arith, omega arith)
    wider lower_order l = tt

    go : (b : Bool) (later : Answer) → Numbered (suc k) (length hs) later → Numbered k (suc (length hs)) (elim b [ true ↦ here | false ↦ later ])
    go true later l = (omega arith, omega arith)
    go false later l = wider later l

pub reducer_number : (p : ℕ) (hs : Vector) (t : Term) (j c : ℕ) (q : Exponents) → reducer j c q ≡ answer_from p 1 hs t → (1 ≤ j) × (j ≤ length hs)
reducer_number p hs t j c q e = (
  (subst (Numbered 1 (length hs)) (sym e) (numbered p 1 hs t)).0,
  omega (arith, (subst (Numbered 1 (length hs)) (sym e) (numbered p 1 hs t)).1),
)

-- ## The slices keep their lengths

pub rooms_again : (g : Ground) (value vector value' vector' : Words) → length value' ≡ length value → length vector' ≡ length vector
    → Rooms g value vector → Rooms g value' vector'
rooms_again g value vector value' vector' e h r = record {
  value_fits = omega (arith, r.value_fits);
  vector_fits = omega (arith, r.vector_fits);
  left_fits = omega (arith, r.left_fits);
}
