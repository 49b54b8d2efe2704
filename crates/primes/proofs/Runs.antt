-- No run reads the bound on p: division, hybrid and acceptance.
use mathlib.Core.Path.{◌≡◌, refl, ap, ◌∙◌}
use mathlib.Core.Bool.{Bool, true, false}
use mathlib.Core.Option.{Option, none, some}
use mathlib.Core.List.{List, [], ◌∷◌}
use Prim.Native.Nat.{ℕ, zero, suc}
use lib.ListN.{get_or}
use Rattle.definitions.specs.Limits.{Limits}
use Rattle.definitions.specs.Field.{minus}
use Rattle.definitions.specs.Monomial.{Exponents, Monomial, Term, Vector, Level, no_term, fits?, vector_of}
use Rattle.definitions.specs.Reducer.{Answer, reducer, lower_order, answer}
use Rattle.definitions.specs.Result.{Result, done, refused, unfinished, ◌>>=◌}
use Rattle.definitions.specs.Vectors.{store}
use Rattle.definitions.specs.Stage.{Reduction, Stage, highest, stage_over}
use Rattle.definitions.specs.Run.{Run, Strategy, Step, on, end, dropped?, unless_dropped, if_fits, add_products, multiple, start, reduced, without_reducer}
use Rattle.definitions.specs.Run.{by_answer, by_pick, step, continued, runs, run}
use Rattle.primes.specs.Primes.{with_prime_bound}

module _ (lim : Limits) (bound p code : ℕ) (below : List Level) where
  abbrev pub old : Stage
  old = stage_over lim p code below

  abbrev pub new : Stage
  new = stage_over (with_prime_bound bound lim) p code below

  abbrev R : Reduction
  R = old.reduction

  abbrev R' : Reduction
  R' = new.reduction

  dropped_same : (drops : Bool) (m : Monomial) → dropped? R' drops m ≡ dropped? R drops m
  dropped_same true m = refl
  dropped_same false m = refl

  unless_same : (b : Bool) (t : Term) (v : Vector) → unless_dropped b R' t v ≡ unless_dropped b R t v
  unless_same true t v = refl
  unless_same false t v = refl

  fits_same : (b drops : Bool) (t : Term) (v : Vector) → if_fits b R' drops t v ≡ if_fits b R drops t v
  fits_same false drops t v = refl
  fits_same true drops t v = ap (λ b. unless_dropped b R' t v) (dropped_same drops t.1) ∙ unless_same (dropped? R drops t.1) t v

  products_same : (drops : Bool) (c : ℕ) (q : Exponents) (f v : Vector) → add_products R' drops c q f v ≡ add_products R drops c q f v
  products_same drops c q [] v = refl
  products_same drops c q (t ∷ f) v =
      λ i. fits_same (fits? lim.exponent (multiple p c q t).1.0) drops (multiple p c q t) v i >>= λ w. products_same drops c q f w i

  module _ (W : Strategy) where
    start_same : (m : Monomial) → start new W m ≡ start old W m
    start_same m =
        ap (λ x. x >>= λ v. done (record { value = v; vector = (1, m) ∷ [] })) (products_same W.drops 1 m.0 (vector_of (highest below) m.1) [])

    reduced_same : (r : Run) (j c : ℕ) (q : Exponents) → reduced new W r j c q ≡ reduced old W r j c q
    reduced_same r j c q = λ i.
        store lim.vector p (c, (q, j)) r.vector >>= λ v.
        products_same W.drops c q (vector_of (highest below) j) r.value i >>= λ w.
        done (on (record { value = w; vector = v }))

    stopped_same : (b : Bool) (r : Run) (i : ℕ) → without_reducer b new r i ≡ without_reducer b old r i
    stopped_same true r i = refl
    stopped_same false r i = refl

    answered_same : (r : Run) (i : ℕ) (a : Answer) → by_answer new W r i a ≡ by_answer old W r i a
    answered_same r i (reducer j c q) = reduced_same r j (minus p c) q
    answered_same r i lower_order = stopped_same W.stops r i

    picked_same : (r : Run) (o : Option ℕ) → by_pick new W r o ≡ by_pick old W r o
    picked_same r none = refl
    picked_same r (some i) = answered_same r i (answer p R.heads (get_or r.value i no_term))

    continued_same : (go go' : Run → Result Vector) → ((r : Run) → go' r ≡ go r) → (x : Result Step) → continued new go' x ≡ continued old go x
    continued_same go go' h (done (on r)) = h r
    continued_same go go' h (done (end v)) = refl
    continued_same go go' h (refused number place value) = refl
    continued_same go go' h unfinished = refl

    runs_same : (n : ℕ) (r : Run) → runs new W n r ≡ runs old W n r
    runs_same zero r = refl
    runs_same (suc n) r =
        ap (continued new (λ r'. runs new W n r')) (picked_same r (W.pick r.value))
        ∙ continued_same (λ r'. runs old W n r') (λ r'. runs new W n r') (λ r'. runs_same n r') (step old W r)

    pub run_same : (n : ℕ) (m : Monomial) → run new W n m ≡ run old W n m
    run_same n m = λ i. start_same m i >>= λ r. runs_same n r i
