-- A division ends, and what it gives does not depend on the bound: the value goes as in a run that drops a leading term without a reducer.
use mathlib.Core.Path.{◌≡◌, refl, sym, ap, ◌∙◌, subst}
use mathlib.Core.Bool.{Bool, true, false, not}
use mathlib.Core.Option.{Option, none, some}
use mathlib.Core.List.{[], ◌∷◌}
use Prim.Native.Nat.{ℕ, zero, suc, ◌<◌, ◌≤◌}
use native.Mathlib.Omega.{arith}
use lib.Dec.{T, ltb, nltb→le}
use lib.ListN.{length, get_or}
use Rattle.definitions.specs.Lists.{without}
use Rattle.definitions.specs.Field.{minus}
use Rattle.definitions.specs.Monomial.{Exponents, Term, Vector, no_term, vector_of}
use Rattle.definitions.specs.Reducer.{Answer, reducer, lower_order, answer}
use Rattle.definitions.specs.Result.{Result, done, refused, unfinished, finished?, ◌>>=◌}
use Rattle.definitions.specs.Vectors.{store, appended}
use Rattle.definitions.specs.Stage.{Reduction, Stage}
use Rattle.definitions.specs.Run.{Run, Strategy, on, greatest, add_products, by_answer, by_pick, step, division_strategy}
use Rattle.laws.proofs.Results.{IfDone, if_done_bind, if_done_always, if_done_shows, if_done_says, bind_finished}
use Rattle.laws.proofs.Finished.{store_finished, add_products_finished}
use Rattle.laws.proofs.Steady.{Steady, Ends}
use Rattle.ending.specs.Good.{good?}
use Rattle.ending.specs.Spent.{spent}
use Rattle.ending.specs.Well.{Well, Picks}
use Rattle.ending.proofs.Picking.{picks_by_code}
use Rattle.ending.proofs.Falling.{step_keeps, step_falls}
use Rattle.definitions.specs.Membership.{Division, divided, moved, by_reducer, division_step, divide_by, divide}

true_is : (b : Bool) → (T (not b) → ⊥) → b ≡ true
true_is true h = refl
true_is false h = absurd (h tt)

-- ## The bound does not matter

divide_next : (S : Stage) (n : ℕ) → ((d : Division) → T (finished? (divide S n d)) → divide S (suc n) d ≡ divide S n d)
    → (x : Result Division) → T (finished? (x >>= divide S n)) → x >>= divide S (suc n) ≡ x >>= divide S n
divide_next S n ih (done d) t = ih d t
divide_next S n ih (refused number place value) t = refl
divide_next S n ih unfinished t = refl

pub divide_steady : (S : Stage) (d : Division) → Steady finished? (λ n. divide S n d)
divide_steady S d zero t = absurd t
divide_steady S d (suc n) t = go (greatest S.below d.value) (λ e. divide_steady S e n) t
  where
    go : (o : Option ℕ) → ((e : Division) → T (finished? (divide S n e)) → divide S (suc n) e ≡ divide S n e) → T (finished? (divide_by S (divide S n) d o))
        → divide_by S (divide S (suc n)) d o ≡ divide_by S (divide S n) d o
    go none ih t = refl
    go (some i) ih t = divide_next S n ih (division_step S d i (get_or d.value i no_term)) t

-- ## Each step ends

appended_finished : (b : Bool) (t : Term) (v : Vector) → T (finished? (appended b t v))
appended_finished true t v = tt
appended_finished false t v = tt

division_step_finished : (S : Stage) (d : Division) (i : ℕ) (t : Term) → T (finished? (division_step S d i t))
division_step_finished S d i t = go (answer S.reduction.p S.reduction.heads t)
  where
    R : Reduction
    R = S.reduction

    go : (a : Answer) → T (finished? (by_reducer S d i t a))
    go (reducer j c q) =
        bind_finished (store R.limits.vector R.p (c, (q, j)) d.quotients)
        (λ w. add_products R false (minus R.p c) q (vector_of S.family j) d.value >>= λ v. done
        (record { value = v; quotients = w; remainder = d.remainder }))
        (store_finished R.limits.vector R.p (c, (q, j)) d.quotients) λ w.
        bind_finished (add_products R false (minus R.p c) q (vector_of S.family j) d.value)
        (λ v. done (record { value = v; quotients = w; remainder = d.remainder }))
        (add_products_finished R false (minus R.p c) q (vector_of S.family j) d.value) (λ v. tt)
    go lower_order =
        let b = ltb (length d.remainder) R.limits.working in
        bind_finished (appended b t d.remainder) (λ r. done (record { value = without i d.value; quotients = d.quotients; remainder = r }))
        (appended_finished b t d.remainder) (λ r. tt)

-- ## The value falls

module _ (S : Stage) (X : Well S) (room : 1 ≤ S.reduction.limits.vector) where
  abbrev R : Reduction
  R = S.reduction

  abbrev W : Strategy
  W = division_strategy S

  K : Picks W.pick
  K = picks_by_code S.below 1

  abbrev alone : Vector → Run
  alone v = record { value = v; vector = [] }

  abbrev costs : Vector → ℕ
  costs v = spent R.p R.heads S.family v

  abbrev Next : Vector → Vector → Type 0
  Next v w = T (good? w) × (costs w < costs v)

  by_step : (v w u : Vector) → T (good? v) → step S W (alone v) ≡ done (on (record { value = w; vector = u })) → Next v w
  by_step v w u g e = (
    step_keeps S X W K (alone v) (record { value = w; vector = u }) g e,
    step_falls S X W K (alone v) (record { value = w; vector = u }) g e,
  )

  -- the vector of a run that has none yet takes its first term
  first_stored : (t : Term) → store R.limits.vector R.p t [] ≡ done (t ∷ [])
  first_stored t = ap (λ b. appended b t [])
      (true_is (ltb 0 R.limits.vector) (λ k. let l : R.limits.vector ≤ 0 = nltb→le 0 R.limits.vector k in omega (arith, room)))

  module _ (d : Division) (g : T (good? d.value)) (i : ℕ) (e : greatest S.below d.value ≡ some i) where
    abbrev t : Term
    t = get_or d.value i no_term

    abbrev Falls : Division → Type 0
    Falls d' = Next d.value d'.value

    picked : step S W (alone d.value) ≡ by_answer S W (alone d.value) i (answer R.p R.heads t)
    picked = ap (by_pick S W (alone d.value)) e

    divided_falls : (j c : ℕ) (q : Exponents) → answer R.p R.heads t ≡ reducer j c q → IfDone Falls (divided S d j c q)
    divided_falls j c q a =
        if_done_bind (λ w. Unit {0}) Falls stored (λ w. added >>= λ v. done (record { value = v; quotients = w; remainder = d.remainder }))
        (if_done_always (λ w. Unit {0}) (λ w. tt) stored) λ w u.
        if_done_bind (Next d.value) Falls added (λ v. done (record { value = v; quotients = w; remainder = d.remainder }))
        (if_done_shows (Next d.value) added (λ v k. by_step d.value v (first ∷ []) g (same v k))) (λ v k. k)
      where
        stored : Result Vector
        stored = store R.limits.vector R.p (c, (q, j)) d.quotients

        added : Result Vector
        added = add_products R false (minus R.p c) q (vector_of S.family j) d.value

        first : Term
        first = (minus R.p c, (q, j))

        same : (v : Vector) → added ≡ done v → step S W (alone d.value) ≡ done (on (record { value = v; vector = first ∷ [] }))
        same v k =
            picked ∙ ap (by_answer S W (alone d.value) i) a ∙ ap (λ x. x >>= λ u. added >>= λ w. done (on (record { value = w; vector = u })))
            (first_stored first)
            ∙ ap (λ x. x >>= λ w. done (on (record { value = w; vector = first ∷ [] }))) k

    moved_falls : answer R.p R.heads t ≡ lower_order → IfDone Falls (moved S d i t)
    moved_falls a = go (ltb (length d.remainder) R.limits.working)
      where
        go : (b : Bool) → IfDone Falls (appended b t d.remainder >>= λ r. done
            (record { value = without i d.value; quotients = d.quotients; remainder = r }))
        go true = by_step d.value (without i d.value) [] g (picked ∙ ap (by_answer S W (alone d.value) i) a)
        go false = tt

    division_step_falls : IfDone Falls (division_step S d i t)
    division_step_falls = go (answer R.p R.heads t) refl
      where
        go : (a : Answer) → answer R.p R.heads t ≡ a → IfDone Falls (by_reducer S d i t a)
        go (reducer j c q) a = divided_falls j c q a
        go lower_order a = moved_falls a

  -- for the measure of a loop: a step keeps a good value good ..
  pub division_step_keeps : (d d' : Division) → T (good? d.value) → (i : ℕ) → greatest S.below d.value ≡ some i
      → division_step S d i (get_or d.value i no_term) ≡ done d' → T (good? d'.value)
  division_step_keeps d d' g i e h = (if_done_says (Falls d g i e) (division_step S d i (get_or d.value i no_term)) (division_step_falls d g i e) d' h).0

  -- .. and what the value can cost falls
  pub division_step_spends : (d d' : Division) → T (good? d.value) → (i : ℕ) → greatest S.below d.value ≡ some i
      → division_step S d i (get_or d.value i no_term) ≡ done d'
      → spent S.reduction.p S.reduction.heads S.family d'.value < spent S.reduction.p S.reduction.heads S.family d.value
  division_step_spends d d' g i e h = (if_done_says (Falls d g i e) (division_step S d i (get_or d.value i no_term)) (division_step_falls d g i e) d' h).1

  -- ## The division ends

  divide_within : (k : ℕ) (d : Division) → T (good? d.value) → costs d.value < k → Ends finished? (λ n. divide S n d)
  divide_within zero d g l = absurd (omega arith)
  divide_within (suc k) d g l = go (greatest S.below d.value) refl (divide_within k)
    where
      go : (o : Option ℕ) → greatest S.below d.value ≡ o → ((e : Division) → T (good? e.value) → costs e.value < k
          → Ends finished? (λ n. divide S n e))
          → Ends finished? (λ n. divide S n d)
      go none e ih = (1, subst (λ o. T (finished? (divide_by S (divide S 0) d o))) (sym e) tt)
      go (some i) e ih = at (division_step S d i (get_or d.value i no_term)) refl
        where
          after : (n : ℕ) (x : Result Division) → division_step S d i (get_or d.value i no_term) ≡ x → T (finished? (x >>= divide S n))
              → Ends finished? (λ n. divide S n d)
          after n x h t =
              (suc n, subst (λ o. T (finished? (divide_by S (divide S n) d o))) (sym e) (subst (λ y. T (finished? (y >>= divide S n))) (sym h) t))

          at : (x : Result Division) → division_step S d i (get_or d.value i no_term) ≡ x → Ends finished? (λ n. divide S n d)
          at (done d') h =
              let f : Next d.value d'.value = if_done_says (Falls d g i e) (division_step S d i (get_or d.value i no_term))
              (division_step_falls d g i e) d' h in
              let later = ih d' f.0 (omega (arith, f.1)) in
              after later.0 (done d') h later.1
          at (refused number place value) h = after 0 (refused number place value) h tt
          at unfinished h = absurd (subst (λ y. T (finished? y)) h (division_step_finished S d i (get_or d.value i no_term)))

  pub divide_ends : (d : Division) → T (good? d.value) → Ends finished? (λ n. divide S n d)
  divide_ends d g = divide_within (suc (costs d.value)) d g (omega arith)
