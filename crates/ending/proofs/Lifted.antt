-- What division and hybrid leave is strictly descending, with proper terms: so the next level's stage is well again.
use mathlib.Core.Path.{◌≡◌, refl, sym, ap, ◌∙◌}
use mathlib.Core.Logic.{◌≢◌}
use mathlib.Core.Bool.{Bool, true, false}
use mathlib.Core.Option.{Option, none, some}
use mathlib.Core.List.{[], ◌∷◌}
use Prim.Native.Nat.{ℕ, zero, suc, ◌%◌, ◌≤◌, ◌<◌}
use lib.ListN.{length, get_or}
use Rattle.definitions.specs.Field.{minus}
use Rattle.definitions.specs.Monomial.{Exponents, Monomial, Term, Vector, no_term, fits?, vector_of}
use Rattle.definitions.specs.Order.{Comparison}
use Rattle.definitions.specs.Reducer.{Answer, reducer, lower_order, heads, answer}
use Rattle.definitions.specs.Result.{Result, done, refused, unfinished, ◌>>=◌}
use Rattle.definitions.specs.Vectors.{descending, store}
use Rattle.definitions.specs.Stage.{Reduction, Stage}
use Rattle.definitions.specs.Run.{Run, Strategy, Step, on, end, dropped?, unless_dropped, if_fits, multiple, add_term, add_products, start, reduced}
use Rattle.definitions.specs.Run.{without_reducer, by_answer, by_pick, step, continued, runs, run}
use Rattle.laws.proofs.Members.{All, all_map, all_inside, all_without}
use Rattle.laws.proofs.Modular.{Prime}
use Rattle.laws.proofs.Coefficients.{times_nonzero, minus_nonzero, plus_nonzero, one_nonzero}
use Rattle.laws.proofs.Comparisons.{Orders}
use Rattle.laws.proofs.Induced.{Has, Shaped}
use Rattle.laws.proofs.Reducers.{Reducing, answer_reducing, answer_number, reducing_some, reducing_leads, reducing_nonzero}
use Rattle.laws.proofs.Results.{IfDone, if_done_bind}
use Rattle.laws.proofs.Sums.{Joins, inserted_all, store_all, inserted_descends}
use Rattle.ending.specs.Well.{Proper, Descending, Well, Picks}
use Rattle.ending.proofs.Adding.{product_shaped}
use Rattle.ending.proofs.Costs.{descending_of}

-- ## Sums of proper terms

module _ (p : ℕ) (P : Prime p) where
  proper_joins : Joins p (Proper p)
  proper_joins a b h k n = record { shaped = k.shaped; coefficient = plus_nonzero p P a.0 b.0 n }

  multiple_proper : (c : ℕ) (q : Exponents) (t : Term) → c % p ≢ 0 → length q ≡ 8 → Proper p t → Proper p (multiple p c q t)
  multiple_proper c q t h l k = record { shaped = product_shaped q l t.1 k.shaped; coefficient = times_nonzero p P c t.0 h k.coefficient }

add_term_proper : (R : Reduction) → Prime R.p → (drops : Bool) (t : Term) → Proper R.p t → (v : Vector) → All (Proper R.p) v
    → IfDone (All (Proper R.p)) (add_term R drops t v)
add_term_proper R P drops t h v k = go (fits? R.limits.exponent t.1.0)
  where
    stays : (b : Bool) → IfDone (All (Proper R.p)) (unless_dropped b R t v)
    stays true = k
    stays false = store_all R.p (Proper R.p) (proper_joins R.p P) R.limits.working t h v k

    go : (b : Bool) → IfDone (All (Proper R.p)) (if_fits b R drops t v)
    go false = tt
    go true = stays (dropped? R drops t.1)

add_products_proper : (R : Reduction) → Prime R.p → (drops : Bool) (c : ℕ) (q : Exponents) → c % R.p ≢ 0 → length q ≡ 8 → (f : Vector)
    → All (Proper R.p) f
    → (v : Vector) → All (Proper R.p) v → IfDone (All (Proper R.p)) (add_products R drops c q f v)
add_products_proper R P drops c q h l [] s v k = k
add_products_proper R P drops c q h l (t ∷ f) s v k =
    if_done_bind (All (Proper R.p)) (All (Proper R.p)) (add_term R drops (multiple R.p c q t) v) (λ w. add_products R drops c q f w)
    (add_term_proper R P drops (multiple R.p c q t) (multiple_proper R.p P c q t h l s.0) v k) (add_products_proper R P drops c q h l f s.1)

-- ## Runs

-- the multiple that a reducer gives
record Multiple (p c : ℕ) (q : Exponents) : Type 0 where
  nonzero : c % p ≢ 0
  eight : length q ≡ 8

reducing_multiple : (p : ℕ) → Prime p → (order : Monomial → Monomial → Comparison) (f : Vector) → Descending p order f → (t : Term) → Proper p t
    → (c : ℕ) (q : Exponents) → Reducing p f t c q → Multiple p c q
reducing_multiple p P order [] d t h c q r = absurd (reducing_some p t c q r h.shaped.component)
reducing_multiple p P order (u ∷ f) d t h c q r = record {
  nonzero = reducing_nonzero p t c q u f r P h.coefficient d.proper.0.coefficient;
  eight = (reducing_leads p t c q u f r 8 d.proper.0.shaped.long h.shaped.long).long;
}

abbrev ProperStep : ℕ → Step → Type 0
ProperStep p (on r) = All (Proper p) r.value × All (Proper p) r.vector
ProperStep p (end v) = All (Proper p) v

module _ (S : Stage) (X : Well S) (O : Orders (Has 8) S.above) (W : Strategy) (K : Picks W.pick) where
  abbrev R : Reduction
  R = S.reduction

  abbrev Terms : Vector → Type 0
  Terms v = All (Proper R.p) v

  reduced_proper : (r : Run) → Terms r.value → Terms r.vector → (j c : ℕ) (q : Exponents) → 1 ≤ j → Multiple R.p c q
      → IfDone (ProperStep R.p) (reduced S W r j (minus R.p c) q)
  reduced_proper r a b j c q n m =
      if_done_bind Terms (ProperStep R.p) (store R.limits.vector R.p (minus R.p c, (q, j)) r.vector)
      (λ v. added >>= λ w. done (on (record { value = w; vector = v })))
      (store_all R.p (Proper R.p) (proper_joins R.p X.prime) R.limits.vector (minus R.p c, (q, j))
      (record { shaped = record { long = m.eight; component = n }; coefficient = turned }) r.vector b) λ v h.
      if_done_bind Terms (ProperStep R.p) added (λ w. done (on (record { value = w; vector = v })))
      (add_products_proper R X.prime W.drops (minus R.p c) q turned m.eight (vector_of S.family j)
      (descending_of R.p S.below S.family X.family j).proper r.value a) (λ w k. (k, h))
    where
      added : Result Vector
      added = add_products R W.drops (minus R.p c) q (vector_of S.family j) r.value

      turned : minus R.p c % R.p ≢ 0
      turned = minus_nonzero R.p X.prime c m.nonzero

  answer_proper : (r : Run) → Terms r.value → Terms r.vector → (i : ℕ) → Proper R.p (get_or r.value i no_term) → (a : Answer)
      → answer R.p R.heads (get_or r.value i no_term) ≡ a → IfDone (ProperStep R.p) (by_answer S W r i a)
  answer_proper r a b i h lower_order e = go W.stops
    where
      go : (stops : Bool) → IfDone (ProperStep R.p) (without_reducer stops S r i)
      go true = tt
      go false = (all_without (Proper R.p) r.value i a, b)
  answer_proper r a b i h (reducer j c q) e =
      let t = get_or r.value i no_term in
      let k : answer R.p (heads R.p S.family) t ≡ reducer j c q = ap (λ hs. answer R.p hs t) (sym X.heads_are) ∙ e in
      reduced_proper r a b j c q (answer_number R.p S.family t j c q k).0
      (reducing_multiple R.p X.prime S.below (vector_of S.family j) (descending_of R.p S.below S.family X.family j) t h c q
      (answer_reducing R.p S.family t j c q k))

  step_proper : (r : Run) → Terms r.value → Terms r.vector → IfDone (ProperStep R.p) (step S W r)
  step_proper r a b = go (W.pick r.value) (K r.value)
    where
      go : (o : Option ℕ) → ((i : ℕ) → o ≡ some i → i < length r.value) → IfDone (ProperStep R.p) (by_pick S W r o)
      go none l = b
      go (some i) l =
          answer_proper r a b i (all_inside (Proper R.p) no_term r.value i (l i refl) a)
          (answer R.p R.heads (get_or r.value i no_term)) refl

  -- what a run ends with
  abbrev Sorted : Vector → Type 0
  Sorted v = Descending R.p S.above v

  sorted_terms : (v : Vector) → Terms v → Sorted (descending S.above R.p v)
  sorted_terms v h = record {
    proper = inserted_all R.p (Proper R.p) (proper_joins R.p X.prime) S.above [] v tt h;
    strictly = inserted_descends (Has 8) S.above O R.p [] v tt (all_map (Proper R.p) (λ u. Has 8 u.1) (λ u k. k.shaped.long) v h) tt;
  }

  runs_sorted : (n : ℕ) (r : Run) → Terms r.value → Terms r.vector → IfDone Sorted (runs S W n r)
  runs_sorted zero r a b = tt
  runs_sorted (suc n) r a b = go (step S W r) (step_proper r a b) (runs_sorted n)
    where
      go : (s : Result Step) → IfDone (ProperStep R.p) s → ((r' : Run) → Terms r'.value → Terms r'.vector → IfDone Sorted (runs S W n r'))
          → IfDone Sorted (continued S (λ r'. runs S W n r') s)
      go (done (on r')) h ih = ih r' h.0 h.1
      go (done (end v)) h ih = sorted_terms v h
      go (refused number place value) h ih = tt
      go unfinished h ih = tt

  pub run_descending : (m : Monomial) → Shaped 8 m → (n : ℕ) → IfDone Sorted (run S W n m)
  run_descending m s n =
      if_done_bind (λ r. Terms r.value × Terms r.vector) Sorted (start S W m) (λ r. runs S W n r)
      (if_done_bind Terms (λ r. Terms r.value × Terms r.vector) products (λ v. done (record { value = v; vector = (1, m) ∷ [] }))
      (add_products_proper R X.prime W.drops 1 m.0 (one_nonzero R.p X.prime) s.long (vector_of S.family m.1)
      (descending_of R.p S.below S.family X.family m.1).proper [] tt)
      (λ v h. (h, (record { shaped = s; coefficient = one_nonzero R.p X.prime }, tt))))
      (λ r h. runs_sorted n r h.0 h.1)
    where
      products : Result Vector
      products = add_products R W.drops 1 m.0 (vector_of S.family m.1) []
