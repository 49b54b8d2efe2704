-- When 9, 13 and 14 come in a run, that nothing stands past a limit there, and where acceptance is refused.
use mathlib.Core.Path.{◌≡◌, refl, sym, ap, ◌∙◌, subst}
use mathlib.Core.Logic.{inl, inr}
use mathlib.Core.Bool.{Bool, true, false}
use mathlib.Core.Option.{Option, none, some}
use mathlib.Core.List.{List, [], ◌∷◌, ◌++◌, append_assoc}
use Prim.Native.Nat.{ℕ, zero, suc, ◌+◌, ◌<◌, ◌≤◌}
use native.Mathlib.Omega.{arith}
use lib.Dec.{T, leb, ltb, eqb, leb→le, le→leb, ltb→lt, lt→ltb}
use lib.ListN.{length, get_or, take, drop, length-append}
use Rattle.definitions.specs.Lists.{without}
use Rattle.definitions.specs.Field.{minus, plus}
use Rattle.definitions.specs.Limits.{Limits}
use Rattle.definitions.specs.Monomial.{Exponents, Monomial, Term, Vector, Level, no_term, fits?, vector_of, leading_monomials, same_monomial?}
use Rattle.definitions.specs.Frame.{frame}
use Rattle.definitions.specs.Reducer.{Answer, reducer, lower_order, answer}
use Rattle.definitions.specs.Result.{Result, done, refused, unfinished, ◌>>=◌}
use Rattle.definitions.specs.Vectors.{descending, unless_zero, behind, combined, appended, or_last, store}
use Rattle.definitions.specs.Stage.{Reduction, Stage, stage_over}
use Rattle.definitions.specs.Run.{Run, Strategy, Step, on, end, dropped?, unless_dropped, if_fits, multiple, add_term, add_products, start, reduced}
use Rattle.definitions.specs.Run.{without_reducer, by_answer, by_pick, step, continued, runs, run, accepting_strategy}
use Rattle.definitions.specs.Lifting.{if_few, accepting_place, at_frame_term, accept_from, accept}
use Rattle.laws.proofs.Tests.{and_left, and_right, and_both}
use Rattle.laws.proofs.Results.{IfDone, if_done_says, if_done_bind, if_done_always, IfSome}
use Rattle.limits_met.specs.Limits.{All, Fits, RefusedProduct, thirteen, fourteen, RefusedAmong, Comes, begun, gone_on, RefusedStep, vector_full}
use Rattle.limits_met.specs.Limits.{product, no_reducer, RefusedRun, first_products, later, RunComes, to_zero, stopped, DividedToZero}
use Rattle.limits_met.specs.Limits.{RefusedAccepting, frame_full, at_nine, at_limit}

-- ## Refusals

-- the refusal, if there is one, has the property
abbrev pub IfRefused : {A : Type 0} → (ℕ → ℕ → Vector → Type 0) → Result A → Type 0
IfRefused P (done a) = Unit {0}
IfRefused P (refused number place value) = P number place value
IfRefused P unfinished = Unit {0}

-- what has come out has the property
abbrev pub IfFinished : {A : Type 0} → (Result A → Type 0) → Result A → Type 0
IfFinished P (done a) = P (done a)
IfFinished P (refused number place value) = P (refused number place value)
IfFinished P unfinished = Unit {0}

-- of a refusal that leaves no value, at place 0
abbrev pub Plainly : (ℕ → Type 0) → ℕ → ℕ → Vector → Type 0
Plainly P number place value = P number × (place ≡ 0) × (value ≡ [])

abbrev pub AtPlace0 : (ℕ → Vector → Type 0) → ℕ → ℕ → Vector → Type 0
AtPlace0 P number place value = P number value × (place ≡ 0)

module _ {A : Type 0} where
  pub refused_map : (P Q : ℕ → ℕ → Vector → Type 0) → ((number place : ℕ) (value : Vector) → P number place value → Q number place value)
      → (x : Result A) → IfRefused P x → IfRefused Q x
  refused_map P Q f (done a) h = tt
  refused_map P Q f (refused number place value) h = f number place value h
  refused_map P Q f unfinished h = tt

  plainly_map : (P Q : ℕ → Type 0) → ((n : ℕ) → P n → Q n) → (x : Result A) → IfRefused (Plainly P) x → IfRefused (Plainly Q) x
  plainly_map P Q f = refused_map (Plainly P) (Plainly Q) (λ number place value h. (f number h.0, h.1, h.2))

  -- .. where nothing is left: the value is []
  left_nothing : (P : ℕ → Type 0) (Q : ℕ → Vector → Type 0) → ((n : ℕ) → P n → Q n []) → (x : Result A) → IfRefused (Plainly P) x
      → IfRefused (AtPlace0 Q) x
  left_nothing P Q f = refused_map (Plainly P) (AtPlace0 Q) (λ number place value h. (subst (Q number) (sym h.2) (f number h.0), h.1))

  pub refused_bind : {B : Type 0} (P : ℕ → ℕ → Vector → Type 0) (x : Result A) (f : A → Result B) → IfRefused P x
      → ((a : A) → x ≡ done a → IfRefused P (f a)) → IfRefused P (x >>= f)
  refused_bind P (done a) f h k = k a refl
  refused_bind P (refused number place value) f h k = h
  refused_bind P unfinished f h k = tt

-- ## A term

pub fits_says : (limit : ℕ) (e : Exponents) → T (fits? limit e) → Fits limit e
fits_says limit [] t = tt
fits_says limit (x ∷ e) t =
    (leb→le x limit (and_left (leb x limit) (fits? limit e) t), fits_says limit e (and_right (leb x limit) (fits? limit e) t))

pub fits_shows : (limit : ℕ) (e : Exponents) → Fits limit e → T (fits? limit e)
fits_shows limit [] h = tt
fits_shows limit (x ∷ e) h = and_both (leb x limit) (fits? limit e) (le→leb x limit h.0) (fits_shows limit e h.1)

abbrev Full : ℕ → ℕ → Term → Vector → ℕ → Type 0
Full limit p t v number = (number ≡ 14) × (combined p t v ≡ none) × (limit ≤ length v)

store_why : (limit p : ℕ) (t : Term) (v : Vector) → IfRefused (Plainly (Full limit p t v)) (store limit p t v)
store_why limit p t v = go (combined p t v) refl
  where
    last : combined p t v ≡ none → (b : Bool) → (length v < limit → T b) → IfRefused (Plainly (Full limit p t v)) (appended b t v)
    last e true h = tt
    last e false h = ((refl, e, omega (arith, h)), refl, refl)

    go : (o : Option Vector) → combined p t v ≡ o → IfRefused (Plainly (Full limit p t v)) (or_last limit t v o)
    go (some w) e = tt
    go none e = last e (ltb (length v) limit) (lt→ltb (length v) limit)

term_why : (R : Reduction) (drops : Bool) (t : Term) (v : Vector) → IfRefused (Plainly (RefusedProduct R drops t v)) (add_term R drops t v)
term_why R drops t v = go (fits? limit t.1.0) (fits_says limit t.1.0) (fits_shows limit t.1.0)
  where
    limit : ℕ
    limit = R.limits.exponent

    kept : Fits R.limits.exponent t.1.0 → (b : Bool) → dropped? R drops t.1 ≡ b
        → IfRefused (Plainly (RefusedProduct R drops t v)) (unless_dropped b R t v)
    kept f true e = tt
    kept f false e =
        plainly_map (Full R.limits.working R.p t v) (RefusedProduct R drops t v)
        (λ n w. subst (RefusedProduct R drops t v) (sym w.0) (fourteen f e w.1 w.2))
        (store R.limits.working R.p t v) (store_why R.limits.working R.p t v)

    go : (b : Bool) → (T b → Fits R.limits.exponent t.1.0) → (Fits R.limits.exponent t.1.0 → T b)
        → IfRefused (Plainly (RefusedProduct R drops t v)) (if_fits b R drops t v)
    go false f g = (thirteen g, refl, refl)
    go true f g = kept (f tt) (dropped? R drops t.1) refl

products_why : (R : Reduction) (drops : Bool) (c : ℕ) (q : Exponents) (f v : Vector)
    → IfRefused (Plainly (RefusedAmong R drops c q f v)) (add_products R drops c q f v)
products_why R drops c q [] v = tt
products_why R drops c q (t ∷ f) v =
    refused_bind (Plainly (RefusedAmong R drops c q (t ∷ f) v)) (add_term R drops u v) (λ w. add_products R drops c q f w)
    (plainly_map (RefusedProduct R drops u v) (RefusedAmong R drops c q (t ∷ f) v)
    (λ n w. record { before = []; term = t; after = f; split = refl; value = v; added = refl; why = w }) (add_term R drops u v) (term_why R drops u v))
    (λ w e. plainly_map (RefusedAmong R drops c q f w) (RefusedAmong R drops c q (t ∷ f) v)
    (λ n x. record {
      before = t ∷ x.before;
      term = x.term;
      after = x.after;
      split = ap (λ l. t ∷ l) x.split;
      value = x.value;
      added = ap (λ y. y >>= λ z. add_products R drops c q x.before z) e ∙ x.added;
      why = x.why;
    })
    (add_products R drops c q f w) (products_why R drops c q f w))
  where
    u : Term
    u = multiple R.p c q t

-- ## A run

module _ (S : Stage) (W : Strategy) where
  abbrev p : ℕ
  p = S.reduction.p

  step_why : (r : Run) → IfRefused (AtPlace0 (RefusedStep S W r)) (step S W r)
  step_why r = picked (W.pick r.value) refl
    where
      stopping : (i : ℕ) → W.pick r.value ≡ some i → answer p S.reduction.heads (get_or r.value i no_term) ≡ lower_order
          → (b : Bool) → W.stops ≡ b → IfRefused (AtPlace0 (RefusedStep S W r)) (without_reducer b S r i)
      stopping i e a true s = (no_reducer e a s, refl)
      stopping i e a false s = tt

      reducing : (i j c : ℕ) (q : Exponents) → W.pick r.value ≡ some i
          → answer p S.reduction.heads (get_or r.value i no_term) ≡ reducer j c q
          → IfRefused (AtPlace0 (RefusedStep S W r)) (reduced S W r j (minus p c) q)
      reducing i j c q e a =
          refused_bind (AtPlace0 (RefusedStep S W r)) (store S.reduction.limits.vector p (minus p c, (q, j)) r.vector)
          (λ v. add_products S.reduction W.drops (minus p c) q (vector_of S.family j) r.value
          >>= λ w. done (on (record { value = w; vector = v })))
          (left_nothing (Full S.reduction.limits.vector p (minus p c, (q, j)) r.vector) (RefusedStep S W r)
          (λ n w. subst (λ k. RefusedStep S W r k []) (sym w.0) (vector_full e a w.1 w.2))
          (store S.reduction.limits.vector p (minus p c, (q, j)) r.vector)
          (store_why S.reduction.limits.vector p (minus p c, (q, j)) r.vector))
          (λ v s. refused_bind (AtPlace0 (RefusedStep S W r))
          (add_products S.reduction W.drops (minus p c) q (vector_of S.family j) r.value)
          (λ w. done (on (record { value = w; vector = v })))
          (left_nothing (RefusedAmong S.reduction W.drops (minus p c) q (vector_of S.family j) r.value) (RefusedStep S W r)
          (λ n x. product e a s x)
          (add_products S.reduction W.drops (minus p c) q (vector_of S.family j) r.value)
          (products_why S.reduction W.drops (minus p c) q (vector_of S.family j) r.value))
          (λ w d. tt))

      answered : (i : ℕ) → W.pick r.value ≡ some i → (x : Answer) → answer p S.reduction.heads (get_or r.value i no_term) ≡ x
          → IfRefused (AtPlace0 (RefusedStep S W r)) (by_answer S W r i x)
      answered i e (reducer j c q) a = reducing i j c q e a
      answered i e lower_order a = stopping i e a W.stops refl

      picked : (o : Option ℕ) → W.pick r.value ≡ o → IfRefused (AtPlace0 (RefusedStep S W r)) (by_pick S W r o)
      picked none e = tt
      picked (some i) e = answered i e (answer p S.reduction.heads (get_or r.value i no_term)) refl

  -- a step that ends had nothing to pick
  abbrev Ended : Run → Step → Type 0
  Ended r (on r') = Unit {0}
  Ended r (end v) = (W.pick r.value ≡ none) × (v ≡ r.vector)

  step_ends : (r : Run) → IfDone (Ended r) (step S W r)
  step_ends r = picked (W.pick r.value) refl
    where
      stopping : (i : ℕ) (b : Bool) → IfDone (Ended r) (without_reducer b S r i)
      stopping i true = tt
      stopping i false = tt

      answered : (i : ℕ) (x : Answer) → IfDone (Ended r) (by_answer S W r i x)
      answered i (reducer j c q) =
          if_done_bind (λ v. Unit {0}) (Ended r) (store S.reduction.limits.vector p (minus p c, (q, j)) r.vector)
          (λ v. add_products S.reduction W.drops (minus p c) q (vector_of S.family j) r.value
          >>= λ w. done (on (record { value = w; vector = v })))
          (if_done_always (λ v. Unit {0}) (λ v. tt) (store S.reduction.limits.vector p (minus p c, (q, j)) r.vector))
          (λ v u. if_done_bind (λ w. Unit {0}) (Ended r)
          (add_products S.reduction W.drops (minus p c) q (vector_of S.family j) r.value)
          (λ w. done (on (record { value = w; vector = v })))
          (if_done_always (λ w. Unit {0}) (λ w. tt) (add_products S.reduction W.drops (minus p c) q (vector_of S.family j) r.value))
          (λ w u'. tt))
      answered i lower_order = stopping i W.stops

      picked : (o : Option ℕ) → W.pick r.value ≡ o → IfDone (Ended r) (by_pick S W r o)
      picked none e = (e, refl)
      picked (some i) e = answered i (answer p S.reduction.heads (get_or r.value i no_term))

  run_stopped : (m : Monomial) (number place : ℕ) (value : Vector) → AtPlace0 (RefusedRun S W m) number place value
      → RunComes S W m (refused number place value)
  run_stopped m number place value h = subst (λ i. RunComes S W m (refused number i value)) (sym h.1) (stopped h.0)

  runs_come : (m : Monomial) (n : ℕ) (r : Run) → Comes S W m r → IfFinished (RunComes S W m) (runs S W n r)
  runs_come m zero r c = tt
  runs_come m (suc n) r c = go (λ r' d. runs_come m n r' d) (step S W r) refl (step_why r) (step_ends r)
    where
      go : ((r' : Run) → Comes S W m r' → IfFinished (RunComes S W m) (runs S W n r')) → (x : Result Step) → step S W r ≡ x
          → IfRefused (AtPlace0 (RefusedStep S W r)) x → IfDone (Ended r) x → IfFinished (RunComes S W m) (continued S (λ r'. runs S W n r') x)
      go next (done (on r')) e h d = next r' (gone_on c e)
      go next (done (end v)) e h d =
          subst (λ w. RunComes S W m (done (descending S.above p w))) (sym d.1) (to_zero c d.0)
      go next (refused number place value) e h d = run_stopped m number place value (later c h.0, h.1)
      go next unfinished e h d = tt

  pub run_comes : (n : ℕ) (m : Monomial) → IfFinished (RunComes S W m) (run S W n m)
  run_comes n m = go (add_products S.reduction W.drops 1 m.0 f []) refl
      (products_why S.reduction W.drops 1 m.0 f [])
    where
      f : Vector
      f = vector_of S.family m.1

      go : (x : Result Vector) → add_products S.reduction W.drops 1 m.0 (vector_of S.family m.1) [] ≡ x
          → IfRefused (Plainly (RefusedAmong S.reduction W.drops 1 m.0 (vector_of S.family m.1) [])) x
          → IfFinished (RunComes S W m) ((x >>= λ v. done (record { value = v; vector = (1, m) ∷ [] })) >>= λ r. runs S W n r)
      go (done v) e h =
          runs_come m n (record { value = v; vector = (1, m) ∷ [] })
          (begun (ap (λ (x : Result Vector). x >>= λ v. done (record { value = v; vector = (1, m) ∷ [] })) e))
      go (refused number place value) e h =
          run_stopped m number place value (subst (RefusedRun S W m number) (sym h.2) (first_products h.0), h.1)
      go unfinished e h = tt

-- ## Nothing past a limit

module _ (P : Monomial → Type 0) where
  abbrev Good : ℕ → Vector → Type 0
  Good limit v = (length v ≤ limit) × All (λ t. P t.1) v

  all_append : (v : Vector) (t : Term) → All (λ t. P t.1) v → P t.1 → All (λ t. P t.1) (v ++ t ∷ [])
  all_append [] t h k = (k, tt)
  all_append (u ∷ v) t h k = (h.0, all_append v t h.1 k)

  combined_good : (p : ℕ) (t : Term) (v : Vector) → All (λ t. P t.1) v → IfSome (Good (length v)) (combined p t v)
  combined_good p t [] h = tt
  combined_good p t (u ∷ v) h = go (combined_good p t v h.1) (same_monomial? t.1 u.1)
    where
      kept : (b : Bool) → Good (suc (length v)) (elim b [ true ↦ v | false ↦ (plus p u.0 t.0, u.1) ∷ v ])
      kept true = (omega arith, h.1)
      kept false = (omega arith, (h.0, h.1))

      more : (o : Option Vector) → IfSome (Good (length v)) o → IfSome (Good (suc (length v))) (behind u o)
      more none k = tt
      more (some w) k = (let l : length w ≤ length v = k.0 in omega (arith, l), (h.0, k.1))

      go : IfSome (Good (length v)) (combined p t v) → (b : Bool) → IfSome (Good (suc (length v))) (elim b [
        | true ↦ some (unless_zero (plus p u.0 t.0, u.1) v)
        | false ↦ behind u (combined p t v)
      ])
      go k true = kept (eqb (plus p u.0 t.0) 0)
      go k false = more (combined p t v) k

  store_good : (limit p : ℕ) (t : Term) (v : Vector) → P t.1 → Good limit v → IfDone (Good limit) (store limit p t v)
  store_good limit p t v k h = go (combined p t v) (combined_good p t v h.1)
    where
      last : (b : Bool) → (T b → length v < limit) → IfDone (Good limit) (appended b t v)
      last false f = tt
      last true f =
          let e : length (v ++ t ∷ []) ≡ length v + 1 = length-append v (t ∷ []) in
          (let l : length v < limit = f tt in omega (arith, e, l), all_append v t h.1 k)

      go : (o : Option Vector) → IfSome (Good (length v)) o → IfDone (Good limit) (or_last limit t v o)
      go (some w) x = (let l : length w ≤ length v = x.0 in let m : length v ≤ limit = h.0 in omega (arith, l, m), x.1)
      go none x = last (ltb (length v) limit) (ltb→lt (length v) limit)

abbrev InRange : ℕ → Monomial → Type 0
InRange limit m = Fits limit m.0

term_good : (R : Reduction) (drops : Bool) (t : Term) (v : Vector) → Good (InRange R.limits.exponent) R.limits.working v
    → IfDone (Good (InRange R.limits.exponent) R.limits.working) (add_term R drops t v)
term_good R drops t v h = go (fits? R.limits.exponent t.1.0) (fits_says R.limits.exponent t.1.0)
  where
    kept : Fits R.limits.exponent t.1.0 → (b : Bool)
        → IfDone (Good (InRange R.limits.exponent) R.limits.working) (unless_dropped b R t v)
    kept f true = h
    kept f false = store_good (InRange R.limits.exponent) R.limits.working R.p t v f h

    go : (b : Bool) → (T b → Fits R.limits.exponent t.1.0)
        → IfDone (Good (InRange R.limits.exponent) R.limits.working) (if_fits b R drops t v)
    go false f = tt
    go true f = kept (f tt) (dropped? R drops t.1)

products_good : (R : Reduction) (drops : Bool) (c : ℕ) (q : Exponents) (f v : Vector) → Good (InRange R.limits.exponent) R.limits.working v
    → IfDone (Good (InRange R.limits.exponent) R.limits.working) (add_products R drops c q f v)
products_good R drops c q [] v h = h
products_good R drops c q (t ∷ f) v h =
    if_done_bind (Good (InRange R.limits.exponent) R.limits.working) (Good (InRange R.limits.exponent) R.limits.working)
    (add_term R drops (multiple R.p c q t) v) (λ w. add_products R drops c q f w) (term_good R drops (multiple R.p c q t) v h)
    (λ w k. products_good R drops c q f w k)

module _ (P : Term → Type 0) where
  all_take : (i : ℕ) (v : Vector) → All P v → All P (take i v)
  all_take zero v h = tt
  all_take (suc i) [] h = tt
  all_take (suc i) (t ∷ v) h = (h.0, all_take i v h.1)

  all_drop : (i : ℕ) (v : Vector) → All P v → All P (drop i v)
  all_drop zero v h = h
  all_drop (suc i) [] h = tt
  all_drop (suc i) (t ∷ v) h = all_drop i v h.1

  all_both : (v w : Vector) → All P v → All P w → All P (v ++ w)
  all_both [] w h k = k
  all_both (t ∷ v) w h k = (h.0, all_both v w h.1 k)

  without_all : (i : ℕ) (v : Vector) → All P v → All P (without i v)
  without_all i v h = all_both (take i v) (drop (suc i) v) (all_take i v h) (all_drop (suc i) v h)

without_short : (i : ℕ) (v : Vector) → length (without i v) ≤ length v
without_short i [] = go i
  where
    go : (i : ℕ) → length (without {A = Term} i []) ≤ 0
    go zero = omega arith
    go (suc i) = omega arith
without_short zero (t ∷ v) = omega arith
without_short (suc i) (t ∷ v) = let h : length (without i v) ≤ length v = without_short i v in omega (arith, h)

module _ (S : Stage) (W : Strategy) where
  abbrev Value : Vector → Type 0
  Value v = Good (InRange S.reduction.limits.exponent) S.reduction.limits.working v

  abbrev Within : Run → Type 0
  Within r = Value r.value × (length r.vector ≤ S.reduction.limits.vector)

  abbrev WithinStep : Step → Type 0
  WithinStep (on r) = Within r
  WithinStep (end v) = Unit {0}

  anything : (v : Vector) → All (λ (t : Term). Unit {0}) v
  anything [] = tt
  anything (t ∷ v) = (tt, anything v)

  step_within : (r : Run) → Within r → IfDone WithinStep (step S W r)
  step_within r h = picked (W.pick r.value)
    where
      stopped : (i : ℕ) (b : Bool) → IfDone WithinStep (without_reducer b S r i)
      stopped i true = tt
      stopped i false = (
        (
          let a : length (without i r.value) ≤ length r.value = without_short i r.value in
              let b : length r.value ≤ S.reduction.limits.working = h.0.0 in omega (arith, a, b),
          without_all (λ t. InRange S.reduction.limits.exponent t.1) i r.value h.0.1,
        ),
        h.1,
      )

      reducing : (j c : ℕ) (q : Exponents) → IfDone WithinStep (reduced S W r j c q)
      reducing j c q =
          if_done_bind (Good (λ m. Unit {0}) S.reduction.limits.vector) WithinStep
          (store S.reduction.limits.vector S.reduction.p (c, (q, j)) r.vector)
          (λ v. add_products S.reduction W.drops c q (vector_of S.family j) r.value
          >>= λ w. done (on (record { value = w; vector = v })))
          (store_good (λ m. Unit {0}) S.reduction.limits.vector S.reduction.p (c, (q, j)) r.vector tt (h.1, anything r.vector))
          (λ v k. if_done_bind Value WithinStep (add_products S.reduction W.drops c q (vector_of S.family j) r.value)
          (λ w. done (on (record { value = w; vector = v })))
          (products_good S.reduction W.drops c q (vector_of S.family j) r.value h.0)
          (λ w l. (l, k.0)))

      answered : (i : ℕ) (x : Answer) → IfDone WithinStep (by_answer S W r i x)
      answered i (reducer j c q) = reducing j (minus S.reduction.p c) q
      answered i lower_order = stopped i W.stops

      picked : (o : Option ℕ) → IfDone WithinStep (by_pick S W r o)
      picked none = tt
      picked (some i) = answered i (answer S.reduction.p S.reduction.heads (get_or r.value i no_term))

  pub comes_within : (m : Monomial) (r : Run) → 1 ≤ S.reduction.limits.vector → Comes S W m r → Within r
  comes_within m r o (begun e) =
      if_done_says Within (start S W m) (if_done_bind Value Within
      (add_products S.reduction W.drops 1 m.0 (vector_of S.family m.1) [])
      (λ v. done (record { value = v; vector = (1, m) ∷ [] }))
      (products_good S.reduction W.drops 1 m.0 (vector_of S.family m.1) [] (omega arith, tt))
      (λ v l. (l, o))) r e
  comes_within m r o (gone_on {r = r₀} c e) = if_done_says WithinStep (step S W r₀) (step_within r₀ (comes_within m r₀ o c)) (on r) e

-- ## Acceptance

module _ (lim : Limits) (p code : ℕ) (f : Level) (n : ℕ) where
  abbrev base : Stage
  base = stage_over lim p code (f ∷ [])

  abbrev whole : List Monomial
  whole = frame (lim.numbering code) (leading_monomials f)

  all_last : (ms : List Monomial) (m : Monomial) → All (DividedToZero base) ms → DividedToZero base m → All (DividedToZero base) (ms ++ m ∷ [])
  all_last [] m h k = (k, tt)
  all_last (x ∷ ms) m h k = (h.0, all_last ms m h.1 k)

  abbrev Refuses : ℕ → ℕ → Vector → Type 0
  Refuses number place value = RefusedAccepting lim p code f number place value

  module _ (before : List Monomial) (m : Monomial) (after : List Monomial) (few : length whole ≤ lim.vectors) (e : whole ≡ before ++ (m ∷ after))
      (h : All (DividedToZero base) before) where
    -- a product is refused with 13 or 14
    at_product : (R : Reduction) (drops : Bool) (t : Term) (v : Vector) (number : ℕ) → RefusedProduct R drops t v number
        → RefusedRun base (accepting_strategy base) m number [] → Refuses number (accepting_place (suc (length before)) number) []
    at_product R drops t v number (thirteen x) w = at_limit before m after few e h w (inl refl)
    at_product R drops t v number (fourteen x y z l) w = at_limit before m after few e h w (inr refl)

    placed : (number : ℕ) (value : Vector) → RefusedRun base (accepting_strategy base) m number value
        → Refuses number (accepting_place (suc (length before)) number) value
    placed number value (first_products x) = at_product base.reduction false (multiple base.reduction.p 1 m.0 x.term) x.value number x.why
        (first_products x)
    placed number value (later c (vector_full d a k l)) = at_limit before m after few e h (later c (vector_full d a k l)) (inr refl)
    placed number value (later c (product {c = b} {q = q} d a s x)) =
        at_product base.reduction false (multiple base.reduction.p (minus base.reduction.p b) q x.term) x.value number x.why
        (later c (product d a s x))
    placed number value (later c (no_reducer d a s)) = at_nine before m after few e h (later c (no_reducer d a s))

  unplaced : (m : Monomial) (number place : ℕ) (value : Vector) → RunComes base (accepting_strategy base) m (refused number place value)
      → RefusedRun base (accepting_strategy base) m number value
  unplaced m number place value (stopped w) = w

  from_why : length whole ≤ lim.vectors → (before ms : List Monomial) → whole ≡ before ++ ms → All (DividedToZero base) before
      → IfRefused Refuses (accept_from base n (suc (length before)) ms)
  from_why few before [] e h = tt
  from_why few before (m ∷ ms) e h = go (run base (accepting_strategy base) n m) (run_comes base (accepting_strategy base) n m)
      (λ v d. subst (λ i. IfRefused Refuses (accept_from base n i ms)) longer
      (from_why few (before ++ m ∷ []) ms (e ∙ sym (append_assoc before (m ∷ []) ms)) (all_last before m h (v, d))))
    where
      longer : suc (length (before ++ m ∷ [])) ≡ suc (suc (length before))
      longer = let l : length (before ++ m ∷ []) ≡ length before + 1 = length-append before (m ∷ []) in omega (arith, l)

      go : (x : Result Vector) → IfFinished (RunComes base (accepting_strategy base) m) x
          → ((v : Vector) → RunComes base (accepting_strategy base) m (done v) → IfRefused Refuses (accept_from base n (suc (suc (length before))) ms))
          → IfRefused Refuses (at_frame_term (suc (length before)) x >>= λ v. accept_from base n (suc (suc (length before))) ms)
      go (done v) w next = next v w
      go (refused number place value) w next = placed before m ms few e h number value (unplaced m number place value w)
      go unfinished w next = tt

  pub accept_why : IfRefused Refuses (accept lim p code f n)
  accept_why = go (leb (length whole) lim.vectors) (leb→le (length whole) lim.vectors) (le→leb (length whole) lim.vectors)
    where
      go : (b : Bool) → (T b → length whole ≤ lim.vectors) → (length whole ≤ lim.vectors → T b)
          → IfRefused Refuses (if_few b whole >>= λ ms. accept_from base n 1 ms)
      go true l g = from_why (l tt) [] whole refl tt
      go false l g = frame_full (omega (arith, g))
