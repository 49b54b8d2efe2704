-- A9: "a log is taken exactly if each pick is then a term of the working value and the value is zero after the last", unless 12 to 15 or 21 comes.
use mathlib.Core.Path.{◌≡◌, refl, sym, ap, ◌∙◌, subst}
use mathlib.Core.Logic.{◌↔◌, ◌⊎◌, inl, inr}
use mathlib.Core.Bool.{Bool, true, false}
use mathlib.Core.Option.{Option, none, some, some-injective}
use mathlib.Core.List.{List, [], ◌∷◌, ◌++◌}
use Prim.Native.Nat.{ℕ, suc, ◌+◌, ◌<◌, ◌≤◌}
use native.Mathlib.Omega.{arith}
use lib.Dec.{T, ltb, lt→ltb, ltb→lt}
use lib.ListN.{length, get_or}
use Rattle.definitions.specs.Lists.{map, empty?, between}
use Rattle.definitions.specs.Field.{minus}
use Rattle.definitions.specs.Monomial.{Monomial, Vector, Exponents, Level, no_term, vector_of, same_monomial?, leading_monomials}
use Rattle.definitions.specs.Reducer.{Answer, reducer, lower_order, answer}
use Rattle.definitions.specs.Result.{Result, done, refused, unfinished, at_level, unless_refused, ◌>>=◌}
use Rattle.definitions.specs.Vectors.{store}
use Rattle.definitions.specs.Limits.{Limits}
use Rattle.definitions.specs.Frame.{frame}
use Rattle.definitions.specs.Stage.{Stage, stage_over}
use Rattle.definitions.specs.State.{sound?}
use Rattle.definitions.specs.Reckoning.{reckoned_vector}
use Rattle.demands.specs.Notions.{Member}
use Rattle.demands.specs.Demands.{sensible?}
use Rattle.demands.specs.Picks.{Picks, AllPick, runs_by}
use Rattle.demands.proofs.Picking.{hybrid_picks}
use Rattle.demands.proofs.Demand3.{demand_3}
use Rattle.definitions.specs.Run.{Run, Step, on, end, Strategy, newest, start, continued, hybrid_strategy, reduced, by_answer, by_pick, add_products}
use Rattle.definitions.specs.Problem.{Line, Parameters, shaped}
use Rattle.definitions.specs.Replay.{letter_P, pick_of, place_from, run_after, replayed, p_line, if_zero, p_lines}
use Rattle.laws.proofs.Tests.{between_low, between_high, between_shown}
use Rattle.laws.proofs.Numbers.{Numbered, gives, refuses, stops, open_yet, limit_number?}
use Rattle.laws.proofs.Numbers.{by_pick_number}
use Rattle.laws.proofs.Results.{IfDone, if_done_bind, if_done_always}
use Rattle.replays.specs.Replays.{Says, Taken, Carries}

pub refused_is_not : {A : Type 0} {number place : ℕ} {value : Vector} {a : A} → ◌≡◌ {A = Result A} (refused number place value) (done a) → ⊥
refused_is_not e = let z : ◌≡◌ {A = ℕ} 0 1 = cc in omega arith

pub unfinished_is_not : {A : Type 0} {a : A} → ◌≡◌ {A = Result A} unfinished (done a) → ⊥
unfinished_is_not e = let z : ◌≡◌ {A = ℕ} 0 1 = cc in omega arith

none_is_not : {A : Type 0} {a : A} → ◌≡◌ {A = Option A} none (some a) → ⊥
none_is_not e = let z : ◌≡◌ {A = ℕ} 0 1 = cc in omega arith

pub passed : (b : Bool) → T b → b ≡ true
passed true t = refl
passed false t = absurd t

pub failed : (b : Bool) → (T b → ⊥) → b ≡ false
failed true h = absurd (h tt)
failed false h = refl

-- ## A step at a term goes on

abbrev pub Goes_on : Step → Type 0
Goes_on (on r) = Unit {0}
Goes_on (end v) = ⊥

module _ (S : Stage) (r : Run) where
  abbrev H : Strategy
  H = hybrid_strategy S 2

  reduced_on : (j c : ℕ) (q : Exponents) → IfDone Goes_on (reduced S H r j c q)
  reduced_on j c q =
      let R = S.reduction in
      let x = store R.limits.vector R.p (c, (q, j)) r.vector in
      let y = add_products R true c q (vector_of S.family j) r.value in
      if_done_bind (λ v. Unit {0}) Goes_on x (λ v. y >>= λ w. done (on (record { value = w; vector = v }))) (if_done_always (λ v. Unit {0}) (λ v. tt) x) λ v u.
      if_done_bind (λ w. Unit {0}) Goes_on y (λ w. done (on (record { value = w; vector = v }))) (if_done_always (λ w. Unit {0}) (λ w. tt) y) (λ w u'. tt)

  answer_on : (i : ℕ) (a : Answer) → IfDone Goes_on (by_answer S H r i a)
  answer_on i lower_order = tt
  answer_on i (reducer j c q) = reduced_on j (minus S.reduction.p c) q

  pub pick_on : (i : ℕ) → IfDone Goes_on (by_pick S H r (some i))
  pick_on i = answer_on i (answer S.reduction.p S.reduction.heads (get_or r.value i no_term))

-- ## A log

module _ (S : Stage) (field n k most : ℕ) where
  abbrev Ends : ℕ → ℕ → Run → List Line → Type 0
  Ends place picks r ls = (w : Vector) × (p_lines most S field n k place picks r ls ≡ done w)

  -- after the last pick
  at_end : (place picks : ℕ) (r : Run) → Ends place picks r [] ↔ (r.value ≡ [])
  at_end place picks r = (λ e. zero_then r.value e.0 e.1, λ e. (_, subst (λ v. if_zero (empty? v) S place r ≡ if_zero true S place r) (sym e) refl))
    where
      zero_then : (v : Vector) (w : Vector) → if_zero (empty? v) S place r ≡ done w → v ≡ []
      zero_then [] w e = refl
      zero_then (t ∷ v) w e = absurd (refused_is_not e)

  -- one pick, its place in the working value found
  module _ (place picks : ℕ) (r : Run) (ls : List Line) (ms : List Monomial) (ih : (r' : Run) → Ends (suc place) (suc picks) r' ls ↔ Taken S r' ms) where
    abbrev Goes : Result Run → Type 0
    Goes x = (w : Vector) × ((x >>= λ r'. p_lines most S field n k (suc place) (suc picks) r' ls) ≡ done w)

    abbrev Steps : ℕ → Type 0
    Steps i = (r' : Run) × (by_pick S (hybrid_strategy S 2) r (some i) ≡ done (on r')) × Taken S r' ms

    stepped : (i : ℕ) → Goes (at_level k (by_pick S (hybrid_strategy S 2) r (some i)) >>= λ s. done (run_after s)) ↔ Steps i
    stepped i = (forth (by_pick S (hybrid_strategy S 2) r (some i)) (pick_on S r i), back)
      where
        forth : (x : Result Step) → IfDone Goes_on x → Goes (at_level k x >>= λ s. done (run_after s)) → (r' : Run) × (x ≡ done (on r')) × Taken S r' ms
        forth (done (on r')) h g = (r', refl, (ih r').0 g)
        forth (done (end v)) h g = absurd h
        forth (refused number at value) h g = absurd (refused_is_not g.1)
        forth unfinished h g = absurd (unfinished_is_not g.1)

        back : Steps i → Goes (at_level k (by_pick S (hybrid_strategy S 2) r (some i)) >>= λ s. done (run_after s))
        back t = subst (λ x. Goes (at_level k x >>= λ s. done (run_after s))) (sym t.1) ((ih t.0).1 t.2)

    picked : (m : Monomial) → Goes (replayed S k place r (place_from m 0 r.value)) ↔ Taken S r (m ∷ ms)
    picked m = (λ g. forth (place_from m 0 r.value) refl g, back)
      where
        forth : (o : Option ℕ) → place_from m 0 r.value ≡ o → Goes (replayed S k place r o) → Taken S r (m ∷ ms)
        forth none e g = absurd (refused_is_not g.1)
        forth (some i) e g = (i, e, (stepped i).0 g)

        back : Taken S r (m ∷ ms) → Goes (replayed S k place r (place_from m 0 r.value))
        back t = subst (λ o. Goes (replayed S k place r o)) (sym t.1) ((stepped t.0).1 t.2)

  -- "Lines are tested in turn": lines of P's shape, within the number allowed
  pub taken_exactly : (place picks : ℕ) (r : Run) (ls : List Line) (vs : List (List ℕ)) → Says field n vs ls → picks + length ls ≤ most
      → Ends place picks r ls ↔ Taken S r (map (pick_of n) vs)
  taken_exactly place picks r [] [] t l = at_end place picks r
  taken_exactly place picks r [] (v ∷ vs) t l = absurd t
  taken_exactly place picks r (line ∷ ls) [] t l = absurd t
  taken_exactly place picks r (line ∷ ls) (v ∷ vs) t l =
      subst (λ o. ((w : Vector) × ((p_line most S n k place picks r o >>= λ r'. p_lines most S field n k (suc place) (suc picks) r' ls) ≡ done w)) ↔ Taken S r
      (map (pick_of n) (v ∷ vs))) (sym t.0)
      (allowed (ltb picks most) (lt→ltb picks most (omega arith)) (picked place picks r ls (map (pick_of n) vs)
      (λ r'. taken_exactly (suc place) (suc picks) r' ls vs t.1 (omega arith)) (pick_of n v)))
    where
      x : Result Run
      x = replayed S k place r (place_from (pick_of n v) 0 r.value)

      allowed : (b : Bool) → T b → (((w : Vector) × ((x >>= λ r'. p_lines most S field n k (suc place) (suc picks) r' ls) ≡ done w)) ↔ Taken S r
          (map (pick_of n) (v ∷ vs)))
          → ((w : Vector) × (((unless_refused b 21 place >>= λ u. x) >>= λ r'. p_lines most S field n k (suc place) (suc picks) r' ls) ≡ done w)) ↔ Taken S r
          (map (pick_of n) (v ∷ vs))
      allowed true u h = h
      allowed false u h = absurd u

-- ## The vector: "equals the plain reckoning's, whoever wrote the log"

-- the place of the monomial; where it is no term, the newest term
abbrev at_or_newest : Option ℕ → Vector → Option ℕ
at_or_newest (some i) v = some i
at_or_newest none v = newest v

abbrev picks_monomial : Monomial → Strategy
picks_monomial m = record { drops = true; pick = λ v. at_or_newest (place_from m 0 v) v; stops = false }

place_inside : (m : Monomial) (i : ℕ) (v : Vector) (j : ℕ) → place_from m i v ≡ some j → j < i + length v
place_inside m i [] j e = absurd (none_is_not e)
place_inside m i (t ∷ v) j e = go (same_monomial? m t.1) e (place_inside m (suc i) v j)
  where
    go : (b : Bool) → elim b [ true ↦ some i | false ↦ place_from m (suc i) v ] ≡ some j → (place_from m (suc i) v ≡ some j → j < suc i + length v) → j < i +
        suc (length v)
    go true e h = let q : i ≡ j = some-injective _ _ e in omega arith
    go false e h = let l = h e in omega (arith, l)

newest_inside : (v : Vector) (i : ℕ) → newest v ≡ some i → i < length v
newest_inside [] i e = absurd (none_is_not e)
newest_inside (t ∷ v) i e = let q : length v ≡ i = some-injective _ _ e in omega arith

newest_none : (v : Vector) → newest v ≡ none → v ≡ []
newest_none [] e = refl
newest_none (t ∷ v) e = absurd (none_is_not (sym e))

monomial_picks : (m : Monomial) → Picks (picks_monomial m)
monomial_picks m = record { inside = λ v i e. inside v i (place_from m 0 v) (place_inside m 0 v) e; to_zero = λ v e. to_zero v (place_from m 0 v) e }
  where
    inside : (v : Vector) (i : ℕ) (o : Option ℕ) → ((j : ℕ) → o ≡ some j → j < 0 + length v) → at_or_newest o v ≡ some i → i < length v
    inside v i (some j) h e = let l = h i e in omega (arith, l)
    inside v i none h e = newest_inside v i e

    to_zero : (v : Vector) (o : Option ℕ) → at_or_newest o v ≡ none → v ≡ []
    to_zero v (some j) e = absurd (none_is_not (sym e))
    to_zero v none e = newest_none v e

module _ (S : Stage) (field n k most : ℕ) where
  -- a step reads of its strategy only whether it drops and whether it stops
  same_step : (m : Monomial) (r : Run) (i : ℕ) → by_pick S (picks_monomial m) r (some i) ≡ by_pick S (hybrid_strategy S 2) r (some i)
  same_step m r i = go (answer S.reduction.p S.reduction.heads (get_or r.value i no_term))
    where
      go : (a : Answer) → by_answer S (picks_monomial m) r i a ≡ by_answer S (hybrid_strategy S 2) r i a
      go (reducer j c q) = refl
      go lower_order = refl

  abbrev RunBy : Run → Vector → Type 0
  RunBy r w = (Ws : List Strategy) × AllPick Ws × (runs_by S Ws r ≡ done w)

  last_run : (place : ℕ) (r : Run) (w : Vector) → if_zero (empty? r.value) S place r ≡ done w → RunBy r w
  last_run place r w e = go r.value refl e
    where
      go : (v : Vector) → r.value ≡ v → if_zero (empty? v) S place r ≡ done w → RunBy r w
      go [] q e = (
        hybrid_strategy S 2 ∷ [],
        (hybrid_picks S 2, tt),
        ap (λ v. continued S (λ r'. runs_by S [] r') (by_pick S (hybrid_strategy S 2) r (newest v)))
            q ∙ e,
      )
      go (t ∷ v) q e = absurd (refused_is_not e)

  -- a log that is taken is a run whose every step picks a term
  pub log_runs : (place picks : ℕ) (r : Run) (ls : List Line) (w : Vector) → p_lines most S field n k place picks r ls ≡ done w → RunBy r w
  log_runs place picks r [] w e = last_run place r w e
  log_runs place picks r (line ∷ ls) w e = shape (shaped field letter_P (suc n) line) e (λ r' d. log_runs (suc place) (suc picks) r' ls w d)
    where
      rest : Run → Result Vector
      rest r' = p_lines most S field n k (suc place) (suc picks) r' ls

      stepped : (m : Monomial) (i : ℕ) → place_from m 0 r.value ≡ some i → (x : Result Step) → by_pick S (hybrid_strategy S 2) r (some i) ≡ x → IfDone
          Goes_on x
          → ((at_level k x >>= λ s. done (run_after s)) >>= rest) ≡ done w → ((r' : Run) → rest r' ≡ done w → RunBy r' w) → RunBy r w
      stepped m i q (done (on r')) p h d ih =
          let R = ih r' d in (
            picks_monomial m ∷ R.0,
            (monomial_picks m, R.1),
            ap (λ o. continued S (λ u. runs_by S R.0 u) (by_pick S (picks_monomial m) r (at_or_newest o r.value))) q
                ∙ ap (continued S (λ u. runs_by S R.0 u)) (same_step m r i ∙ p) ∙ R.2,
          )
      stepped m i q (done (end v)) p h d ih = absurd h
      stepped m i q (refused number at value) p h d ih = absurd (refused_is_not d)
      stepped m i q unfinished p h d ih = absurd (unfinished_is_not d)

      placed : (m : Monomial) (o : Option ℕ) → place_from m 0 r.value ≡ o → (replayed S k place r o >>= rest) ≡ done w →
          ((r' : Run) → rest r' ≡ done w → RunBy r' w) → RunBy r w
      placed m none q d ih = absurd (refused_is_not d)
      placed m (some i) q d ih = stepped m i q (by_pick S (hybrid_strategy S 2) r (some i)) refl (pick_on S r i) d ih

      allowed : (m : Monomial) (b : Bool) → ((unless_refused b 21 place >>= λ u. replayed S k place r (place_from m 0 r.value)) >>= rest) ≡ done w
          → ((r' : Run) → rest r' ≡ done w → RunBy r' w) → RunBy r w
      allowed m true d ih = placed m (place_from m 0 r.value) refl d ih
      allowed m false d ih = absurd (refused_is_not d)

      shape : (o : Option (List ℕ)) → (p_line most S n k place picks r o >>= rest) ≡ done w → ((r' : Run) → rest r' ≡ done w → RunBy r' w) → RunBy r w
      shape none d ih = absurd (refused_is_not d)
      shape (some v) d ih = allowed (pick_of n v) (ltb picks most) d ih

pub log_reckoned : (lim : Limits) → T (sensible? lim) → (q : Parameters) (f : Level) (below : List Level) (m : Monomial) (k place most : ℕ) (r : Run)
    (ls : List Line) (w : Vector)
    → T (sound? lim (record { parameters = q; levels = f ∷ below })) → Member m (frame (lim.numbering q.code) (leading_monomials f))
    → start (stage_over lim q.p q.code (f ∷ below)) (hybrid_strategy (stage_over lim q.p q.code (f ∷ below)) 2) m ≡ done r
    → p_lines most (stage_over lim q.p q.code (f ∷ below)) lim.field q.n k place 0 r ls ≡ done w
    → (bound : ℕ) × (reckoned_vector bound q.p q.code (f ∷ below) m ≡ some w)
log_reckoned lim o q f below m k place most r ls w s t e d =
    let S = stage_over lim q.p q.code (f ∷ below) in
    let R = log_runs S lim.field q.n k most place 0 r ls w d in
    (demand_3 lim o).any_picks q f below (hybrid_strategy S 2) R.0 m w s t R.1 (ap (λ x. x >>= λ u. runs_by S R.0 u) e ∙ R.2)

-- ## A log that is not taken: 22, or 13 to 15 at the level

-- what is said of a refusal
abbrev pub Refuses : {A : Type 0} → (ℕ → ℕ → Vector → Type 0) → Result A → Type 0
Refuses P (done a) = Unit {0}
Refuses P (refused number at value) = P number at value
Refuses P unfinished = Unit {0}

pub refuses_then : {A B : Type 0} (P : ℕ → ℕ → Vector → Type 0) (x : Result A) (f : A → Result B) → Refuses P x → ((a : A) → Refuses P (f a))
    → Refuses P (x >>= f)
refuses_then P (done a) f h k = k a
refuses_then P (refused number at value) f h k = h
refuses_then P unfinished f h k = tt

refuses_more : {A : Type 0} (P Q : ℕ → ℕ → Vector → Type 0) → ((number at : ℕ) (value : Vector) → P number at value → Q number at value) → (x : Result A)
    → Refuses P x → Refuses Q x
refuses_more P Q f (done a) h = tt
refuses_more P Q f (refused number at value) h = f number at value h
refuses_more P Q f unfinished h = tt

module _ (S : Stage) (field n k most : ℕ) where
  -- so many lines from this place on
  abbrev NotTaken : ℕ → ℕ → ℕ → ℕ → Vector → Type 0
  NotTaken place long number at value = ((number ≡ 22) × T (between place at (place + long))) ⊎ (T (between 13 number 15) × (at ≡ k))

  -- a step's numbers, the level as its place
  at_level_number : {A : Type 0} (place long : ℕ) {x : Result A} → Numbered limit_number? x → Refuses (NotTaken place long) (at_level k x)
  at_level_number place long gives = tt
  at_level_number place long (refuses h) = inr (h, refl)
  at_level_number place long (stops h) = absurd h
  at_level_number place long open_yet = tt

  not_taken : (place picks : ℕ) (r : Run) (ls : List Line) (vs : List (List ℕ)) → Says field n vs ls → picks + length ls ≤ most → Refuses
      (NotTaken place (length ls)) (p_lines most S field n k place picks r ls)
  not_taken place picks r [] [] t l = go (empty? r.value)
    where
      go : (b : Bool) → Refuses (NotTaken place 0) (if_zero b S place r)
      go true = tt
      go false = inl (refl, between_shown place place (place + 0) (omega arith) (omega arith))
  not_taken place picks r [] (v ∷ vs) t l = absurd t
  not_taken place picks r (line ∷ ls) [] t l = absurd t
  not_taken place picks r (line ∷ ls) (v ∷ vs) t l =
      refuses_then (NotTaken place (suc (length ls))) (p_line most S n k place picks r (shaped field letter_P (suc n) line))
      (λ r'. p_lines most S field n k (suc place) (suc picks) r' ls)
      (subst (λ o. Refuses (NotTaken place (suc (length ls))) (p_line most S n k place picks r o)) (sym t.0)
      (allowed (ltb picks most) (lt→ltb picks most (omega arith))))
      (λ r'. refuses_more (NotTaken (suc place) (length ls)) (NotTaken place (suc (length ls))) later (p_lines most S field n k (suc place) (suc picks) r' ls)
      (not_taken (suc place) (suc picks) r' ls vs t.1 (omega arith)))
    where
      later : (number at : ℕ) (value : Vector) → NotTaken (suc place) (length ls) number at value → NotTaken place (suc (length ls)) number at value
      later number at value (inl (e, b)) =
          let lo = between_low (suc place) at (suc place + length ls) b in
          let hi = between_high (suc place) at (suc place + length ls) b in
          inl (e, between_shown place at (place + suc (length ls)) (omega (arith, lo)) (omega (arith, hi)))
      later number at value (inr h) = inr h

      placed : (o : Option ℕ) → Refuses (NotTaken place (suc (length ls))) (replayed S k place r o)
      placed none = inl (refl, between_shown place place (place + suc (length ls)) (omega arith) (omega arith))
      placed (some i) =
          refuses_then (NotTaken place (suc (length ls))) (at_level k (by_pick S (hybrid_strategy S 2) r (some i))) (λ s. done (run_after s))
          (at_level_number place (suc (length ls)) (by_pick_number S (hybrid_strategy S 2) r (some i))) (λ s. tt)

      allowed : (b : Bool) → T b → Refuses (NotTaken place (suc (length ls))) (unless_refused b 21 place >>= λ u. replayed S k place r
          (place_from (pick_of n v) 0 r.value))
      allowed true u = placed (place_from (pick_of n v) 0 r.value)
      allowed false u = absurd u

  pub taken_otherwise : (place number at : ℕ) (value : Vector) (r : Run) (ls : List Line) (vs : List (List ℕ)) → Says field n vs ls → length ls ≤ most
      → p_lines most S field n k place 0 r ls ≡ refused number at value → NotTaken place (length ls) number at value
  taken_otherwise place number at value r ls vs t l e = subst (Refuses (NotTaken place (length ls))) e (not_taken place 0 r ls vs t (omega arith))

-- ## "Lines are tested in turn"

module _ (S : Stage) (field n k most : ℕ) where
  turn : (place picks : ℕ) (r r' : Run) (before later : List Line) (vs : List (List ℕ)) → Says field n vs before → picks + length before ≤ most → Carries S r
      (map (pick_of n) vs) r'
      → p_lines most S field n k place picks r (before ++ later) ≡ p_lines most S field n k (place + length before) (picks + length before) r' later
  turn place picks r r' [] later [] t l c =
      let a : place ≡ place + 0 = omega arith in
      let b : picks ≡ picks + 0 = omega arith in
      λ i. p_lines most S field n k (a i) (b i) (c i) later
  turn place picks r r' [] later (v ∷ vs) t l c = absurd t
  turn place picks r r' (line ∷ before) later [] t l c = absurd t
  turn place picks r r' (line ∷ before) later (v ∷ vs) t l c =
      let rest : Run → Result Vector = λ u. p_lines most S field n k (suc place) (suc picks) u (before ++ later) in
      let s = c.2 in
      let a : suc place + length before ≡ place + suc (length before) = omega arith in
      let b : suc picks + length before ≡ picks + suc (length before) = omega arith in
      ap (λ o. p_line most S n k place picks r o >>= rest) t.0
      ∙ ap (λ b. (unless_refused b 21 place >>= λ u. replayed S k place r (place_from (pick_of n v) 0 r.value)) >>= rest)
      (passed (ltb picks most) (lt→ltb picks most (omega arith)))
      ∙ ap (λ o. replayed S k place r o >>= rest) c.1
      ∙ ap (λ x. (at_level k x >>= λ s. done (run_after s)) >>= rest) s.1
      ∙ turn (suc place) (suc picks) s.0 r' before later vs t.1 (omega arith) s.2
      ∙ (λ i. p_lines most S field n k (a i) (b i) r' later)

  pub log_in_turn : (place : ℕ) (r r' : Run) (before later : List Line) (vs : List (List ℕ)) → Says field n vs before → length before ≤ most → Carries S r
      (map (pick_of n) vs) r'
      → p_lines most S field n k place 0 r (before ++ later) ≡ p_lines most S field n k (place + length before) (length before) r' later
  log_in_turn place r r' before later vs t l c =
      let b : 0 + length before ≡ length before = omega arith in
      turn place 0 r r' before later vs t (omega arith) c ∙ ap (λ j. p_lines most S field n k (place + length before) j r' later) b

  pub log_twenty_one : (place picks : ℕ) (r : Run) (line : Line) (later : List Line) → (shaped field letter_P (suc n) line ≡ none) ⊎ (most ≤ picks)
      → p_lines most S field n k place picks r (line ∷ later) ≡ refused 21 place []
  log_twenty_one place picks r line later (inl e) = ap (λ o. p_line most S n k place picks r o >>= λ u. p_lines most S field n k (suc place) (suc picks) u
      later) e
  log_twenty_one place picks r line later (inr h) = go (shaped field letter_P (suc n) line)
    where
      go : (o : Option (List ℕ)) → (p_line most S n k place picks r o >>= λ u. p_lines most S field n k (suc place) (suc picks) u later) ≡ refused 21 place []
      go none = refl
      go (some v) =
          ap (λ b. (unless_refused b 21 place >>= λ u. replayed S k place r (place_from (pick_of n v) 0 r.value)) >>= λ u. p_lines most S field n k
          (suc place) (suc picks) u later)
          (failed (ltb picks most) (λ t. let l : picks < most = ltb→lt picks most t in omega (arith, l, h)))

  pub log_twenty_two : (place picks : ℕ) (r : Run) (line : Line) (later : List Line) (v : List ℕ) → shaped field letter_P (suc n) line ≡ some v → picks < most
      → place_from (pick_of n v) 0 r.value ≡ none
      → p_lines most S field n k place picks r (line ∷ later) ≡ refused 22 place []
  log_twenty_two place picks r line later v e l f =
      let rest : Run → Result Vector = λ u. p_lines most S field n k (suc place) (suc picks) u later in
      ap (λ o. p_line most S n k place picks r o >>= rest) e
      ∙ ap (λ b. (unless_refused b 21 place >>= λ u. replayed S k place r (place_from (pick_of n v) 0 r.value)) >>= rest)
      (passed (ltb picks most) (lt→ltb picks most l))
      ∙ ap (λ o. replayed S k place r o >>= rest) f

  pub log_ends_early : (place picks : ℕ) (r : Run) → (r.value ≡ [] → ⊥) → p_lines most S field n k place picks r [] ≡ refused 22 place []
  log_ends_early place picks r h = go r.value h
    where
      go : (v : Vector) → (v ≡ [] → ⊥) → if_zero (empty? v) S place r ≡ refused 22 place []
      go [] h = absurd (h refl)
      go (t ∷ v) h = refl
