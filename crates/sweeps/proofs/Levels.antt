-- A level by division or by hybrid, each frame term lifted by whatever gives its run's vector; and acceptance.
use mathlib.Core.Path.{◌≡◌, refl, sym, ap, ◌∙◌, subst}
use mathlib.Core.Bool.{Bool, true, false}
use mathlib.Core.List.{List, [], ◌∷◌}
use Prim.Native.Nat.{ℕ, suc, ◌+◌}
use native.Mathlib.Omega.{arith}
use lib.Dec.{T, leb}
use lib.ListN.{length}
use Rattle.definitions.specs.Limits.{Limits, with_working}
use Rattle.definitions.specs.Monomial.{Monomial, Vector, Level, leading_monomials}
use Rattle.definitions.specs.Frame.{frame}
use Rattle.definitions.specs.Result.{Result, done, refused, unfinished, finished?, ◌>>=◌}
use Rattle.definitions.specs.Stage.{Stage, highest, stage_over, narrowed}
use Rattle.definitions.specs.Run.{run, hybrid_strategy, division_strategy, accepting_strategy}
use Rattle.definitions.specs.Tree.{Cache}
use Rattle.definitions.specs.Lifting.{
  Lifting,
  by_division,
  by_hybrid,
  lift_one,
  Lifted,
  with_vector,
  lift_all,
  if_few,
  limited_frame,
  lift_level,
  at_frame_term,
  accept_from,
  accept,
}
use Rattle.definitions.specs.Problem.{Parameters}
use Rattle.laws.proofs.Members.{All, all_map}
use Rattle.laws.proofs.Finished.{with_vector_finished}
use Rattle.laws.proofs.Steady.{steady_from}
use Rattle.laws.proofs.Bound.{run_steady, lift_one_steady, lift_all_steady, accept_from_steady}
use Rattle.sweeps.specs.Places.{Row}
use Rattle.sweeps.specs.Claims.{passed_vector, passed_settled?, Flagged, Passed, level_by}

-- finished, and so the same with a larger bound
done_finished : {A : Type 0} (x : Result A) (a : A) → x ≡ done a → T (finished? x)
done_finished x a e = subst (λ z. T (finished? z)) (sym e) tt

module _ (S : Stage) (way : Lifting) (vector : Monomial → Vector) where
  -- some bound lifts the frame term to vector m and leaves the cache as it was, whatever is in it: division and hybrid do, the tree does not
  abbrev Lifts : Monomial → Type 0
  Lifts m = (n : ℕ) × ((cache : Cache) → lift_one S way n cache m ≡ done (vector m, cache))

  abbrev known : Lifted → Cache → List Monomial → Result Level
  known l cache ms = lift_all S (λ cache m. done (vector m, cache)) l cache ms

  known_finished : (l : Lifted) (cache : Cache) (ms : List Monomial) → T (finished? (known l cache ms))
  known_finished l cache [] = tt
  known_finished l cache (m ∷ ms) = go (with_vector S l (vector m, cache)) (with_vector_finished S l (vector m, cache)) (λ l'. known_finished l' cache ms)
    where
      go : (x : Result Lifted) → T (finished? x) → ((l' : Lifted) → T (finished? (known l' cache ms))) → T (finished? (x >>= λ l'. known l' cache ms))
      go (done l') t h = h l'
      go (refused number place value) t h = tt
      go unfinished t h = t

  all_lifted : (ms : List Monomial) → All Lifts ms → (l : Lifted) (cache : Cache) → (n : ℕ) × (lift_all S (lift_one S way n) l cache ms ≡ known l cache ms)
  all_lifted [] h l cache = (0, refl)
  all_lifted (m ∷ ms) h l cache = go (with_vector S l (vector m, cache)) refl (with_vector_finished S l (vector m, cache)) (λ l'. all_lifted ms h.1 l' cache)
    where
      first : (n : ℕ) → lift_one S way (h.0.0 + n) cache m ≡ done (vector m, cache)
      first n =
          steady_from finished? (λ n. lift_one S way n cache m) (lift_one_steady S way cache m) h.0.0 n
          (done_finished (lift_one S way h.0.0 cache m) (vector m, cache) (h.0.1 cache)) ∙ h.0.1 cache

      whole : (n : ℕ) → lift_one S way n cache m ≡ done (vector m, cache) → (x : Result Lifted) → with_vector S l (vector m, cache) ≡ x
          → lift_all S (lift_one S way n) l cache (m ∷ ms) ≡ (x >>= λ l'. lift_all S (lift_one S way n) l' cache ms)
      whole n e x k =
          ap (λ y. y >>= λ s. with_vector S l s >>= λ l'. lift_all S (lift_one S way n) l' s.1 ms) e
          ∙ ap (λ y. y >>= λ l'. lift_all S (lift_one S way n) l' cache ms) k

      go : (x : Result Lifted) → with_vector S l (vector m, cache) ≡ x → T (finished? x)
          → ((l' : Lifted) → (n : ℕ) × (lift_all S (lift_one S way n) l' cache ms ≡ known l' cache ms))
          → (n : ℕ) × (lift_all S (lift_one S way n) l cache (m ∷ ms) ≡ known l cache (m ∷ ms))
      go (refused number place value) k t ih =
          let a = h.0.0 in
          (a, whole a (h.0.1 cache) (refused number place value) k ∙ ap (λ y. y >>= λ l'. known l' cache ms) (sym k))
      go unfinished k t ih = absurd t
      go (done l') k t ih =
          let a = h.0.0 in
          let c = (ih l').0 in
          let e : c + a ≡ a + c = omega arith in (
            a + c,
            whole (a + c) (first c) (done l') k
                ∙ ap (λ n. lift_all S (lift_one S way n) l' cache ms) (sym e)
                ∙ steady_from finished? (λ n. lift_all S (lift_one S way n) l' cache ms) (lift_all_steady S way l' cache ms) c a
                (subst (λ y. T (finished? y)) (sym (ih l').1) (known_finished l' cache ms)) ∙ (ih l').1
                ∙ ap (λ y. y >>= λ l'. known l' cache ms) (sym k),
          )

-- the frame terms of the level
abbrev pub level_frame : Limits → ℕ → Level → List Monomial
level_frame lim code f = frame (lim.numbering code) (leading_monomials f)

level_lifted : (lim : Limits) (p code : ℕ) (below : List Level) (way : Lifting) (vector : Monomial → Vector)
    → All (Lifts (stage_over lim p code below) way vector) (level_frame lim code (highest below))
    → (n : ℕ) × (lift_level lim p code below way n ≡ (limited_frame lim code (highest below) >>= λ ms. level_by (stage_over lim p code below) vector ms))
level_lifted lim p code below way vector h = go (leb (length ms) lim.vectors) (all_lifted S way vector ms h ([], 0) [])
  where
    S : Stage
    S = stage_over lim p code below

    ms : List Monomial
    ms = level_frame lim code (highest below)

    go : (b : Bool) → (n : ℕ) × (lift_all S (lift_one S way n) ([], 0) [] ms ≡ level_by S vector ms)
        → (n : ℕ) × ((if_few b ms >>= λ ms. lift_all S (lift_one S way n) ([], 0) [] ms) ≡ (if_few b ms >>= λ ms. level_by S vector ms))
    go true k = k
    go false k = (0, refl)

-- a run that comes to v lifts to v
hybrid_lifts : (S : Stage) (code w : ℕ) (vector : Monomial → Vector) (m : Monomial)
    → (n : ℕ) × (run (narrowed w S) (hybrid_strategy (narrowed w S) code) n m ≡ done (vector m)) → Lifts S (by_hybrid code w) vector m
hybrid_lifts S code w vector m (n, e) = (n, λ cache. ap (λ x. x >>= λ v. done (v, cache)) e)

division_lifts : (S : Stage) (vector : Monomial → Vector) (m : Monomial) → (n : ℕ) × (run S (division_strategy S) n m ≡ done (vector m))
    → Lifts S by_division vector m
division_lifts S vector m (n, e) = (n, λ cache. ap (λ x. x >>= λ v. done (v, cache)) e)

-- ## Whole levels

-- a level by hybrid, each frame term's vector from a table or from its run
pub hybrid_level : (lim : Limits) (p code : ℕ) (below : List Level) (pick w : ℕ) (vector : Monomial → Vector)
    → All (λ m. (n : ℕ) × (run (stage_over (with_working w lim) p code below) (hybrid_strategy (stage_over (with_working w lim) p code below) pick) n m
    ≡ done (vector m))) (level_frame lim code (highest below))
    → (n : ℕ) × (lift_level lim p code below (by_hybrid pick w) n
    ≡ (limited_frame lim code (highest below) >>= λ ms. level_by (stage_over lim p code below) vector ms))
hybrid_level lim p code below pick w vector h =
    let S = stage_over lim p code below in
    let N = narrowed w S in
    level_lifted lim p code below (by_hybrid pick w) vector
    (all_map (λ m. (n : ℕ) × (run N (hybrid_strategy N pick) n m ≡ done (vector m))) (Lifts S (by_hybrid pick w) vector) (hybrid_lifts S pick w vector)
    (level_frame lim code (highest below)) h)

-- .. by division
pub division_level : (lim : Limits) (p code : ℕ) (below : List Level) (vector : Monomial → Vector)
    → All (λ m. (n : ℕ) × (run (stage_over lim p code below) (division_strategy (stage_over lim p code below)) n m ≡ done (vector m)))
    (level_frame lim code (highest below))
    → (n : ℕ) × (lift_level lim p code below by_division n
    ≡ (limited_frame lim code (highest below) >>= λ ms. level_by (stage_over lim p code below) vector ms))
division_level lim p code below vector h =
    let S = stage_over lim p code below in
    level_lifted lim p code below by_division vector
    (all_map (λ m. (n : ℕ) × (run S (division_strategy S) n m ≡ done (vector m))) (Lifts S by_division vector) (division_lifts S vector)
    (level_frame lim code (highest below)) h)

-- ## Acceptance

module _ (S : Stage) where
  abbrev pub Comes : Monomial → Type 0
  Comes m = (n : ℕ) × (v : Vector) × (run S (accepting_strategy S) n m ≡ done v)

  all_come : (i : ℕ) (ms : List Monomial) → All Comes ms → (n : ℕ) × (accept_from S n i ms ≡ done tt)
  all_come i [] h = (0, refl)
  all_come i (m ∷ ms) h = go h.0 (all_come (suc i) ms h.1)
    where
      go : Comes m → (n : ℕ) × (accept_from S n (suc i) ms ≡ done tt) → (n : ℕ) × (accept_from S n i (m ∷ ms) ≡ done tt)
      go (a, v, e) (c, k) =
          let s : c + a ≡ a + c = omega arith in (
            a + c,
            ap (λ y. at_frame_term i y >>= λ v. accept_from S (a + c) (suc i) ms)
                (steady_from finished? (λ n. run S (accepting_strategy S) n m) (run_steady S (accepting_strategy S) m) a c
                (done_finished (run S (accepting_strategy S) a m) v e) ∙ e)
                ∙ ap (λ n. accept_from S n (suc i) ms) (sym s)
                ∙ steady_from finished? (λ n. accept_from S n (suc i) ms) (accept_from_steady S (suc i) ms) c a (done_finished (accept_from S c (suc i) ms) tt
                k) ∙ k,
          )

-- a table whose flag says zero
pub flag_comes : (lim : Limits) (q : Parameters) (below : List Level) (N : List Monomial) (rs : List Row) (es : List (ℕ × ℕ)) (m : Monomial)
    → Passed lim q below false N rs es m → passed_settled? q.p N rs es ≡ true → Comes (stage_over lim q.p q.code below) m
flag_comes lim q below N rs es m P e =
    let a = P.accepts refl in go a.0 (run S (accepting_strategy S) a.0 m) refl a.1 a.2
  where
    S : Stage
    S = stage_over lim q.p q.code below

    go : (n : ℕ) (x : Result Vector) → run S (accepting_strategy S) n m ≡ x → T (finished? x)
        → Flagged (passed_vector q.p N rs es m) (passed_settled? q.p N rs es) x → Comes S m
    go n (done v) k t h = (n, v, k)
    go n (refused number place value) k t h = absurd (subst T (sym e ∙ h.1) tt)
    go n unfinished k t h = absurd t

-- acceptance: each frame term comes to zero
pub all_accepted : (lim : Limits) (p code : ℕ) (f : Level) → All (Comes (stage_over lim p code (f ∷ []))) (level_frame lim code f)
    → (n : ℕ) × (accept lim p code f n ≡ (limited_frame lim code f >>= λ ms. done tt))
all_accepted lim p code f h = go (leb (length ms) lim.vectors) (all_come S 1 ms h)
  where
    S : Stage
    S = stage_over lim p code (f ∷ [])

    ms : List Monomial
    ms = level_frame lim code f

    go : (b : Bool) → (n : ℕ) × (accept_from S n 1 ms ≡ done tt) → (n : ℕ) × ((if_few b ms >>= λ ms. accept_from S n 1 ms) ≡ (if_few b ms >>= λ ms. done tt))
    go true k = k
    go false k = (0, refl)
