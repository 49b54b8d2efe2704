-- Levels, and all that is proved of when limits are met.
use mathlib.Core.Path.{◌≡◌, refl, ap, ◌∙◌, subst}
use mathlib.Core.Logic.{◌⊎◌, inl, inr}
use mathlib.Core.Bool.{Bool, true, false}
use mathlib.Core.Option.{none}
use mathlib.Core.List.{List, [], ◌∷◌, ◌++◌}
use Prim.Native.Nat.{ℕ, zero, suc, ◌+◌, ◌<◌, ◌≤◌}
use native.Mathlib.Omega.{arith}
use lib.Dec.{T, leb, ltb, leb→le, le→leb, ltb→lt}
use lib.ListN.{length}
use Rattle.definitions.specs.Field.{minus}
use Rattle.definitions.specs.Limits.{Limits}
use Rattle.definitions.specs.Monomial.{Exponents, Monomial, Term, Vector, Level, fits?, leading_monomials}
use Rattle.definitions.specs.Order.{Comparison}
use Rattle.definitions.specs.Frame.{frame}
use Rattle.definitions.specs.Reducer.{Answer, reducer, answer}
use Rattle.definitions.specs.Result.{Result, done, refused, unfinished, refusal, ◌>>=◌}
use Rattle.definitions.specs.Vectors.{insert}
use Rattle.definitions.specs.Stage.{Stage, highest, stage_over, narrowed}
use Rattle.definitions.specs.Run.{Strategy, run, hybrid_strategy, division_strategy}
use Rattle.definitions.specs.Tree.{Cache, cached, Sum, held_to, grow, LiftTerm, LiftList, if_product_fits, lift_product, lift_list}
use Rattle.definitions.specs.Tree.{open_subtree, or_open, lift_by, lift_term, if_vector_product_fits, lift_vector_product}
use Rattle.definitions.specs.Lifting.{Lifting, by_division, by_hybrid, by_tree, lift_one, Lifted, add_vector, with_vector, if_few, limited_frame, lift_all}
use Rattle.definitions.specs.Lifting.{lift_level}
use Rattle.limits_met.specs.Limits.{All, Fits, RunComes, stopped, RefusedRun, RefusedAccepting}
use Rattle.limits_met.specs.Trees.{ShallowFrame, tree_by}
use Rattle.limits_met.specs.Levels.{RunLifts, LiftsBy, RefusedTerms, this_term, too_many, later_term, RefusedLevel, frame_full, at_term, ByRuns}
use Rattle.limits_met.specs.Levels.{lift_level_by, LimitsMet}
use Rattle.limits_met.proofs.Runs.{IfRefused, IfFinished, refused_map, fits_says, run_comes, comes_within, accept_why}
use Rattle.limits_met.proofs.Trees.{tree_comes, one_end, reckoned_shallow}

-- ## 15

frame_15 : (lim : Limits) (code : ℕ) (f : Level)
    → ((limited_frame lim code f ≡ refused 15 0 []) × (lim.vectors < length (frame (lim.numbering code) (leading_monomials f))))
    ⊎ ((limited_frame lim code f ≡ done (frame (lim.numbering code) (leading_monomials f)))
    × (length (frame (lim.numbering code) (leading_monomials f)) ≤ lim.vectors))
frame_15 lim code f = go (leb (length ms) lim.vectors) (leb→le (length ms) lim.vectors) (le→leb (length ms) lim.vectors)
  where
    ms : List Monomial
    ms = frame (lim.numbering code) (leading_monomials f)

    go : (b : Bool) → (T b → length ms ≤ lim.vectors) → (length ms ≤ lim.vectors → T b)
        → ((if_few b ms ≡ refused 15 0 []) × (lim.vectors < length ms)) ⊎ ((if_few b ms ≡ done ms) × (length ms ≤ lim.vectors))
    go true f g = inr (refl, f tt)
    go false f g = inl (refl, omega (arith, g))

terms_15 : (S : Stage) (l : Lifted) (s : Sum)
    → ((with_vector S l s ≡ refused 15 0 []) × (S.reduction.limits.level_terms < l.1 + length s.0))
    ⊎ ((with_vector S l s ≡ done (l.0 ++ s.0 ∷ [], l.1 + length s.0)) × (l.1 + length s.0 ≤ S.reduction.limits.level_terms))
terms_15 S l s = go (leb n limit) (leb→le n limit) (le→leb n limit)
  where
    n : ℕ
    n = l.1 + length s.0

    limit : ℕ
    limit = S.reduction.limits.level_terms

    go : (b : Bool) → (T b → n ≤ limit) → (n ≤ limit → T b)
        → ((add_vector b l s.0 ≡ refused 15 0 []) × (limit < n))
        ⊎ ((add_vector b l s.0 ≡ done (l.0 ++ s.0 ∷ [], l.1 + length s.0)) × (n ≤ limit))
    go true f g = inr (refl, f tt)
    go false f g = inl (refl, omega (arith, g))

-- ## A level

-- the number alone
abbrev pub ByNumber : (ℕ → Type 0) → ℕ → ℕ → Vector → Type 0
ByNumber P number place value = P number

terms_why : (S : Stage) (Lifts : Cache → Monomial → Result Sum → Type 0) (lift : Cache → Monomial → Result Sum) (l : Lifted) (cache : Cache)
    (ms : List Monomial) → All (λ m. (cache : Cache) → IfFinished (Lifts cache m) (lift cache m)) ms
    → IfRefused (ByNumber (RefusedTerms S.reduction.limits.level_terms Lifts l.1 cache ms)) (lift_all S lift l cache ms)
terms_why S Lifts lift l cache [] a = tt
terms_why S Lifts lift l cache (m ∷ ms) a =
    go (lift cache m) (a.0 cache) (λ s. terms_why S Lifts lift (l.0 ++ s.0 ∷ [], l.1 + length s.0) s.1 ms a.1)
  where
    most : ℕ
    most = S.reduction.limits.level_terms

    Ends : ℕ → Type 0
    Ends number = RefusedTerms S.reduction.limits.level_terms Lifts l.1 cache (m ∷ ms) number

    added : (s : Sum) → Lifts cache m (done s)
        → IfRefused (ByNumber (RefusedTerms most Lifts (l.1 + length s.0) s.1 ms))
        (lift_all S lift (l.0 ++ s.0 ∷ [], l.1 + length s.0) s.1 ms)
        → (b : Bool) → (T b → l.1 + length s.0 ≤ most) → (l.1 + length s.0 ≤ most → T b)
        → IfRefused (ByNumber Ends) (add_vector b l s.0 >>= λ l'. lift_all S lift l' s.1 ms)
    added s e h false f g = let w : most < l.1 + length s.0 = omega (arith, g) in too_many e w
    added s e h true f g =
        refused_map (ByNumber (RefusedTerms most Lifts (l.1 + length s.0) s.1 ms)) (ByNumber Ends)
        (λ number place value w. later_term e (f tt) w) (lift_all S lift (l.0 ++ s.0 ∷ [], l.1 + length s.0) s.1 ms) h

    go : (x : Result Sum) → IfFinished (Lifts cache m) x
        → ((s : Sum) → IfRefused (ByNumber (RefusedTerms most Lifts (l.1 + length s.0) s.1 ms))
        (lift_all S lift (l.0 ++ s.0 ∷ [], l.1 + length s.0) s.1 ms))
        → IfRefused (ByNumber Ends) (x >>= λ s. with_vector S l s >>= λ l'. lift_all S lift l' s.1 ms)
    go (done s) w h =
        added s w (h s) (leb (l.1 + length s.0) most) (leb→le (l.1 + length s.0) most) (le→leb (l.1 + length s.0) most)
    go (refused number place value) w h = this_term w
    go unfinished w h = tt

module _ (lim : Limits) (p code : ℕ) (below : List Level) (way : Lifting) (lift : Cache → Monomial → Result Sum) where
  abbrev stage : Stage
  stage = stage_over lim p code below

  abbrev whole : List Monomial
  whole = frame (lim.numbering code) (leading_monomials (highest below))

  level_why : All (λ m. (cache : Cache) → IfFinished (LiftsBy stage way cache m) (lift cache m)) whole
      → IfRefused (ByNumber (RefusedLevel lim p code below way)) (limited_frame lim code (highest below) >>= λ ms. lift_all stage lift ([], 0) [] ms)
  level_why a = go (leb (length whole) lim.vectors) (leb→le (length whole) lim.vectors) (le→leb (length whole) lim.vectors)
    where
      go : (b : Bool) → (T b → length whole ≤ lim.vectors) → (length whole ≤ lim.vectors → T b)
          → IfRefused (ByNumber (RefusedLevel lim p code below way)) (if_few b whole >>= λ ms. lift_all stage lift ([], 0) [] ms)
      go true f g =
          refused_map (ByNumber (RefusedTerms lim.level_terms (LiftsBy stage way) 0 [] whole)) (ByNumber (RefusedLevel lim p code below way))
          (λ number place value w. at_term (f tt) w) (lift_all stage lift ([], 0) [] whole)
          (terms_why stage (LiftsBy stage way) lift ([], 0) [] whole a)
      go false f g = frame_full (omega (arith, g))

-- ## By runs

run_lifts : (S : Stage) (W : Strategy) (n : ℕ) (cache : Cache) (m : Monomial)
    → IfFinished (RunLifts S W cache m) (run S W n m >>= λ v. done (v, cache))
run_lifts S W n cache m = go (run S W n m) (run_comes S W n m)
  where
    go : (x : Result Vector) → IfFinished (RunComes S W m) x → IfFinished (RunLifts S W cache m) (x >>= λ v. done (v, cache))
    go (done v) h = (h, refl)
    go (refused number place value) h = h
    go unfinished h = tt

one_lifts : (S : Stage) (way : Lifting) → ByRuns way → (n : ℕ) (cache : Cache) (m : Monomial)
    → IfFinished (LiftsBy S way cache m) (lift_one S way n cache m)
one_lifts S by_division u n cache m = run_lifts S (division_strategy S) n cache m
one_lifts S (by_hybrid pick w) u n cache m = run_lifts (narrowed w S) (hybrid_strategy (narrowed w S) pick) n cache m
one_lifts S (by_tree room) u n cache m = absurd u

everywhere : (P : Monomial → Type 0) → ((m : Monomial) → P m) → (ms : List Monomial) → All P ms
everywhere P h [] = tt
everywhere P h (m ∷ ms) = (h m, everywhere P h ms)

-- ## By the tree

finished : {A : Type 0} (P : Result A → Type 0) (x : Result A) → P x → IfFinished P x
finished P (done a) h = h
finished P (refused number place value) h = h
finished P unfinished h = tt

tree_lifts : (S : Stage) (room left : ℕ) → 1 ≤ S.reduction.limits.vector → (ms : List Monomial) → All (ShallowFrame S left) ms
    → All (λ m. (cache : Cache) → IfFinished (LiftsBy S (by_tree room) cache m) (tree_by left S room cache m)) ms
tree_lifts S room left l [] a = tt
tree_lifts S room left l (m ∷ ms) a = (
  λ cache. finished (LiftsBy S (by_tree room) cache m) (tree_by left S room cache m) (tree_comes S room left cache m l a.0),
  tree_lifts S room left l ms a.1,
)

-- ## The tree

tree_13 : (S : Stage) (lift : LiftTerm) (others : ℕ) (t : Term) (s : Sum) → ¬ (Fits S.reduction.limits.exponent t.1.0)
    → (lift_product S lift others t s ≡ refused 13 0 []) × (lift_vector_product S lift t s ≡ refused 13 0 [])
tree_13 S lift others t s h =
    (one (fits? limit t.1.0) (λ x. h (fits_says limit t.1.0 x)), two (fits? limit t.1.0) (λ x. h (fits_says limit t.1.0 x)))
  where
    limit : ℕ
    limit = S.reduction.limits.exponent

    one : (b : Bool) → (T b → ⊥) → if_product_fits b S lift others t s ≡ refused 13 0 []
    one true f = absurd (f tt)
    one false f = refl

    two : (b : Bool) → (T b → ⊥) → if_vector_product_fits b S lift t s ≡ refused 13 0 []
    two true f = absurd (f tt)
    two false f = refl

shut_14 : (S : Stage) (room others : ℕ) (lift : LiftList) (cache : Cache) (m : Monomial) (a : Answer) {j c : ℕ} {q : Exponents}
    → a ≡ reducer j c q → cached m cache ≡ none → S.reduction.limits.tree ≤ others → lift_by a S room lift others cache m ≡ refused 14 0 []
shut_14 S room others lift cache m a {j} {c} {q} e k h =
    ap (λ x. lift_by x S room lift others cache m) e
    ∙ ap (λ o. or_open o S room lift others cache m j (minus S.reduction.p c) q) k
    ∙ shut (ltb others S.reduction.limits.tree) (ltb→lt others S.reduction.limits.tree)
  where
    shut : (b : Bool) → (T b → others < S.reduction.limits.tree)
        → open_subtree b S room lift others cache m j (minus S.reduction.p c) q ≡ refused 14 0 []
    shut true f = absurd (let l : others < S.reduction.limits.tree = f tt in omega (arith, h, l))
    shut false f = refl

open_14 : (S : Stage) (room left others : ℕ) (cache : Cache) (m : Monomial) {j c : ℕ} {q : Exponents}
    → answer S.reduction.p S.reduction.heads (1, m) ≡ reducer j c q → cached m cache ≡ none → S.reduction.limits.tree ≤ others
    → lift_term S room left others cache m ≡ refused 14 0 []
open_14 S room zero others cache m e k h =
    shut_14 S room others (λ o c q f s. refusal 14) cache m (answer S.reduction.p S.reduction.heads (1, m)) e k h
open_14 S room (suc left) others cache m e k h =
    shut_14 S room others (lift_list S (lift_term S room left)) cache m (answer S.reduction.p S.reduction.heads (1, m)) e k h

grow_14 : (order : Monomial → Monomial → Comparison) (p top others : ℕ) (t : Term) (total : Vector)
    → ((grow order p top others t total ≡ refused 14 0 []) × (top < others + length (insert order p t total)))
    ⊎ ((grow order p top others t total ≡ done (insert order p t total)) × (others + length (insert order p t total) ≤ top))
grow_14 order p top others t total = go (leb n top) (leb→le n top) (le→leb n top)
  where
    n : ℕ
    n = others + length (insert order p t total)

    go : (b : Bool) → (T b → n ≤ top) → (n ≤ top → T b)
        → ((held_to b (insert order p t total) ≡ refused 14 0 []) × (top < n))
        ⊎ ((held_to b (insert order p t total) ≡ done (insert order p t total)) × (n ≤ top))
    go true f g = inr (refl, f tt)
    go false f g = inl (refl, omega (arith, g))

-- ## Levels by each way

pub by_runs_why : (lim : Limits) (p code : ℕ) (below : List Level) (way : Lifting) → ByRuns way → (n : ℕ)
    → IfRefused (ByNumber (RefusedLevel lim p code below way)) (lift_level lim p code below way n)
by_runs_why lim p code below way u n =
    level_why lim p code below way (lift_one S way n)
    (everywhere (λ m. (cache : Cache) → IfFinished (LiftsBy S way cache m) (lift_one S way n cache m)) (λ m cache. one_lifts S way u n cache m)
    (frame (lim.numbering code) (leading_monomials (highest below))))
  where
    S : Stage
    S = stage_over lim p code below

pub by_tree_why : (lim : Limits) (p code : ℕ) (below : List Level) (room left : ℕ) → 1 ≤ lim.vector
    → All (ShallowFrame (stage_over lim p code below) left) (frame (lim.numbering code) (leading_monomials (highest below)))
    → IfRefused (ByNumber (RefusedLevel lim p code below (by_tree room))) (lift_level_by left lim p code below room)
by_tree_why lim p code below room left l a =
    level_why lim p code below (by_tree room) (tree_by left (stage_over lim p code below) room)
    (tree_lifts (stage_over lim p code below) room left l (frame (lim.numbering code) (leading_monomials (highest below))) a)

-- ## What comes out

refused_says : {A : Type 0} (P : ℕ → ℕ → Vector → Type 0) (x : Result A) → IfRefused P x → (number place : ℕ) (value : Vector)
    → x ≡ refused number place value → P number place value
refused_says P x h number place value e = subst (IfRefused P) e h

run_refused : (S : Stage) (W : Strategy) (m : Monomial) (number place : ℕ) (value : Vector) → RunComes S W m (refused number place value)
    → RefusedRun S W m number value × (place ≡ 0)
run_refused S W m number place value (stopped w) = (w, refl)

pub met : LimitsMet
met = record {
  accepting = λ lim p code f n number place value e.
      refused_says (RefusedAccepting lim p code f) _ (accept_why lim p code f n) number place value e;
  lifting = λ lim p code below way u n number place value e.
      refused_says (ByNumber (RefusedLevel lim p code below way)) (lift_level lim p code below way n) (by_runs_why lim p code below way u n)
      number place value e;
  lifting_by_tree = λ lim p code below room left l a number place value e.
      refused_says (ByNumber (RefusedLevel lim p code below (by_tree room))) (lift_level_by left lim p code below room)
      (by_tree_why lim p code below room left l a) number place value e;
  only_then = λ S W n m number place value e. run_refused S W m number place value (subst (IfFinished (RunComes S W m)) e (run_comes S W n m));
  to_the_end = λ S W n m v e. subst (IfFinished (RunComes S W m)) e (run_comes S W n m);
  within = λ S W m r o c. let w = comes_within S W m r o c in (w.0.0, w.1, w.0.1);
  frame_15 = frame_15;
  terms_15 = terms_15;
  tree = λ S room left cache m l a. tree_comes S room left cache m l a;
  one_end = λ S room W r r' c d. one_end S room W r r' c d;
  as_deep_as_the_reckoning = reckoned_shallow;
  tree_13 = tree_13;
  open_14 = open_14;
  grow_14 = grow_14;
}
