-- Lifting a level and acceptance end: some bound suffices for all frame terms together.
use mathlib.Core.Bool.{Bool, true, false}
use mathlib.Core.List.{List, [], ◌∷◌}
use Prim.Native.Nat.{ℕ, suc, ◌≤◌}
use lib.Dec.{T, leb}
use lib.ListN.{length}
use Rattle.definitions.specs.Limits.{Limits}
use Rattle.definitions.specs.Monomial.{Monomial, Vector, Level, leading_monomials}
use Rattle.definitions.specs.Frame.{frame}
use Rattle.definitions.specs.Result.{Result, done, refused, unfinished, finished?, ◌>>=◌}
use Rattle.definitions.specs.Stage.{Stage, highest, stage_over, narrowed}
use Rattle.definitions.specs.Run.{Strategy, run, division_strategy, hybrid_strategy, accepting_strategy}
use Rattle.definitions.specs.Tree.{Cache}
use Rattle.definitions.specs.Lifting.{Lifting, by_division, by_hybrid, by_tree, lift_one, Lifted, with_vector, lift_all, if_few, limited_frame}
use Rattle.definitions.specs.Lifting.{lift_level, at_frame_term, accept_from, accept}
use Rattle.laws.proofs.Members.{All}
use Rattle.laws.proofs.Modular.{Prime}
use Rattle.laws.proofs.Induced.{Shaped, Led}
use Rattle.laws.proofs.Frames.{frame_shaped, leading_monomials_eight}
use Rattle.laws.proofs.Results.{IfDone}
use Rattle.laws.proofs.Finished.{tree_finished, limited_frame_finished, with_vector_finished}
use Rattle.laws.proofs.Steady.{Ends, steady_fixed, result_steady, bind_ends, bind_ends_any, bind_fixed_ends}
use Rattle.laws.proofs.Bound.{run_steady, lift_one_steady, later_steady, lift_all_steady, accept_from_steady}
use Rattle.ending.specs.Well.{DescendingLevels, Well}
use Rattle.ending.proofs.Picking.{picks_by_code}
use Rattle.ending.proofs.Runs.{run_ends}
use Rattle.ending.proofs.Soundness.{descending_well, levels_lead}

-- ## The frame

few_shaped : (b : Bool) (ms : List Monomial) → All (Shaped 8) ms → IfDone (All (Shaped 8)) (if_few b ms)
few_shaped true ms h = h
few_shaped false ms h = tt

pub limited_frame_shaped : (lim : Limits) (p code : ℕ) (below : List Level) → DescendingLevels p code below
    → IfDone (All (Shaped 8)) (limited_frame lim code (highest below))
limited_frame_shaped lim p code below d =
    let ms = frame (lim.numbering code) (leading_monomials (highest below)) in
    few_shaped (leb (length ms) lim.vectors) ms
    (frame_shaped 8 (lim.numbering code) (leading_monomials (highest below)) (leading_monomials_eight (highest below) (led below d)))
  where
    led : (below : List Level) → DescendingLevels p code below → All (Led 8) (highest below)
    led [] d = tt
    led (f ∷ below) d = (levels_lead p code (f ∷ below) d).0

-- ## Lifting

-- the room of a working value is no part of it
pub well_narrowed : (w : ℕ) (S : Stage) → Well S → Well (narrowed w S)
well_narrowed w S X = record { prime = X.prime; small = X.small; heads_are = X.heads_are; order = X.order; family = X.family }

module _ (S : Stage) (X : Well S) where
  lift_one_ends : (way : Lifting) (cache : Cache) (m : Monomial) → Shaped 8 m → Ends finished? (λ n. lift_one S way n cache m)
  lift_one_ends by_division cache m s =
      bind_fixed_ends (λ v. done (v, cache)) (λ n. run S (division_strategy S) n m)
      (run_ends S X (division_strategy S) (picks_by_code S.below 1) m s.long) (λ v. tt)
  lift_one_ends (by_hybrid pick w) cache m s =
      let N = narrowed w S in
      bind_fixed_ends (λ v. done (v, cache)) (λ n. run N (hybrid_strategy N pick) n m)
      (run_ends N (well_narrowed w S X) (hybrid_strategy N pick) (picks_by_code S.below pick) m s.long) (λ v. tt)
  lift_one_ends (by_tree room) cache m s = (0, tree_finished S room cache m)

  lift_all_ends : (way : Lifting) (l : Lifted) (cache : Cache) (ms : List Monomial) → All (Shaped 8) ms
      → Ends finished? (λ n. lift_all S (lift_one S way n) l cache ms)
  lift_all_ends way l cache [] s = (0, tt)
  lift_all_ends way l cache (m ∷ ms) s =
      bind_ends_any (λ n. lift_one S way n cache m) (λ n v. with_vector S l v >>= λ l'. lift_all S (lift_one S way n) l' v.1 ms)
      (lift_one_steady S way cache m) (λ v. later_steady S way l v ms (λ l'. lift_all_steady S way l' v.1 ms))
      (lift_one_ends way cache m s.0) λ v.
      bind_ends_any (λ n. with_vector S l v) (λ n l'. lift_all S (lift_one S way n) l' v.1 ms)
      (steady_fixed finished? (with_vector S l v)) (λ l'. lift_all_steady S way l' v.1 ms) (0, with_vector_finished S l v) λ l'.
      lift_all_ends way l' v.1 ms s.1

  accept_from_ends : (i : ℕ) (ms : List Monomial) → All (Shaped 8) ms → Ends finished? (λ n. accept_from S n i ms)
  accept_from_ends i [] s = (0, tt)
  accept_from_ends i (m ∷ ms) s =
      bind_ends_any (λ n. at_frame_term i (run S W n m)) (λ n v. accept_from S n (suc i) ms)
      (result_steady finished? (at_frame_term i) (λ t. t) (λ n. run S W n m) (run_steady S W m))
      (λ v. accept_from_steady S (suc i) ms) placed (λ v. accept_from_ends (suc i) ms s.1)
    where
      W : Strategy
      W = accepting_strategy S

      kept : (x : Result Vector) → T (finished? x) → T (finished? (at_frame_term i x))
      kept (done v) t = tt
      kept (refused number place value) t = tt
      kept unfinished t = t

      placed : Ends finished? (λ n. at_frame_term i (run S W n m))
      placed = let e = run_ends S X W (picks_by_code S.below 1) m s.0.long in (e.0, kept (run S W e.0 m) e.1)

-- ## A level, and a basis

pub lift_level_ends : (lim : Limits) (p code : ℕ) (below : List Level) → Prime p → lim.exponent ≤ 255 → DescendingLevels p code below
    → (way : Lifting) → Ends finished? (lift_level lim p code below way)
lift_level_ends lim p code below P l d way =
    let S = stage_over lim p code below in
    bind_ends (All (Shaped 8)) (λ n. limited_frame lim code (highest below)) (λ n ms. lift_all S (lift_one S way n) ([], 0) [] ms)
    (steady_fixed finished? (limited_frame lim code (highest below))) (lift_all_steady S way ([], 0) []) (λ n. limited_frame_shaped lim p code below d)
    (0, limited_frame_finished lim code (highest below)) (lift_all_ends S (descending_well lim p code below P l d) way ([], 0) [])

pub accept_ends : (lim : Limits) (p code : ℕ) (f : Level) → Prime p → lim.exponent ≤ 255 → DescendingLevels p code (f ∷ [])
    → Ends finished? (accept lim p code f)
accept_ends lim p code f P l d =
    let S = stage_over lim p code (f ∷ []) in
    bind_ends (All (Shaped 8)) (λ n. limited_frame lim code f) (λ n ms. accept_from S n 1 ms) (steady_fixed finished? (limited_frame lim code f))
    (accept_from_steady S 1)
    (λ n. limited_frame_shaped lim p code (f ∷ []) d) (0, limited_frame_finished lim code f)
    (accept_from_ends S (descending_well lim p code (f ∷ []) P l d) 1)
