-- Runs end: from a good value, and from every frame term with eight exponents, some bound suffices.
use mathlib.Core.Path.{◌≡◌, refl, sym, subst}
use Prim.Native.Nat.{ℕ, zero, suc, ◌<◌}
use native.Mathlib.Omega.{arith}
use lib.Dec.{T}
use lib.ListN.{length}
use Rattle.definitions.specs.Monomial.{Monomial}
use Rattle.definitions.specs.Result.{Result, done, refused, unfinished, finished?}
use Rattle.definitions.specs.Stage.{Stage}
use Rattle.definitions.specs.Run.{Run, Strategy, Step, on, end, step, continued, start, runs, run}
use Rattle.laws.proofs.Results.{if_done_shows}
use Rattle.laws.proofs.Finished.{step_finished, start_finished}
use Rattle.laws.proofs.Steady.{Ends, steady_fixed, bind_ends}
use Rattle.laws.proofs.Bound.{runs_steady}
use Rattle.ending.specs.Good.{good?}
use Rattle.ending.specs.Spent.{spent}
use Rattle.ending.specs.Well.{Well, Picks}
use Rattle.ending.proofs.Falling.{step_keeps, step_falls, start_good}

module _ (S : Stage) (X : Well S) (W : Strategy) (K : Picks W.pick) where
  abbrev costs : Run → ℕ
  costs r = spent S.reduction.p S.reduction.heads S.family r.value

  runs_within : (k : ℕ) (r : Run) → T (good? r.value) → costs r < k → Ends finished? (λ n. runs S W n r)
  runs_within zero r g l = absurd (omega arith)
  runs_within (suc k) r g l = go (step S W r) refl (runs_within k)
    where
      -- one step, and n more
      after : (n : ℕ) (s : Result Step) → step S W r ≡ s → T (finished? (continued S (λ r'. runs S W n r') s)) → Ends finished? (λ n. runs S W n r)
      after n s e t = (suc n, subst (λ z. T (finished? (continued S (λ r'. runs S W n r') z))) (sym e) t)

      go : (s : Result Step) → step S W r ≡ s → ((r' : Run) → T (good? r'.value) → costs r' < k → Ends finished? (λ n. runs S W n r'))
          → Ends finished? (λ n. runs S W n r)
      go (done (on r')) e ih =
          let later = ih r' (step_keeps S X W K r r' g e) (omega (arith, step_falls S X W K r r' g e)) in
          after later.0 (done (on r')) e later.1
      go (done (end v)) e ih = after 0 (done (end v)) e tt
      go (refused number place value) e ih = after 0 (refused number place value) e tt
      go unfinished e ih = absurd (subst (λ z. T (finished? z)) e (step_finished S W r))

  pub runs_end : (r : Run) → T (good? r.value) → Ends finished? (λ n. runs S W n r)
  runs_end r g = runs_within (suc (costs r)) r g (omega arith)

  pub run_ends : (m : Monomial) → length m.0 ≡ 8 → Ends finished? (λ n. run S W n m)
  run_ends m l =
      bind_ends (λ r. T (good? r.value)) (λ n. start S W m) (λ n r. runs S W n r) (steady_fixed finished? (start S W m)) (runs_steady S W)
      (λ n. if_done_shows (λ r. T (good? r.value)) (start S W m) (start_good S X W m l)) (0, start_finished S W m) runs_end
