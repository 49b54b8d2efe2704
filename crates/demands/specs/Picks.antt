-- "Whichever term each hybrid step picks, codes or not": runs in which each step has its own strategy, so that a pick may depend on all that went
-- before.
use Rattle.std.specs.Prelude.{◌≡◌, List, [], ◌∷◌, ℕ, ◌<◌, length}
use Rattle.std.proofs.Math.Option.{none, some}
use Rattle.definitions.specs.Monomial.{Monomial, Vector}
use Rattle.definitions.specs.Result.{Result, unfinished, ◌>>=◌}
use Rattle.definitions.specs.Stage.{Stage}
use Rattle.definitions.specs.Run.{Run, Strategy, step, start, continued}

-- a strategy picks a place of the working value, and none only of an empty one
pub record Picks (W : Strategy) : Type 0 where
  pub inside : (v : Vector) (i : ℕ) → W.pick v ≡ some i → i < length v
  pub to_zero : (v : Vector) → W.pick v ≡ none → v ≡ []

abbrev pub AllPick : List Strategy → Type 0
AllPick [] = Unit {0}
AllPick (W ∷ Ws) = Picks W × AllPick Ws

-- one strategy for each step
abbrev pub runs_by : Stage → List Strategy → Run → Result Vector
runs_by S [] r = unfinished
runs_by S (W ∷ Ws) r = continued S (λ r'. runs_by S Ws r') (step S W r)

-- the first strategy says whether the first products are dropped
abbrev pub run_by : Stage → Strategy → List Strategy → Monomial → Result Vector
run_by S W Ws m = start S W m >>= λ r. runs_by S Ws r
