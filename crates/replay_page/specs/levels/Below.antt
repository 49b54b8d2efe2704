-- What lifting the levels below leaves in a state's words.
use Rattle.std.specs.Prelude.{◌≡◌, [], ℕ, ◌-◌, get_or, Result as CodeResult, Ok, Err}
use Rattle.definitions.specs.Limits.{document_01}
use Rattle.definitions.specs.Result.{Result, done, refused}
use Rattle.definitions.specs.State.{State}
use Rattle.definitions.specs.Replay.{lifted_below}
use Rattle.definitions.specs.Layout.{Words, decode}
use Rattle.level.specs.by_runs.Stages.{Base}
use Rattle.words.specs.declared.refusals.Refused.{Refused}
use Rattle.words.specs.refusals.Numbers.{number_of}

-- the state that the words hold, or a refusal
abbrev pub below_by : CodeResult (Unit {0}) Refused → Words → Result State
below_by (Ok u) t = done (decode document_01 t)
below_by (Err e) t = refused (number_of e.refusal) e.place []

-- its level k − 1 is complete, and there is none above it; nothing is said after a refusal
abbrev pub Ready : CodeResult (Unit {0}) Refused → ℕ → Words → Type 0
Ready (Ok u) k t = Base t (k - 1) × (get_or t 4 0 ≡ k)
Ready (Err e) k t = Unit {0}

-- levels 1 to k − 1 of the state that the words hold
pub record LiftedBelow (s : Words) (k : ℕ) (r : CodeResult (Unit {0}) Refused) (t : Words) : Type 0 where
  pub bound : ℕ
  pub gives : below_by r t ≡ lifted_below document_01 bound (k - 1) 1 (decode document_01 s)
  pub ready : Ready r k t
