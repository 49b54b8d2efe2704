-- The monomial that the numbers of a P line name, and what the code says of the step there.
use Rattle.std.proofs.Math.Option.{Option, none, some}
use Rattle.std.specs.Prelude.{[], ℕ, ◌≤◌, get_or, set, take, Option as CodeOption, Some, None, Result as CodeResult, Ok, Err}
use Rattle.definitions.specs.Monomial.{Monomial}
use Rattle.definitions.specs.Result.{Result, done, refused}
use Rattle.definitions.specs.Run.{Run}
use Rattle.definitions.specs.Layout.{Words}
use Rattle.runs.specs.run.Stages.{run_of}
use Rattle.runs.specs.declared.reduction.Ground.{Ground}
use Rattle.words.specs.declared.refusals.Refused.{Refused}
use Rattle.words.specs.refusals.Numbers.{number_of}

-- sixteen numbers, of which the first n are exponents and the next is the component
abbrev pub named : ℕ → Words → Monomial
named n v = (take 8 (set v n 0), get_or v n 0)

abbrev pub place_as : CodeOption ℕ → Option ℕ
place_as (Some i) = some i
place_as None = none

abbrev pub picked_as : CodeResult (ℕ × ℕ) Refused → Words → Words → Result Run
picked_as (Ok (m, u)) value vector = done (run_of value m vector u)
picked_as (Err e) value vector = refused (number_of e.refusal) e.place []

abbrev pub Room : Ground → CodeResult (ℕ × ℕ) Refused → Type 0
Room g (Ok (m, u)) = (m ≤ g.working) × (u ≤ g.vector)
Room g (Err e) = Unit {0}
