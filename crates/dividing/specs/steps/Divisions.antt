-- What the lent slices mean to a division, and the code's answers as the definitions' ones.
use Rattle.std.proofs.Math.Option.{Option, none, some}
use Rattle.std.specs.Prelude.{[], ℕ, ◌*◌, ◌≤◌, length, get_or, Result as CodeResult, Ok, Err}
use Rattle.definitions.specs.Monomial.{no_term}
use Rattle.definitions.specs.Result.{Result, done, refusal}
use Rattle.definitions.specs.Stage.{Stage}
use Rattle.definitions.specs.Membership.{Division, division_step}
use Rattle.definitions.specs.Layout.{Words, rows}
use Rattle.definitions.specs.Places.{row_length}
use Rattle.runs.specs.declared.reduction.Ground.{Ground}
use Rattle.words.specs.declared.refusals.Refusal.{Refusal}
use Rattle.words.specs.refusals.Numbers.{number_of}
use Rattle.dividing.specs.declared.steps.Divided.{Divided}

abbrev pub division_of : Words → ℕ → Words → ℕ → Words → ℕ → Division
division_of value n quotients v remainder r = record { value = rows value 0 n; quotients = rows quotients 0 v; remainder = rows remainder 0 r }

-- each has its own room
pub record Rooms (g : Ground) (value quotients remainder : Words) : Type 0 where
  pub value_fits : g.working * row_length ≤ length value
  pub quotients_fit : g.vector * row_length ≤ length quotients
  pub remainder_fits : g.working * row_length ≤ length remainder

-- ## A step

-- how many rows value, quotients and remainder have
abbrev pub step_as : CodeResult (ℕ × ℕ × ℕ) Refusal → Words → Words → Words → Result Division
step_as (Ok x) value quotients remainder = done (division_of value x.0 quotients x.1 remainder x.2)
step_as (Err e) value quotients remainder = refusal (number_of e)

abbrev pub Room : Ground → CodeResult (ℕ × ℕ × ℕ) Refusal → Type 0
Room g (Ok x) = (x.0 ≤ g.working) × (x.1 ≤ g.vector) × (x.2 ≤ g.working)
Room g (Err e) = Unit {0}

-- the place of the leading term given, none for zero
abbrev pub stepped : Stage → Division → Option ℕ → Result Division
stepped S d none = done d
stepped S d (some i) = division_step S d i (get_or d.value i no_term)

-- ## All steps

-- nothing is left of the value
abbrev pub divided_as : CodeResult Divided Refusal → Words → Words → Result Division
divided_as (Ok d) quotients remainder =
    done (record { value = []; quotients = rows quotients 0 d.quotients; remainder = rows remainder 0 d.remainder })
divided_as (Err e) quotients remainder = refusal (number_of e)

abbrev pub Left : Ground → CodeResult Divided Refusal → Type 0
Left g (Ok d) = (d.quotients ≤ g.vector) × (d.remainder ≤ g.working)
Left g (Err e) = Unit {0}
