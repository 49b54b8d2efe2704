-- What is printed of a division: the quotients descending in the induced order, and the remainder.
use Rattle.std.specs.Prelude.{ℕ, ◌≤◌, Result as CodeResult, Ok, Err}
use Rattle.definitions.specs.Monomial.{Monomial, Vector}
use Rattle.definitions.specs.Order.{Comparison}
use Rattle.definitions.specs.Result.{Result, done, refusal, ◌>>=◌}
use Rattle.definitions.specs.Membership.{Division, undivided, divide, Parts, parts_by}
use Rattle.definitions.specs.Layout.{Words, rows}
use Rattle.definitions.specs.Places.{most_terms}
use Rattle.level.specs.by_runs.Stages.{usual, stage_at}
use Rattle.dividing.specs.declared.steps.Divided.{Divided}
use Rattle.words.specs.declared.refusals.Refusal.{Refusal}
use Rattle.words.specs.refusals.Numbers.{number_of}

abbrev pub parts_as : CodeResult Divided Refusal → Words → Words → Result Parts
parts_as (Ok d) quotients remainder = done (rows quotients 0 d.quotients, rows remainder 0 d.remainder)
parts_as (Err e) quotients remainder = refusal (number_of e)

abbrev pub sorted_parts : (Monomial → Monomial → Comparison) → ℕ → Result Division → Result Parts
sorted_parts order p x = x >>= λ d. done (parts_by order p d)

-- a vector divided by the elements of the state that the words hold, within k steps
abbrev pub divided_over : Words → ℕ → Vector → Result Parts
divided_over s k v =
    sorted_parts (stage_at usual s 0).above (stage_at usual s 0).reduction.p (divide (stage_at usual s 0) k (undivided v))

abbrev pub Few : CodeResult Divided Refusal → Type 0
Few (Ok d) = (d.quotients ≤ most_terms) × (d.remainder ≤ most_terms)
Few (Err e) = Unit {0}
