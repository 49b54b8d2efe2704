-- What the lent slices mean to a run: the stage, the strategy, the run so far; and the code's answers as the definitions' ones.
use Rattle.std.specs.Prelude.{Bool, true, false, ℕ, ◌-◌, ◌*◌, ◌≤◌, length, Result as CodeResult, Ok, Err}
use Rattle.definitions.specs.Monomial.{Exponents, Monomial, Vector, Level, vector_of}
use Rattle.definitions.specs.Order.{Comparison}
use Rattle.definitions.specs.Result.{Result, done, refused, refusal, ◌>>=◌}
use Rattle.definitions.specs.Vectors.{store, descending}
use Rattle.definitions.specs.Stage.{Reduction, Stage}
use Rattle.definitions.specs.Run as definition
use Rattle.definitions.specs.Run.{Run, by_code, add_products, on}
use Rattle.definitions.specs.Layout.{Words, rows}
use Rattle.definitions.specs.Places.{row_length, image_length}
use Rattle.orders.specs.Images.{table_of, table_order, Tabled}
use Rattle.vectors.specs.terms.Rows.{closed}
use Rattle.runs.specs.reduction.Grounds.{reduction_of, family_of, ends_in, below_in}
use Rattle.runs.specs.declared.reduction.Ground.{Ground}
use Rattle.runs.specs.declared.run.Strategy.{Strategy}
use Rattle.runs.specs.declared.run.Step.{Step}
use Rattle.runs.specs.declared.run.Step.TheVariants.{On, Stopped as StepStopped}
use Rattle.runs.specs.declared.run.Outcome.{Outcome}
use Rattle.runs.specs.declared.run.Outcome.TheVariants.{Finished, Stopped}
use Rattle.words.specs.declared.refusals.Refusal.{Refusal}
use Rattle.words.specs.refusals.Numbers.{number_of}

-- the order of the module where working values live
abbrev pub order_of : Ground → Words → Monomial → Monomial → Comparison
order_of g tables = table_order g.code (table_of g.images (below_in tables))

abbrev pub stage_of : Ground → Words → Words → (Monomial → Monomial → Comparison) → Stage
stage_of g level tables above = record {
  reduction = reduction_of g tables;
  family = family_of g level (ends_in tables);
  below =
      order_of g tables;
  above = above;
}

abbrev pub strategy_of : Ground → Words → Strategy → definition.Strategy
strategy_of g tables w = record { drops = w.drops; pick = by_code (order_of g tables) w.pick; stops = w.stops }

abbrev pub run_of : Words → ℕ → Words → ℕ → Run
run_of value n vector v = record { value = rows value 0 n; vector = rows vector 0 v }

-- a table of images
pub record Images (n : ℕ) (table : Words) : Type 0 where
  pub fits : n * image_length ≤ length table
  pub tabled : Tabled n table

-- each has its own room; the vector's has room for the value, too, since one without a reducer is sorted there
pub record Rooms (g : Ground) (value vector : Words) : Type 0 where
  pub value_fits : g.working * row_length ≤ length value
  pub vector_fits : g.vector * row_length ≤ length vector
  pub left_fits : g.working * row_length ≤ length vector

-- ## A step

-- the part of a step that has found its reducer
abbrev pub reduced_by : Reduction → Level → Bool → Run → ℕ → ℕ → Exponents → Result definition.Step
reduced_by R f drops r j c q =
    store R.limits.vector R.p (c, (q, j)) r.vector >>= λ v.
    add_products R drops c q (vector_of f j) r.value >>= λ w.
    done (on (record { value = w; vector = v }))

-- the other part: the picked term, at place i, has no reducer
abbrev pub without_step : Bool → ℕ → ℕ → Step
without_step true n v = StepStopped n
without_step false n v = On (n - 1) v

abbrev pub without_words : Bool → Words → ℕ → ℕ → Words
without_words true s n i = s
without_words false s n i = closed s (i * row_length) (n * row_length - row_length)

abbrev pub step_of : (Monomial → Monomial → Comparison) → ℕ → CodeResult Step Refusal → Words → Words → Result definition.Step
step_of order p (Ok (On n v)) value vector = done (on (run_of value n vector v))
step_of order p (Ok (StepStopped n)) value vector = refused 9 0 (descending order p (rows value 0 n))
step_of order p (Err e) value vector = refusal (number_of e)

abbrev pub Room : Ground → CodeResult Step Refusal → Type 0
Room g (Ok (On n v)) = (n ≤ g.working) × (v ≤ g.vector)
Room g (Ok (StepStopped n)) = n ≤ g.working
Room g (Err e) = Unit {0}

-- ## A run

-- not sorted yet
abbrev pub ended_of : (Monomial → Monomial → Comparison) → (Monomial → Monomial → Comparison) → ℕ → CodeResult Outcome Refusal → Words → Words
    → Result Vector
ended_of order above p (Ok (Finished v)) value vector = done (descending above p (rows vector 0 v))
ended_of order above p (Ok (Stopped n)) value vector = refused 9 0 (descending order p (rows value 0 n))
ended_of order above p (Err e) value vector = refusal (number_of e)

-- sorted, in the vector's place
abbrev pub outcome_of : CodeResult Outcome Refusal → Words → Result Vector
outcome_of (Ok (Finished v)) vector = done (rows vector 0 v)
outcome_of (Ok (Stopped n)) vector = refused 9 0 (rows vector 0 n)
outcome_of (Err e) vector = refusal (number_of e)

abbrev pub Ended : Ground → CodeResult Outcome Refusal → Type 0
Ended g (Ok (Finished v)) = v ≤ g.vector
Ended g (Ok (Stopped n)) = n ≤ g.working
Ended g (Err e) = Unit {0}
