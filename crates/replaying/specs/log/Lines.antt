-- One P line from the bytes that are left, and what the code says of it and of all of them.
use Rattle.std.specs.Prelude.{◌≡◌, List, [], ℕ, suc, ◌<◌, ◌≤◌, drop, Result as CodeResult, Ok, Err}
use Rattle.std.proofs.Math.Option.{Option}
use Rattle.definitions.specs.Monomial.{Monomial, Vector}
use Rattle.definitions.specs.Order.{Comparison}
use Rattle.definitions.specs.Result.{Result, done, refused, ◌>>=◌}
use Rattle.definitions.specs.Vectors.{descending}
use Rattle.definitions.specs.Stage.{Stage}
use Rattle.definitions.specs.Run.{Run}
use Rattle.definitions.specs.Problem.{Bytes, lines}
use Rattle.definitions.specs.Replay.{letter_P, p_line}
use Rattle.definitions.specs.Places.{most_picks}
use Rattle.definitions.specs.Layout.{Words, rows}
use Rattle.reader.specs.fields.Scanning.{behind, shaped_of}
use Rattle.runs.specs.run.Stages.{run_of}
use Rattle.runs.specs.declared.reduction.Ground.{Ground}
use Rattle.words.specs.declared.refusals.Refused.{Refused}
use Rattle.words.specs.refusals.Numbers.{number_of}

-- the first line of these bytes, and what stands behind it
abbrev pub p_first : Stage → ℕ → ℕ → ℕ → ℕ → Run → Bytes → Result (Run × Bytes)
p_first S n k place picks r bytes =
    p_line most_picks S n k place picks r (shaped_of 65535 letter_P (suc n) (lines bytes)) >>= λ r'. done (r', behind bytes)

abbrev pub turn_as : CodeResult (ℕ × ℕ × ℕ) Refused → Bytes → Words → Words → Result (Run × Bytes)
turn_as (Ok (next, m, u)) input value vector = done (run_of value m vector u, drop next input)
turn_as (Err e) input value vector = refused (number_of e.refusal) e.place []

-- the rows fit, and a line more than the limit allows is never gone behind
abbrev pub Turned : Ground → ℕ → CodeResult (ℕ × ℕ × ℕ) Refused → Type 0
Turned g picks (Ok (next, m, u)) = (m ≤ g.working) × (u ≤ g.vector) × (picks < most_picks)
Turned g picks (Err e) = Unit {0}

abbrev pub replayed_as : (Monomial → Monomial → Comparison) → ℕ → CodeResult ℕ Refused → Words → Result Vector
replayed_as above p (Ok u) vector = done (descending above p (rows vector 0 u))
replayed_as above p (Err e) vector = refused (number_of e.refusal) e.place []

abbrev pub Ended : Ground → CodeResult ℕ Refused → Type 0
Ended g (Ok u) = u ≤ g.vector
Ended g (Err e) = Unit {0}
