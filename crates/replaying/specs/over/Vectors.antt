-- A replayed vector in the rows of a slice, and what is replayed of a frame term.
use Rattle.std.specs.Prelude.{List, [], ℕ, ◌≤◌, Result as CodeResult, Ok, Err}
use Rattle.definitions.specs.Limits.{document_01}
use Rattle.definitions.specs.Monomial.{Monomial, Vector}
use Rattle.definitions.specs.Result.{Result, done, refused, at_level, ◌>>=◌}
use Rattle.definitions.specs.Stage.{Stage}
use Rattle.definitions.specs.Run.{start, hybrid_strategy}
use Rattle.definitions.specs.Problem.{Line}
use Rattle.definitions.specs.Replay.{p_lines}
use Rattle.definitions.specs.Places.{most_picks}
use Rattle.definitions.specs.Places.{most_terms}
use Rattle.definitions.specs.Layout.{Words, rows}
use Rattle.words.specs.declared.refusals.Refused.{Refused}
use Rattle.words.specs.refusals.Numbers.{number_of}

-- descending, as it is printed
abbrev pub vector_as : CodeResult ℕ Refused → Words → Result Vector
vector_as (Ok u) vector = done (rows vector 0 u)
vector_as (Err e) vector = refused (number_of e.refusal) e.place []

-- the frame term m of level k by these lines, the first at the place
abbrev pub replay_term : Stage → ℕ → ℕ → ℕ → Monomial → List Line → Result Vector
replay_term S n k place m ls =
    at_level k (start S (hybrid_strategy S 2) m) >>= λ r. p_lines most_picks S document_01.field n k place 0 r ls

abbrev pub Few : CodeResult ℕ Refused → Type 0
Few (Ok u) = u ≤ most_terms
Few (Err e) = Unit {0}
