-- Reading as a call of its own: 16 comes first and changes no word of the state.
use Rattle.std.specs.Prelude.{ℕ, ltb, length}
use Rattle.definitions.specs.Limits.{document_01}
use Rattle.definitions.specs.Lists.{choose}
use Rattle.definitions.specs.Problem.{Bytes, problem}
use Rattle.definitions.specs.Layout.{Words}
use Rattle.definitions.specs.Places.{state_length}
use Rattle.reader.specs.problem.Reading.{read_as}

abbrev pub called : Bytes → Words → ℕ × ℕ × Words
called file state = choose (ltb (length state) state_length) (16, 0, state) (read_as (length state) (problem document_01 file))
