-- One V line from the bytes that are left, and what the code says of all of them.
use Rattle.std.specs.Prelude.{Bool, true, [], ◌∷◌, ℕ, zero, suc, ◌+◌, ◌≤◌, ltb, take, Result as CodeResult, Ok, Err}
use Rattle.std.proofs.Math.Option.{Option, none, some}
use Rattle.definitions.specs.Limits.{document_01}
use Rattle.definitions.specs.Lists.{◌and◌}
use Rattle.definitions.specs.Monomial.{Vector}
use Rattle.definitions.specs.Result.{Result, done, refused}
use Rattle.definitions.specs.Problem.{Bytes, Parameters, term_in_range?}
use Rattle.definitions.specs.Membership.{letter_V}
use Rattle.definitions.specs.Layout.{Words, rows}
use Rattle.definitions.specs.Places.{most_terms}
use Rattle.reader.specs.fields.Scanning.{kept, shaped_first, in_sixteen}
use Rattle.reader.specs.lines.Tests.{term_in, above?}

-- a term before it is the greater one; the first has none
abbrev pub follows? : ℕ → ℕ → Words → Words → Bool
follows? code zero before w = true
follows? code (suc count) before w = above? code before w

-- not 23, after the shape: the numbers as those of a T line, after so many terms
abbrev pub fits? : Parameters → ℕ → Words → Words → Bool
fits? q count before w = term_in_range? document_01 q (term_in w) and follows? q.code count before w and ltb count most_terms

abbrev pub tested : Parameters → ℕ → Words → Option (Words × Bytes) → Option (Words × Bytes)
tested q count before none = none
tested q count before (some line) = kept (fits? q count before (0 ∷ take 15 line.0)) (some (0 ∷ take 15 line.0, line.1))

-- `V,coefficient,component,e1,..,en`: its numbers, and what stands behind it; none for a bad line
abbrev pub v_first : Parameters → ℕ → Words → Bytes → Option (Words × Bytes)
v_first q count before bytes = tested q count before (in_sixteen (shaped_first 65535 letter_V (2 + q.n) bytes))

-- ## What the code says

abbrev pub brought_as : CodeResult ℕ ℕ → Words → Result Vector
brought_as (Ok n) value = done (rows value 0 n)
brought_as (Err place) value = refused 23 place []

abbrev pub Few : CodeResult ℕ ℕ → Type 0
Few (Ok n) = n ≤ most_terms
Few (Err place) = Unit {0}
