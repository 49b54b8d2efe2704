-- What an addition answers.
use Rattle.std.specs.Prelude.{[], ℕ, suc, ◌+◌, ◌-◌, ◌≤◌, leb, eqb, length, take, Result as CodeResult, Ok, Err}
use Rattle.definitions.specs.Limits.{document_01}
use Rattle.definitions.specs.Lists.{count}
use Rattle.definitions.specs.Monomial.{Vector}
use Rattle.definitions.specs.Result.{Result, done, refused, unless_refused, ◌>>=◌}
use Rattle.definitions.specs.Problem.{Bytes, newline}
use Rattle.definitions.specs.Layout.{Words, level_at}
use Rattle.definitions.specs.Completing.{with_value}
use Rattle.definitions.specs.Places.{file_length, most_rows}
use Rattle.state.specs.soundness.Places.{parameters_at}
use Rattle.words.specs.declared.refusals.Refused.{Refused}
use Rattle.words.specs.refusals.Numbers.{number_of}

-- the longer file in front of the buffer, or a refusal
abbrev pub added_of : CodeResult ℕ Refused → Bytes → Result Bytes
added_of (Ok r) out = done (take r out)
added_of (Err e) out = refused (number_of e.refusal) e.place []

abbrev pub Short : CodeResult ℕ Refused → Type 0
Short (Ok r) = r ≤ file_length
Short (Err e) = Unit {0}

-- the lines among the first bytes, so many of them, that are no T lines
abbrev pub heads_in : Bytes → ℕ → ℕ → ℕ
heads_in out at terms = count (λ b. eqb b newline) (take at out) - terms

-- the tests of a result behind 19
abbrev pub tests_at : ℕ → ℕ → Bytes → Result Bytes
tests_at heads total longer =
    unless_refused (leb (length longer) file_length) 1 0 >>= λ u₂.
    unless_refused (leb total most_rows) 8 (suc (heads + most_rows)) >>= λ u₃.
    done longer

-- a value added to a file whose elements are in the words
abbrev pub added_over : Words → Bytes → Vector → Result Bytes
added_over s bytes v = with_value document_01 bytes (parameters_at s, level_at document_01 s 0) v
