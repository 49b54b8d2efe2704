use native.Mathlib.Omega.{arith}
use mathlib.Core.Path.{sym, ◌∙◌}
use lib.ListN.{length}
use Rattle.reader.specs.problem.Reading.{read_as}
use Rattle.definitions.specs.Problem.{problem}
use Rattle.definitions.specs.Lists.{choose}
use Rattle.definitions.specs.Limits.{document_01}
use Rattle.definitions.specs.Places.{state_length}
use borrow.Author.Tests.{lt-ltb, le-ltb}
use Rattle.testing.proofs.reading.reader_read.Goals as goal

pub returns-then-state-lt-STATE_LENGTH : goal.returns-then-state-lt-STATE_LENGTH
returns-then-state-lt-STATE_LENGTH c =
    let a = c.args in let s = a.state.now in
    sym (λ i. choose (lt-ltb (length s) state_length (omega arith) i) (16, 0, s) (read_as (length s) (problem document_01 a.file.now)))

pub returns-in_default : goal.returns-in_default
returns-in_default c =
    let a = c.args in let s = a.state.now in
    c.in_default.ensures ∙ sym (λ i. choose (le-ltb (length s) state_length (omega arith) i) (16, 0, s)
    (read_as (length s) (problem document_01 a.file.now)))

pub returns : goal.returns
returns c =
    let a = c.args in let s = a.state.now in
    (λ i. (c.number.ensures i, c.in-Err.refused.place, c.read.new.state)) ∙ c.in-Err.ensures
    ∙ sym (λ i. choose (le-ltb (length s) state_length (omega arith) i) (16, 0, s) (read_as (length s) (problem document_01 a.file.now)))
