use native.Mathlib.Omega.{arith}
use mathlib.Core.Path.{sym, ap, ◌∙◌}
use lib.ListN.{length, replicate}
use Rattle.reader.specs.problem.Reading.{problem_words}
use Rattle.definitions.specs.Problem.{problem}
use Rattle.definitions.specs.Limits.{document_01}
use Rattle.words.specs.refusals.Numbers.{number_of}
use Rattle.reader.proofs.problem.Answering.{cleared_zeros, cleared_length, answer_weighable, answer_done, answer_refused}
use Rattle.reader.proofs.problem.read.Goals as goal

pub read_lines-requires : goal.read_lines-requires
read_lines-requires c =
    let s = c.args.state.now in let e =
    c.clear.ensures in (omega arith, cleared_zeros s _ e ∙ ap (λ n. replicate n 0) (sym (cleared_length s _ e)))

pub carry-requires : goal.carry-requires
carry-requires c =
    let a = c.args in let s = a.state.now in let file = a.file.now in
    answer_weighable (length s) c.requires file c.read_lines.new.state
    (c.in_default.ensures ∙ ap (λ n. problem_words n file) (cleared_length s _ c.clear.ensures))

pub returns : goal.returns
returns c =
    let a = c.args in let s = a.state.now in let file = a.file.now in
    answer_done (length s) c.requires file c.read_lines.new.state
    (c.in_default.ensures ∙ ap (λ n. problem_words n file) (cleared_length s _ c.clear.ensures)) _ c.carry.ensures

pub returns-in-Err : goal.returns-in-Err
returns-in-Err c =
    let a = c.args in let s = a.state.now in let file = a.file.now in let e = c.in-Err.refused in
    answer_refused (length s) (problem document_01 file) (number_of e.refusal) e.place _
    (cleared_zeros c.read_lines.new.state _ c.clear-in-Err.ensures
    ∙ ap (λ n. replicate n 0) (c.read_lines.auto.state
    ∙ cleared_length s _ c.clear.ensures))
    (c.in-Err.ensures ∙ ap (λ n. problem_words n file) (cleared_length s _ c.clear.ensures))
