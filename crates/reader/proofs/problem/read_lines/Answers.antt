use native.Mathlib.Omega.{arith}
use mathlib.Core.Path.{sym, ap, ◌∙◌}
use lib.ListN.{length, drop}
use Rattle.std.proofs.lemmas.Result.{err_from_is_err_and}
use Rattle.laws.proofs.Results.{if_done_says}
use Rattle.words.specs.parameters.Values.{parameters_of}
use Rattle.words.specs.refusals.Numbers.{number_of}
use Rattle.reader.specs.lines.Steps.{Opened, HeadSaid, head_first}
use Rattle.reader.specs.problem.Reading.{body_words}
use Rattle.reader.proofs.lines.HeadAnswers.{Opens, head_opens}
use Rattle.reader.proofs.problem.Answering.{begun_behind, begun_words, read_barred, read_on}
use Rattle.reader.proofs.problem.read_lines.Goals as goal

pub returns-in_err-head : goal.returns-in_err-head
returns-in_err-head c =
    let a = c.args in let e = c.in_err-head.field-0.0 in
    let p = err_from_is_err_and c.from_residual.result c.from_residual.ensures.1 in
    rw (p.1, p.2) (read_barred (length a.state.now) a.file.now (number_of e.refusal) e.place (sym c.in_err-head.ensures))

pub body-requires : goal.body-requires
body-requires c =
    let a = c.args in let file = a.file.now in let h = c.in_ok-head.head in let e = c.begin.ensures in
    let q = parameters_of h.parameters in
    let said : Opened HeadSaid = ((q, h.degrees, h.weights), h.place, drop h.next file) in
    let opens = if_done_says Opens (head_first file) (head_opens file) said (sym c.in_ok-head.ensures) in (
      opens.said.variables,
      opens.place,
      omega arith,
      begun_words a.state.now _ q h.degrees c.requires.1 c.requires.0 e.1 e.0,
    )

pub returns : goal.returns
returns c =
    let a = c.args in let file = a.file.now in let h = c.in_ok-head.head in let e = c.begin.ensures in
    let q = parameters_of h.parameters in
    let said : Opened HeadSaid = ((q, h.degrees, h.weights), h.place, drop h.next file) in
    c.body.ensures
    ∙ ap (λ b. body_words b q h.place (drop h.next file)) (begun_behind a.state.now _ q h.degrees c.requires.1 c.requires.0 e.1 e.0)
    ∙ read_on (length a.state.now) file said (sym c.in_ok-head.ensures)
