use borrow.Author.Rules.{rules}
use native.Mathlib.Omega.{arith}
use mathlib.Core.Path.{◌≡◌, sym, ap, ◌∙◌}
use lib.ListN.{length, take}
use lib.Seq.{length-take-le}
use Rattle.words.specs.refusals.Numbers.{number_of}
use Rattle.reader.specs.problem.Reading.{read_as, words_read}
use Rattle.reader.proofs.problem.Answering.{zero_is_read}
use Rattle.completing.proofs.whole.Attempts.{read_in, not_read, attempt_refused}
use Rattle.completing.proofs.whole.attempt.Goals as goal

pub slice_bounds-read-end : goal.slice_bounds-read-end
slice_bounds-read-end c = let P = c.requires in omega (arith, P.1, P.3)

pub slice_bounds-read-end-2 : goal.slice_bounds-read-end-2
slice_bounds-read-end-2 c =
    let a = c.args in
    let P = c.requires in
    sym (length-take-le a.size a.out.now (omega (arith, P.1, P.3)))

pub accept-requires : goal.accept-requires
accept-requires c =
    let a = c.args in
    let P = c.requires in
    let told = c.in-Ok.ensures in
    let size = length a.state.now in
    let file = take a.size a.out.now in
    let zero = zero_is_read size file (sym (ap (λ t. t.0) told)) in
    let s = c.read.new.state in
    let words : s ≡ words_read size zero.0 = ap (λ t. t.2) (told ∙ ap (read_as size) zero.1) in
    (omega (arith, P.0), read_in size P.0 file zero.0 zero.1 s words, P.1, P.2, P.3, P.4)

pub returns-in-Ok : goal.returns-in-Ok
returns-in-Ok c = c.accept.ensures

pub x_line-requires : goal.x_line-requires
x_line-requires c = omega (arith, c.requires.3)

pub returns-in-Err : goal.returns-in-Err
returns-in-Err c =
    let a = c.args in
    let e = c.in-Err.refused in
    let q = c.x_line.ensures in
    let file = take a.size a.out.now in
    attempt_refused file (number_of e.refusal) e.place (not_read (length a.state.now) e file c.read.new.state c.in-Err.ensures)
    a.out.now _ _ q.0 (omega (arith, q.1))
