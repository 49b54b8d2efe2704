use native.Mathlib.Omega.{arith}
use mathlib.Core.Path.{◌≡◌, refl, sym, ap, ◌∙◌}
use lib.ListN.{length}
use Rattle.words.specs.refusals.Numbers.{number_of}
use Rattle.words.proofs.Numbered.{number_positive}
use Rattle.level.proofs.all_levels.Basis.{based, whole_is}
use Rattle.read_call.proofs.ReadCall.{read_accepted, read_over, file_refused}
use Rattle.read_call.specs.Replies.{read_said}
use Rattle.reader.proofs.problem.Answering.{zero_is_read}
use Rattle.reader.specs.problem.Reading.{read_as, words_read}
use Rattle.read_call.proofs.read_file.Goals as goal

pub accept-requires : goal.accept-requires
accept-requires c =
    let a = c.args in let P = c.requires in let size = length a.state.now in let file = a.file.now in
    let r = c.read in let said = c.in_default.ensures in
    let zero = zero_is_read size file (sym (ap (λ t. t.0) said)) in
    let f = zero.0 in
    let words : r.new.state ≡ words_read size f = ap (λ t. t.2) (said ∙ ap (read_as size) zero.1) in
    (based size P.0 file f zero.1 r.new.state words, whole_is size P.0 file f zero.1 r.new.state words, omega (arith, P.1))

pub returns : goal.returns
returns c =
    let a = c.args in let P = c.requires in let size = length a.state.now in let file = a.file.now in
    let r = c.read in let said = c.in_default.ensures in
    let zero = zero_is_read size file (sym (ap (λ t. t.0) said)) in
    let f = zero.0 in
    let words : r.new.state ≡ words_read size f = ap (λ t. t.2) (said ∙ ap (read_as size) zero.1) in
    let x = c.accept in (
      x.ensures.0,
      read_accepted size P.0 file f zero.1 r.new.state words (length a.work.now) x.ensures.0
          (read_said x.result x.new.state x.new.work) x.ensures.1,
      read_over size P.0 file f zero.1 r.new.state words x.ensures.0 x.ensures.2,
    )

pub returns-in-Err : goal.returns-in-Err
returns-in-Err c =
    let a = c.args in let P = c.requires in let e = c.in-Err.refused in let s = c.read.new.state in
    let number = number_of e.refusal in
    let z = file_refused (length a.state.now) (length a.work.now) P.0 a.file.now number e.place s
    (λ q. omega (arith, q, number_positive e.refusal)) c.in-Err.ensures a.work.now refl in
    (0, ap (λ w. (number, e.place, s, w)) c.clear.ensures ∙ z.words, z.over)
