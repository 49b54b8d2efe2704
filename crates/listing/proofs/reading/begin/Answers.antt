use borrow.Author.Rules.{rules}
use native.Mathlib.Omega.{arith}
use mathlib.Core.Path.{◌≡◌, sym, ap, ◌∙◌}
use lib.ListN.{length}
use Rattle.definitions.specs.Limits.{document_01}
use Rattle.definitions.specs.Problem.{problem}
use Rattle.definitions.specs.Calls.{read}
use Rattle.definitions.specs.Sheet.{variables_of}
use Rattle.words.specs.refusals.Numbers.{number_of}
use Rattle.reader.specs.problem.Reading.{read_as, words_read}
use Rattle.reader.proofs.problem.Answering.{zero_is_read}
use Rattle.level.proofs.all_levels.Basis.{based}
use Rattle.listing.proofs.reading.Refusals.{stops_alone, begun_by, read_refused}
use Rattle.listing.proofs.reading.begin.Goals as goal

pub accept-requires : goal.accept-requires
accept-requires c =
    let a = c.args in
    let P = c.requires in
    let told = c.in_default.ensures in
    let size = length a.state.now in
    let file = a.file.now in
    let zero = zero_is_read size file (sym (ap (λ t. t.0) told)) in
    let f = zero.0 in
    let s = c.read.new.state in
    let words : s ≡ words_read size f = ap (λ t. t.2) (told ∙ ap (read_as size) zero.1) in
    (based size P.0 file f zero.1 s words, omega (arith, P.1), omega (arith, P.2))

pub returns-in-Err : goal.returns-in-Err
returns-in-Err c =
    let a = c.args in
    let e = c.in-Err.refused in
    let q = c.x_line.ensures in
    let file = a.file.now in
    stops_alone (λ n. read document_01 n file) (variables_of (problem document_01 file)) a.out.now _ _ 0 (number_of e.refusal) e.place
    (read_refused (length a.state.now) file e c.read.new.state c.in-Err.ensures) q.0 (omega (arith, q.1))

pub returns : goal.returns
returns c =
    let a = c.args in
    let P = c.requires in
    let told = c.in_default.ensures in
    let b = c.accept in
    let size = length a.state.now in
    let file = a.file.now in
    let zero = zero_is_read size file (sym (ap (λ t. t.0) told)) in
    let f = zero.0 in
    let s = c.read.new.state in
    let words : s ≡ words_read size f = ap (λ t. t.2) (told ∙ ap (read_as size) zero.1) in
    begun_by size P.0 file f zero.1 s words b.result a.out.now b.new.out b.ensures
