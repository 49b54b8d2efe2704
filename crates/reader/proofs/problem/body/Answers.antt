use native.Mathlib.Omega.{arith}
use mathlib.Core.Path.{◌≡◌, refl, sym, ap, ◌∙◌, subst}
use mathlib.Core.List.{[]}
use Prim.Native.Nat.{◌+◌, ◌<◌}
use lib.ListN.{drop, get_or}
use Rattle.std.proofs.Common.{Ok}
use Rattle.std.proofs.lemmas.Result.{err_from_is_err_and}
use Rattle.definitions.specs.Limits.{document_01}
use Rattle.definitions.specs.Problem.{lines, body}
use Rattle.words.specs.parameters.Values.{parameters_of}
use Rattle.words.specs.refusals.Numbers.{number_of}
use Rattle.reader.proofs.problem.WordsSoFar.{SoFar}
use Rattle.reader.proofs.problem.WordsSoFar.{none_so_far, one_more, goes_on_term, goes_on_end, goes_on_refused}
use Rattle.reader.proofs.problem.LineByLine.{Passed, line_passed}
use Rattle.reader.proofs.problem.OneTermMore.{follows_says}
use Rattle.reader.specs.declared.lines.Taken.{Taken}
use Rattle.reader.specs.lines.Steps.{line_first, taken_as}
use Rattle.reader.specs.lines.Tests.{term_in, begins?}
use Rattle.laws.proofs.Results.{if_done_says}
use Rattle.definitions.specs.Problem.{with_term}
use Rattle.definitions.specs.Result.{done}
use Rattle.definitions.specs.Places.{most_rows, degrees_start}
use borrow.Author.Tests.{ltb-true}
use lib.ListN.{replicate}
use mathlib.Core.Option.{some}
use Rattle.reader.proofs.problem.body.Goals as goal

pub loop-line-init : goal.loop-line-init
loop-line-init c =
    let a = c.args in let q = parameters_of a.q in let z : a.first ≡ 0 + a.first = omega arith in (
      omega arith,
      refl,
      (
        [],
        none_so_far q (drop degrees_start a.state.now) (replicate 16 0) a.state.now c.requires.3,
        ap (λ n. body document_01 q n 0 [] (lines (drop a.from a.file.now))) z,
      ),
    )

pub store-requires : goal.store-requires
store-requires c =
    let a = c.args in let l = c.loop-line in let file = a.file.now in let q = parameters_of a.q in
    let w = c.in-Term.line.numbers in let next = c.in-Term.line.next in
    let said : line_first q (l.count + a.first) l.count l.elements l.before (drop l.at file) ≡ done (some (w, drop next file)) =
    sym c.in_ok-line.ensures ∙ ap (λ (x : Taken). taken_as (Ok x) file) c.in-Term.is in
    let passed = if_done_says (Passed l.count l.elements) (line_first q (l.count + a.first) l.count l.elements l.before (drop l.at file))
    (line_passed q (l.count + a.first) l.count l.elements l.before (drop l.at file)) (some (w, drop next file)) said in
    let room : l.count < most_rows = ltb-true l.count most_rows passed.0 in
    (omega arith, omega arith, (follows_says l.elements (get_or w 0 0) (begins? l.elements (get_or w 0 0)) refl passed.1).2, passed.2)

pub loop-line-smaller : goal.loop-line-smaller
loop-line-smaller c =
    let a = c.args in let l = c.loop-line in let file = a.file.now in let q = parameters_of a.q in
    let w = c.in-Term.line.numbers in let next = c.in-Term.line.next in
    let said : line_first q (l.count + a.first) l.count l.elements l.before (drop l.at file) ≡ done (some (w, drop next file)) =
    sym c.in_ok-line.ensures ∙ ap (λ (x : Taken). taken_as (Ok x) file) c.in-Term.is in
    let passed = if_done_says (Passed l.count l.elements) (line_first q (l.count + a.first) l.count l.elements l.before (drop l.at file))
    (line_passed q (l.count + a.first) l.count l.elements l.before (drop l.at file)) (some (w, drop next file)) said in
    let room : l.count < most_rows = ltb-true l.count most_rows passed.0 in
    omega arith

pub loop-line-preserved : goal.loop-line-preserved
loop-line-preserved c =
    let a = c.args in let l = c.loop-line in let file = a.file.now in let q = parameters_of a.q in
    let w = c.in-Term.line.numbers in let next = c.in-Term.line.next in let behind = drop degrees_start a.state.now in
    let said : line_first q (l.count + a.first) l.count l.elements l.before (drop l.at file) ≡ done (some (w, drop next file)) =
    sym c.in_ok-line.ensures ∙ ap (λ (x : Taken). taken_as (Ok x) file) c.in-Term.is in
    let passed = if_done_says (Passed l.count l.elements) (line_first q (l.count + a.first) l.count l.elements l.before (drop l.at file))
    (line_passed q (l.count + a.first) l.count l.elements l.before (drop l.at file)) (some (w, drop next file)) said in
    let room : l.count < most_rows = ltb-true l.count most_rows passed.0 in
    let f = l.invariant.2.0 in (
      omega arith,
      omega arith,
      (
        with_term (begins? l.elements (get_or w 0 0)) f (term_in w),
        subst (λ z. SoFar q behind (with_term (begins? l.elements (get_or w 0 0)) f (term_in w)) (l.count + 1) (get_or w 0 0) w z)
            (sym c.store.ensures)
            (one_more q behind f l.count l.elements l.before l.state l.invariant.2.1 w room passed.1),
        goes_on_term q behind f l.count l.elements l.before l.state l.invariant.2.1 a.first
            c.requires.0 (drop a.from file) (drop l.at file) l.invariant.2.2 w (drop next file) said,
      ),
    )

pub returns-in_err-line : goal.returns-in_err-line
returns-in_err-line c =
    let a = c.args in let l = c.loop-line in let file = a.file.now in let q = parameters_of a.q in let e = c.in_err-line.field-0.0 in
    let p = err_from_is_err_and c.from_residual.result c.from_residual.ensures.1 in
    rw (p.1, p.2) (goes_on_refused q (drop degrees_start a.state.now) l.invariant.2.0 l.count l.elements l.before l.state l.invariant.2.1 a.first
    c.requires.0 (drop a.from file) (drop l.at file) l.invariant.2.2 (number_of e.refusal) e.place (sym c.in_err-line.ensures))

pub returns : goal.returns
returns c =
    let a = c.args in let l = c.loop-line in let file = a.file.now in let q = parameters_of a.q in
    goes_on_end q (drop degrees_start a.state.now) l.invariant.2.0 l.count l.elements l.before l.state l.invariant.2.1 a.first
    c.requires.0 (drop a.from file) (drop l.at file) l.invariant.2.2
    (sym c.in_ok-line.ensures ∙ ap (λ (x : Taken). taken_as (Ok x) file) c.in_default.is)
