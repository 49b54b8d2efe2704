use borrow.Author.Rules.{rules}
use native.Mathlib.Omega.{arith}
use mathlib.Core.Path.{sym, ap, ◌∙◌}
use mathlib.Core.List.{[], ◌∷◌, ◌++◌}
use Prim.Native.Nat.{◌+◌}
use lib.ListN.{length, get_or, take}
use Rattle.definitions.specs.Limits.{document_01}
use Rattle.definitions.specs.Problem.{letter_E}
use Rattle.definitions.specs.Sheet.{printed}
use Rattle.definitions.specs.Written.{element_lines}
use Rattle.definitions.specs.Completing.{monic}
use Rattle.definitions.specs.Layout.{rows, level_at}
use Rattle.laws.proofs.Rows.{length_rows}
use Rattle.reducers.specs.tables.Cuts.{start_of}
use Rattle.state.specs.soundness.Places.{parameters_at, ends_from}
use Rattle.pages.proofs.bytes.Spelling.{spelled}
use Rattle.completing.proofs.adding.Longer.{no_room, added_is}
use Rattle.completing.proofs.adding.Elements.{elements_are, few_elements, terms_are, few_terms}
use Rattle.completing.proofs.adding.add.Goals as goal

pub overflow_add-result : goal.overflow_add-result
overflow_add-result c =
    omega (
      arith,
      c.count_of-r.ensures,
      few_elements c.args.state.now
          c.requires.0,
    )

pub returns-then-most-r : goal.returns-then-most-r
returns-then-most-r c =
    let a = c.args in
    let s = a.state.now in
    let e = elements_are s c.requires.0 in
    let r = c.count_of-r.ensures in
    let most = c.place-most.ensures.0 in (
      no_room (take a.size a.out.now) (parameters_at s) (level_at document_01 s 0) (rows a.work.now 0 a.m) _ (omega (arith, e, r))
          (omega (arith, e, r, most)),
      tt,
    )

pub end_of-count-requires : goal.end_of-count-requires
end_of-count-requires c =
    let s = c.args.state.now in
    let b = c.requires.0 in
    (b.long, omega arith, omega (arith, c.count_of-r.ensures, few_elements s b))

pub front-at-requires : goal.front-at-requires
front-at-requires c =
    let s = c.args.state.now in
    let b = c.requires.0 in
    let t = c.end_of-count.ensures ∙ ap (start_of (ends_from s 0)) c.count_of-r.ensures ∙ sym (terms_are s b) in
    omega (arith, t, few_terms s b)

pub overflow_add-r : goal.overflow_add-r
overflow_add-r c =
    omega (
      arith,
      c.count_of-r.ensures,
      few_elements c.args.state.now
          c.requires.0,
    )

pub overflow_add-total : goal.overflow_add-total
overflow_add-total c =
    let s = c.args.state.now in
    let b = c.requires.0 in
    let t = c.end_of-count.ensures ∙ ap (start_of (ends_from s 0)) c.count_of-r.ensures ∙ sym (terms_are s b) in
    omega (arith, t, few_terms s b, c.requires.3)

pub overflow_cast-total : goal.overflow_cast-total
overflow_cast-total c =
    let s = c.args.state.now in
    let b = c.requires.0 in
    let t = c.end_of-count.ensures ∙ ap (start_of (ends_from s 0)) c.count_of-r.ensures ∙ sym (terms_are s b) in
    omega (arith, t, few_terms s b, c.requires.3)

pub write-end-requires : goal.write-end-requires
write-end-requires c =
    let P = c.requires in
    (P.0, P.2, P.3, omega (arith, c.front-at.ensures.1, P.1, P.3, P.4))

pub test-requires : goal.test-requires
test-requires c =
    let P = c.requires in
    let w = c.write-end in
    let at = c.front-at.ensures.1 in
    (omega (arith, w.ensures.0.ends), omega (arith, w.ensures.1, at, P.1, P.3, P.4, w.auto.out), omega (arith, at, P.1))

pub returns : goal.returns
returns c =
    let a = c.args in
    let P = c.requires in
    let s = a.state.now in
    let b = P.0 in
    let r = c.count_of-r.ensures in
    let n = c.end_of-count.result in
    let t = c.end_of-count.ensures ∙ ap (start_of (ends_from s 0)) r
    ∙ sym (terms_are s b) in
    let e = elements_are s b in
    let v = rows a.work.now 0 a.m in
    let w = c.write-end in
    let x = c.test.ensures in
    let lines = w.ensures.0 in (
      added_is a.out.now w.new.out a.size c.front-at.result w.result
          c.count_of-r.result n
          (n + a.m)
          (parameters_at s)
          (level_at document_01 s 0) v (omega (arith, P.1, P.4)) (omega (arith, e, r)) (sym t) (omega (arith, length_rows a.work.now 0 a.m))
          c.front-at.ensures.0 lines (omega (
            arith,
            c.place-most.ensures.0,
          )) _ x.0,
      x.1,
    )
