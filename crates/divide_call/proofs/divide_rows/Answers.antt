use native.Mathlib.Omega.{arith}
use mathlib.Core.Path.{◌≡◌, sym, ap, ◌∙◌, subst}
use lib.Dec.{T}
use lib.ListN.{length}
use Rattle.definitions.specs.Layout.{rows, rows_of, padded}
use Rattle.ending.specs.Good.{good?}
use Rattle.level.proofs.by_runs.OverGround.{shown_rows}
use Rattle.dividing.specs.over.Parts.{divided_over}
use Rattle.divide_call.proofs.divide_rows.Goals as goal

pub divide_vector-requires : goal.divide_vector-requires
divide_vector-requires c =
    let a =
    c.args in
    let asked =
    c.requires in
    let show = c.show in
    let work = show.new.work in
    let vector = a.vector.now in
    let is : work ≡ padded (length work) (rows_of (rows vector 0 a.n)) =
    show.ensures ∙ ap (λ k. padded k (rows_of (rows vector 0 a.n))) (sym show.auto.work) in
    let same = shown_rows vector work a.n is in (
      asked.0,
      omega (arith, show.auto.work),
      asked.3,
      asked.4,
      asked.1,
      subst (λ v. T (good? v)) (sym same) asked.5,
    )

pub returns : goal.returns
returns c =
    let a =
    c.args in
    let show =
    c.show in
    let divided = c.divide_vector in
    let work = show.new.work in
    let vector = a.vector.now in
    let is : work ≡ padded (length work) (rows_of (rows vector 0 a.n)) =
    show.ensures ∙ ap (λ k. padded k (rows_of (rows vector 0 a.n))) (sym show.auto.work) in
    let same = shown_rows vector work a.n is in (
      (divided.ensures.0.0, divided.ensures.0.1 ∙ ap (divided_over a.state.now divided.ensures.0.0) same),
      divided.ensures.1,
    )
