use native.Mathlib.Omega.{arith}
use mathlib.Core.Path.{sym, ap, ◌∙◌, subst}
use Prim.Native.Nat.{◌-◌}
use lib.ListN.{length, take, drop}
use Rattle.definitions.specs.Places.{rows_start}
use Rattle.orders.specs.Images.{table_of, table_order}
use Rattle.state.proofs.soundness.VectorByVector.{whole_part}
use Rattle.runs.specs.reduction.Grounds.{above_in, Tables}
use Rattle.runs.specs.run.Stages.{Images}
use Rattle.level.specs.by_runs.Stages.{usual, ground_at}
use Rattle.level.proofs.by_runs.GroundOfLevel.{tables_at, images_above}
use Rattle.std.specs.Prelude.{Ok, Err}
use Rattle.std.proofs.lemmas.Result.{err_from_is_err_and}
use Rattle.words.specs.refusals.Numbers.{number_of}
use Rattle.definitions.specs.Result.{refusal}
use Rattle.dividing.specs.over.Parts.{parts_as, sorted_parts, Few}
use Rattle.dividing.proofs.over.Dividing.{over_ground, parts_over, few_left}
use Rattle.dividing.proofs.over.divide_with.Goals as goal

pub divide-requires : goal.divide-requires
divide-requires c =
    let a = c.args in
    let P = c.requires in
    let s = a.state.now in
    let is = c.ground_of-g.ensures ∙ ap (λ b. ground_at b s 0) c.usual.ensures in
    over_ground s P.0 a.tables.now P.1 c.ground_of-g.result (take (length s - rows_start) (drop rows_start s)) is (whole_part rows_start s)
    a.value.now a.quotients.now a.remainder.now a.n P.2 P.3 P.4 P.5 P.6

pub sorted-requires : goal.sorted-requires
sorted-requires c =
    let a = c.args in
    let P = c.requires in
    let s = a.state.now in
    let is = c.ground_of-g.ensures ∙ ap (λ b. ground_at b s 0) c.usual.ensures in (
      subst (λ g. Tables g a.tables.now) (sym is) (tables_at s 0 P.0 usual a.tables.now P.1),
      subst (λ g. Images g.r (above_in a.tables.now)) (sym is) (images_above s 0 P.0 a.tables.now P.1),
      omega (arith, P.3, ap (λ g. g.vector) is),
      c.in_ok-x.ensures.1,
    )

pub returns-in_err-x : goal.returns-in_err-x
returns-in_err-x c =
    let a = c.args in
    let P = c.requires in
    let s = a.state.now in
    let is = c.ground_of-g.ensures ∙ ap (λ b. ground_at b s 0) c.usual.ensures in
    let d = c.divide in
    let g = c.ground_of-g.result in
    let above = table_order g.code (table_of g.r (above_in a.tables.now)) in
    let told = c.in_err-x.ensures.0 above in
    let p = err_from_is_err_and c.from_residual.result c.from_residual.ensures.1 in
    let left = p.1 ∙ ap Err p.2 in (
      (
        told.0,
        ap (λ y. parts_as y d.new.quotients d.new.remainder) left
            ∙ parts_over s P.0 a.tables.now P.1 g (take (length s - rows_start) (drop rows_start s)) is (whole_part rows_start s) told.0
            a.value.now a.n a.quotients.now a.remainder.now (refusal (number_of c.in_err-x.field-0.0)) (ap (sorted_parts above g.p) told.1),
      ),
      subst Few (sym left) tt,
    )

pub returns : goal.returns
returns c =
    let a = c.args in
    let P = c.requires in
    let s = a.state.now in
    let is = c.ground_of-g.ensures ∙ ap (λ b. ground_at b s 0) c.usual.ensures in
    let d = c.divide in
    let y = c.sorted in
    let g = c.ground_of-g.result in
    let above = table_order g.code (table_of g.r (above_in a.tables.now)) in
    let told = c.in_ok-x.ensures.0 above in (
      (
        told.0,
        parts_over s P.0 a.tables.now P.1 g (take (length s - rows_start) (drop rows_start s)) is (whole_part rows_start s) told.0 a.value.now a.n
            a.quotients.now a.remainder.now (parts_as (Ok y.result) y.new.quotients d.new.remainder)
            (y.ensures.0 d.new.remainder ∙ ap (sorted_parts above g.p) told.1),
      ),
      few_left g (ap (λ g. g.working) is) (ap (λ g. g.vector) is) (Ok y.result) y.ensures.1,
    )
