use native.Mathlib.Omega.{arith}
use mathlib.Core.Path.{sym, ap, ◌∙◌}
use Prim.Native.Nat.{◌-◌}
use lib.ListN.{get_or}
use Rattle.definitions.specs.Monomial.{Term}
use Rattle.definitions.specs.Stage.{Stage}
use Rattle.definitions.specs.Tree.{lift_term, lift_vector as vector_definition}
use Rattle.monomial.specs.Values.{monomial_of}
use Rattle.orders.specs.Images.{table_of, table_order}
use Rattle.runs.specs.run.Stages.{stage_of}
use Rattle.cache.specs.Entries.{cache_of}
use Rattle.tree.proofs.subtrees.Lifting.{first_stored}
use Rattle.tree.proofs.frame_terms.Filling.{whole_of}
use Rattle.runs.specs.reduction.Grounds.{first_row, ends_in, above_in}
use Rattle.tree.proofs.frame_terms.lift_frame_term.Goals as goal

pub returns : goal.returns
returns c =
    let a = c.args in
    let P = c.requires in
    let ro = c.rows_of-part in
    let pt = c.put in
    let g = a.g in
    let S : Stage = stage_of g a.level.now a.tables.now (table_order g.code (table_of g.r (above_in a.tables.now))) in
    let lv = c.lift_vector in
    let m = monomial_of a.m in
    let one : Term = (1, m) in
    let first = first_stored a.vector.now pt.new.s 0 one pt.ensures.0 pt.ensures.1 (omega (arith, P.1, P.2)) in
    let whole = whole_of g a.level.now (ends_in a.tables.now) m.1 ro.result.from ro.result.to P.0.family P.3 P.4
    (ro.ensures.0 ∙ ap (first_row (ends_in a.tables.now)) c.from.ensures)
    (ro.ensures.1 ∙ ap (λ x. get_or (ends_in a.tables.now) (x - 1) 0) c.from.ensures) in (
      (lv.ensures.0 ∙ (λ i. vector_definition S (lift_term S a.room g.tree) 1 m.0 (sym whole i)
          (first i, cache_of a.used a.cache.now))),
      lv.ensures.1,
    )
