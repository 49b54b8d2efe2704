use native.Mathlib.Omega.{arith}
use mathlib.Core.Path.{◌≡◌, sym, ◌∙◌}
use Rattle.std.specs.Prelude.{Some, None, Err}
use Rattle.std.proofs.lemmas.Result.{err_from_is_err_and}
use Rattle.words.specs.declared.refusals.Refusal.TheVariants.{Exponent}
use Rattle.definitions.specs.Packed.{unpack}
use Rattle.definitions.specs.Run.{multiple}
use Rattle.definitions.specs.Stage.{Stage}
use Rattle.definitions.specs.Layout.{row_at, rows}
use Rattle.definitions.specs.Tree.{LiftTerm, lift_term}
use Rattle.orders.specs.Images.{table_of, table_order}
use Rattle.vectors.specs.terms.Rows.{term_of}
use Rattle.runs.specs.reduction.Grounds.{above_in}
use Rattle.runs.specs.run.Stages.{stage_of}
use Rattle.cache.specs.Entries.{cache_of}
use Rattle.tree.proofs.subtrees.Lifting.{formed_product, unformed_product}
use Rattle.tree.proofs.frame_terms.Filling.{filling_unfit, filling_unlifted, filling_ends, filling_on, filling_stops}
use Rattle.tree.proofs.frame_terms.lift_vector.Goals as goal

pub returns-in_err-t : goal.returns-in_err-t
returns-in_err-t c =
    let a = c.args in
    let g = a.g in
    let l = c.loop-i in
    let S : Stage = stage_of g a.level.now a.tables.now (table_order g.code (table_of g.r (above_in a.tables.now))) in
    let T : LiftTerm = lift_term S a.room g.tree in
    let n : c.multiplied.result ≡ None = grind arith in
    let r : c.from_residual.result ≡ Err Exponent = grind arith in
    let f = unformed_product c.multiplied.result (multiple g.p 1 (unpack a.q) (row_at a.level.now l.i)) n c.multiplied.ensures in
    rw r (
      sym (l.invariant.5 ∙ filling_unfit S T (unpack a.q) a.level.now a.to l.i (rows l.vector 0 l.k, cache_of l.v l.cache)
          (omega (arith, c.loop-i-test.true)) f),
      tt,
    )

pub returns-in_err-s : goal.returns-in_err-s
returns-in_err-s c =
    let a = c.args in
    let g = a.g in
    let l = c.loop-i in
    let S : Stage = stage_of g a.level.now a.tables.now (table_order g.code (table_of g.r (above_in a.tables.now))) in
    let T : LiftTerm = lift_term S a.room g.tree in
    let x = c.in_ok-t.t in
    let n : c.multiplied.result ≡ Some x = grind arith in
    let f = formed_product c.multiplied.result x (multiple g.p 1 (unpack a.q) (row_at a.level.now l.i)) n c.multiplied.ensures in
    let p = err_from_is_err_and c.from_residual-in_err-s.result c.from_residual-in_err-s.ensures.1 in
    rw (p.1, p.2) (
      sym (l.invariant.5 ∙ filling_unlifted S T (unpack a.q) a.level.now a.to l.i l.k l.vector (cache_of l.v l.cache) (term_of x)
          (omega (arith, c.loop-i-test.true)) f.0 f.1 _ c.in_err-s.ensures.0),
      tt,
    )

pub returns-in_err-w : goal.returns-in_err-w
returns-in_err-w c =
    let a = c.args in
    let g = a.g in
    let l = c.loop-i in
    let S : Stage = stage_of g a.level.now a.tables.now (table_order g.code (table_of g.r (above_in a.tables.now))) in
    let T : LiftTerm = lift_term S a.room g.tree in
    let x = c.in_ok-t.t in
    let n : c.multiplied.result ≡ Some x = grind arith in
    let f = formed_product c.multiplied.result x (multiple g.p 1 (unpack a.q) (row_at a.level.now l.i)) n c.multiplied.ensures in
    let p = err_from_is_err_and c.from_residual-in_err-w.result c.from_residual-in_err-w.ensures.1 in
    rw (p.1, p.2) (
      sym (l.invariant.5 ∙ filling_stops S T (unpack a.q) a.level.now a.to l.i l.k l.vector (cache_of l.v l.cache) (term_of x)
          (omega (arith, c.loop-i-test.true)) f.0 f.1 _ c.in_ok-s.ensures.0 _ c.in_err-w.ensures.0),
      tt,
    )

pub loop-i-preserved : goal.loop-i-preserved
loop-i-preserved c =
    let a = c.args in
    let g = a.g in
    let l = c.loop-i in
    let S : Stage = stage_of g a.level.now a.tables.now (table_order g.code (table_of g.r (above_in a.tables.now))) in
    let T : LiftTerm = lift_term S a.room g.tree in
    let x = c.in_ok-t.t in
    let n : c.multiplied.result ≡ Some x = grind arith in
    let f = formed_product c.multiplied.result x (multiple g.p 1 (unpack a.q) (row_at a.level.now l.i)) n c.multiplied.ensures in
    let w = c.in_ok-w.ensures in (
      omega (arith, w.1.0),
      w.1.1,
      omega (arith, c.add_result.auto.vector, l.invariant.2),
      omega (arith, c.lift_term.auto.cache, l.invariant.3),
      omega (arith, c.lift_term.auto.work, l.invariant.4),
      l.invariant.5 ∙ filling_on S T (unpack a.q) a.level.now a.to l.i l.k l.vector (cache_of l.v l.cache) (term_of x)
          (omega (arith, c.loop-i-test.true)) f.0 f.1 _ c.in_ok-s.ensures.0 _ w.0,
    )

pub returns : goal.returns
returns c =
    let a = c.args in
    let g = a.g in
    let l = c.loop-i in
    let S : Stage = stage_of g a.level.now a.tables.now (table_order g.code (table_of g.r (above_in a.tables.now))) in
    let T : LiftTerm = lift_term S a.room g.tree in (
      sym (l.invariant.5 ∙ filling_ends S T (unpack a.q) a.level.now a.to l.i (rows l.vector 0 l.k, cache_of l.v l.cache) (omega arith)),
      (omega (arith, l.invariant.0), l.invariant.1),
    )
