use native.Mathlib.Omega.{arith}
use Rattle.std.specs.Prelude.{Ok}
use Rattle.std.proofs.lemmas.Result.{err_from_is_err_and}
use mathlib.Core.Path.{◌≡◌, refl, sym, ap, ◌∙◌, subst}
use mathlib.Core.List.{[]}
use Rattle.runs.proofs.run.Stepping.{rooms_again}
use Rattle.runs.proofs.run.Reaching.{reached_start, reached_on, reached_refused, reached_end, step_ends}
use Rattle.runs.specs.run.Stages.{order_of, stage_of, strategy_of, run_of, step_of, Room}
use Rattle.runs.proofs.reduction.Adding.{rows_none}
use Rattle.ending.proofs.Picking.{picks_by_code}
use Rattle.ending.proofs.Falling.{step_keeps, step_falls_as}
use Rattle.definitions.specs.Layout.{rows}
use Rattle.definitions.specs.Run.{on, step}
use Rattle.definitions.specs.Vectors.{descending}
use Rattle.definitions.specs.Result.{done}
use Rattle.definitions.specs.Order.{Comparison}
use Rattle.definitions.specs.Monomial.{Monomial}
use Rattle.runs.proofs.run.steps.Goals as goal

pub loop-n-init : goal.loop-n-init
loop-n-init c =
    let a = c.args in (
      omega arith,
      omega arith,
      refl,
      refl,
      c.requires.7,
      λ above. reached_start (stage_of a.g a.level.now a.tables.now above) (strategy_of a.g a.tables.now a.w)
          (run_of a.value.now a.start a.vector.now a.first),
    )

pub one_step-requires : goal.one_step-requires
one_step-requires c =
    let P = c.requires in
    let i = c.loop-n.invariant in (
      P.0,
      P.1,
      P.2,
      rooms_again c.args.g
          c.args.value.now
          c.args.vector.now c.loop-n.value
          c.loop-n.vector i.2 i.3 P.3,
      omega arith,
      i.0,
      i.1,
    )

pub loop-n-smaller : goal.loop-n-smaller
loop-n-smaller c =
    let a = c.args in
    let l = c.loop-n in
    let asked = c.requires in
    let g = a.g in
    let order = order_of g a.tables.now in
    let W = strategy_of g a.tables.now a.w in
    let r = run_of l.value l.n l.vector l.v in
    let s = c.one_step in
    let S = stage_of g a.level.now a.tables.now order in
    let n = c.in-On.x in
    let v = c.in-On.y in
    let r' = run_of s.new.value n s.new.vector v in
    let told : (above : Monomial → Monomial → Comparison) → done (on r') ≡ step (stage_of g a.level.now a.tables.now above) W r =
    λ above. sym (ap (λ y. step_of order g.p (Ok y) s.new.value s.new.vector) c.in-On.is) ∙ c.in_ok-x.ensures.0 above in
    step_falls_as S asked.6 W refl refl refl (picks_by_code order a.w.pick) r r' l.invariant.4 (sym (told order))

pub loop-n-preserved : goal.loop-n-preserved
loop-n-preserved c =
    let a = c.args in
    let l = c.loop-n in
    let asked = c.requires in
    let g = a.g in
    let order = order_of g a.tables.now in
    let W = strategy_of g a.tables.now a.w in
    let r = run_of l.value l.n l.vector l.v in
    let s = c.one_step in
    let S = stage_of g a.level.now a.tables.now order in
    let n = c.in-On.x in
    let v = c.in-On.y in
    let r' = run_of s.new.value n s.new.vector v in
    let told : (above : Monomial → Monomial → Comparison) → done (on r') ≡ step (stage_of g a.level.now a.tables.now above) W r =
    λ above. sym (ap (λ y. step_of order g.p (Ok y) s.new.value s.new.vector) c.in-On.is) ∙ c.in_ok-x.ensures.0 above in
    let room = subst (λ y. Room g (Ok y)) c.in-On.is c.in_ok-x.ensures.1 in (
      room.0,
      room.1,
      omega (arith, l.invariant.2),
      omega (arith, l.invariant.3),
      step_keeps S asked.6 W (picks_by_code order a.w.pick) r r' l.invariant.4 (sym (told order)),
      λ above. reached_on (stage_of g a.level.now a.tables.now above) W (run_of a.value.now a.start a.vector.now a.first) r r'
          (l.invariant.5 above) (told above),
    )

pub returns-in_err-x : goal.returns-in_err-x
returns-in_err-x c =
    let a = c.args in
    let l = c.loop-n in
    let g = a.g in
    let W = strategy_of g a.tables.now a.w in
    let r = run_of l.value l.n l.vector l.v in
    let p = err_from_is_err_and c.from_residual.result c.from_residual.ensures.1 in
    rw (p.1, p.2) (
      λ above. reached_refused (stage_of g a.level.now a.tables.now above) W (run_of a.value.now a.start a.vector.now a.first) r _ 0 []
          (l.invariant.5 above) (c.in_err-x.ensures.0 above),
      tt,
    )

pub shape_of-value-in-Stopped : goal.shape_of-value-in-Stopped
shape_of-value-in-Stopped c = omega (arith, c.loop-n.invariant.2)

pub shape_of-vector-in-Stopped : goal.shape_of-vector-in-Stopped
shape_of-vector-in-Stopped c = omega (arith, c.loop-n.invariant.3)

pub returns-in-Stopped : goal.returns-in-Stopped
returns-in-Stopped c =
    let a = c.args in
    let l = c.loop-n in
    let g = a.g in
    let order = order_of g a.tables.now in
    let W = strategy_of g a.tables.now a.w in
    let r = run_of l.value l.n l.vector l.v in
    let s = c.one_step in
    let x = c.in-Stopped.x in (
      λ above. reached_refused (stage_of g a.level.now a.tables.now above) W
          (run_of a.value.now a.start a.vector.now a.first) r 9 0 (descending order g.p (rows s.new.value 0 x)) (l.invariant.5 above)
          (sym (ap (λ y. step_of order g.p (Ok y) s.new.value s.new.vector) c.in-Stopped.is) ∙ c.in_ok-x.ensures.0 above),
      subst (λ y. Room g (Ok y)) c.in-Stopped.is c.in_ok-x.ensures.1,
    )

pub shape_of-value : goal.shape_of-value
shape_of-value c = omega (arith, c.loop-n.invariant.2)

pub shape_of-vector : goal.shape_of-vector
shape_of-vector c = omega (arith, c.loop-n.invariant.3)

pub returns : goal.returns
returns c =
    let a = c.args in
    let g = a.g in
    let l = c.loop-n in
    let order = order_of g a.tables.now in
    let W = strategy_of g a.tables.now a.w in
    let r = run_of l.value l.n l.vector l.v in
    let empty : rows l.value 0 l.n ≡ [] = ap (rows l.value 0) (omega arith) ∙ rows_none l.value 0 in (
      λ above. let S = stage_of g a.level.now a.tables.now above in
          reached_end S W (run_of a.value.now a.start a.vector.now a.first) r r.vector (l.invariant.5 above)
          (step_ends S order a.w.pick a.w.drops a.w.stops r empty),
      l.invariant.1,
    )
