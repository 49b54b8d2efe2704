use Rattle.std.specs.Prelude.{Ok}
use Rattle.std.proofs.lemmas.Result.{err_from_is_err_and}
use native.Mathlib.Omega.{arith}
use mathlib.Core.Path.{subst}
use mathlib.Core.Bool.{false}
use Rattle.runs.specs.run.Stages.{strategy_of}
use Rattle.runs.proofs.frame_terms.LoopsOverFrame.{going_start}
use Rattle.runs.proofs.frame_terms.OneVectorMore.{none_kept}
use Rattle.sweeping.specs.Nodes.{ground_stage}
use Rattle.sweeping.specs.Gone.{GoneAs}
use Rattle.sweeping.proofs.Ones.{gone_whole, gone_empty}
use Rattle.sweeping.proofs.lifting.lift_all.Goals as goal

pub returns-then-count-eq0 : goal.returns-then-count-eq0
returns-then-count-eq0 c =
    let a = c.args in
    gone_empty a.g (ground_stage a.g a.level.now a.tables.now) (strategy_of a.g a.tables.now a.w) a.frame.now a.count
    (omega (arith, c.if-count-eq0.true)) a.out.now a.vector.now

pub lift_any-requires : goal.lift_any-requires
lift_any-requires c =
    let a = c.args in
    let P = c.requires in (
      P.0,
      P.1,
      P.2,
      P.3,
      P.4,
      P.5,
      P.6,
      P.7,
      P.8,
      P.9,
      P.10,
      P.11,
      omega arith,
      omega arith,
      none_kept a.out.now,
      going_start (ground_stage a.g a.level.now a.tables.now) (strategy_of a.g a.tables.now a.w) a.frame.now a.count,
    )

pub returns-in-At : goal.returns-in-At
returns-in-At c =
    let a = c.args in
    let f = c.lift_any in
    let S = ground_stage a.g a.level.now a.tables.now in
    let W = strategy_of a.g a.tables.now a.w in
    gone_whole a.g S W a.frame.now a.count c.in-At.field-0 c.in-At.used f.new.out f.new.vector
    (subst (λ x. GoneAs a.g S W a.frame.now a.count false (Ok x) f.new.out f.new.vector) c.in-At.is c.in_ok-used.ensures)

pub returns-in-Stopped : goal.returns-in-Stopped
returns-in-Stopped c =
    let a = c.args in
    let f = c.lift_any in
    let S = ground_stage a.g a.level.now a.tables.now in
    let W = strategy_of a.g a.tables.now a.w in
    subst (λ x. GoneAs a.g S W a.frame.now a.count false (Ok x) f.new.out f.new.vector) c.in-Stopped.is c.in_ok-used.ensures

pub returns-in_err-used : goal.returns-in_err-used
returns-in_err-used c =
    let p = err_from_is_err_and c.from_residual.result c.from_residual.ensures.1 in rw (p.1, p.2) c.in_err-used.ensures
