use Rattle.std.specs.Prelude.{Ok}
use Rattle.std.proofs.lemmas.Result.{err_from_is_err_and}
use Rattle.std.proofs.Common.{arith, rules, subst, true}
use Rattle.runs.specs.run.Stages.{strategy_of}
use Rattle.runs.proofs.run.Stepping.{rooms_again}
use Rattle.sweeping.specs.Nodes.{ground_stage}
use Rattle.sweeping.specs.Gone.{GoneAs}
use Rattle.sweeping.proofs.lifting.+lift_any.Goals as goal

pub lift_few-requires : goal.lift_few-requires
lift_few-requires t c =
    let P = c.requires in
    (P.0, P.1, P.2, P.3, P.4, P.5, P.6, P.7, P.8, P.9, P.10, P.11, P.12, P.13, P.14, P.15, search rules)

pub lift_many-requires : goal.lift_many-requires
lift_many-requires t c =
    let P = c.requires in
    (P.0, P.1, P.2, P.3, P.4, P.5, P.6, P.7, P.8, P.9, P.10, P.11, P.12, P.13, P.14, P.15, search rules)

pub lift_any-requires : goal.lift_any-requires
lift_any-requires t c =
    let a = c.args in
    let f = c.lift_few in
    let S = ground_stage a.g a.level.now a.tables.now in
    let W = strategy_of a.g a.tables.now a.w in
    let r = subst (λ z. GoneAs a.g S W a.frame.now a.count true (Ok z) f.new.out f.new.vector) c.in-At.is c.in_ok-i.ensures in
    let P = c.requires in (
      omega (arith, c.decreases),
      (
        P.0,
        P.1,
        P.2,
        P.3,
        rooms_again a.g a.value.now a.vector.now f.new.value f.new.vector f.auto.value f.auto.vector P.4,
        P.5,
        P.6,
        P.7,
        omega (arith, P.8, f.auto.out),
        P.9,
        P.10,
        P.11,
        r.inside,
        r.room,
        r.kept,
        r.going,
      ),
    )

pub returns-then-sizes-le1 : goal.returns-then-sizes-le1
returns-then-sizes-le1 t c = c.lift_many.ensures

pub returns-in-At : goal.returns-in-At
returns-in-At t c = c.lift_any.ensures

pub returns-in-At-2 : goal.returns-in-At-2
returns-in-At-2 t c =
    let a = c.args in
    let f = c.lift_few in
    let S = ground_stage a.g a.level.now a.tables.now in
    let W = strategy_of a.g a.tables.now a.w in
    let r = subst (λ z. GoneAs a.g S W a.frame.now a.count true (Ok z) f.new.out f.new.vector) c.in-At.is c.in_ok-i.ensures in
    record { going = r.going; inside = r.inside; room = r.room; kept = r.kept; all = λ e. omega (arith, c.if-i-count.false) }

pub returns-in_err-i : goal.returns-in_err-i
returns-in_err-i t c =
    let p = err_from_is_err_and c.from_residual.result c.from_residual.ensures.1 in rw (p.1, p.2) c.in_err-i.ensures

pub returns-in-Stopped : goal.returns-in-Stopped
returns-in-Stopped t c =
    let a = c.args in
    let f = c.lift_few in
    let S = ground_stage a.g a.level.now a.tables.now in
    let W = strategy_of a.g a.tables.now a.w in
    subst (λ z. GoneAs a.g S W a.frame.now a.count true (Ok z) f.new.out f.new.vector) c.in-Stopped.is c.in_ok-i.ensures
