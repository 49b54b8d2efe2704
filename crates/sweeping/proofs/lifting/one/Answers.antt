use native.Mathlib.Omega.{arith}
use mathlib.Core.Path.{refl, ap, ◌∙◌}
use Rattle.sweeping.proofs.Ones.{ready_for, one_passed}
use Rattle.sweeping.specs.Nodes.{ground_stage}
use Rattle.runs.proofs.frame_terms.OneVectorMore.{frame_component}
use Rattle.runs.proofs.run.Stepping.{rooms_again}
use Rattle.runs.specs.run.Stages.{strategy_of}
use Rattle.vectors.specs.terms.Rows.{term_of}
use Rattle.monomial.specs.Values.{monomial_of}
use Rattle.definitions.specs.Run.{run}
use Rattle.definitions.specs.Monomial.{Term}
use Rattle.sweeping.proofs.lifting.one.Goals as goal

pub row-requires : goal.row-requires
row-requires c =
    omega (
      arith,
      c.requires.7.fits,
      c.requires.8,
    )

pub pass-requires : goal.pass-requires
pass-requires c =
    let a = c.args in
    let P = c.requires in (
      ready_for a.g a.level.now a.tables.now a.frame.now a.count P.9 a.w a.b a.v a.nodes.now a.spans.now a.edges.now
          a.order.now P.11 P.12 P.8 a.value.now a.vector.now P.4,
      P.0.prime,
      P.13,
      omega (arith, P.7.few, P.8),
      P.14,
    )

pub run-requires : goal.run-requires
run-requires c =
    let a = c.args in
    let P = c.requires in
    let f = frame_component a.g a.count a.frame.now a.v (term_of c.row.result) P.7 P.8 c.row.ensures
    in (
      P.0,
      P.1,
      P.2,
      P.3,
      rooms_again a.g a.value.now a.vector.now a.value.now c.pass.new.vector refl c.pass.auto.vector P.4,
      P.5,
      P.6,
      f.0,
      f.1,
    )

pub returns-in-None : goal.returns-in-None
returns-in-None c =
    let a = c.args in
    let r = c.run in
    let S = ground_stage a.g a.level.now a.tables.now in
    let W = strategy_of a.g a.tables.now a.w in (
      (
        r.ensures.0.0,
        r.ensures.0.1 ∙ ap (λ (t : Term). run S W r.ensures.0.0 t.1) c.row.ensures,
      ),
      r.ensures.1,
    )

pub returns-in-Some : goal.returns-in-Some
returns-in-Some c =
    let a = c.args in
    let P = c.requires in
    one_passed a.g a.level.now a.tables.now a.frame.now a.count P.9 a.w a.b a.v a.nodes.now a.spans.now a.edges.now
    a.order.now P.11 P.12 P.8 P.10 (monomial_of c.row.result.monomial) (ap (λ (t : Term). t.1) c.row.ensures) c.in-Some.k c.pass.new.vector
    c.in-Some.ensures
