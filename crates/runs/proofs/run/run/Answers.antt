use Rattle.std.specs.Prelude.{Ok}
use Rattle.std.proofs.lemmas.Result.{err_from_is_err_and}
use native.Mathlib.Omega.{arith}
use mathlib.Core.Path.{◌≡◌, ap, ◌∙◌}
use mathlib.Core.List.{[], ◌∷◌, ◌++◌}
use Rattle.runs.proofs.run.Stepping.{rooms_again}
use Rattle.runs.proofs.run.Reaching.{start_refused, started_good, from_start}
use Rattle.runs.specs.run.Stages.{order_of, stage_of, strategy_of, outcome_of}
use Rattle.runs.proofs.reduction.Adding.{rows_none}
use Rattle.runs.specs.reduction.Grounds.{above_in}
use Rattle.vectors.proofs.terms.Stored.{rows_appended}
use Rattle.orders.specs.Images.{table_of, table_order}
use Rattle.monomial.specs.Values.{monomial_of}
use Rattle.definitions.specs.Layout.{rows}
use Rattle.runs.proofs.run.run.Goals as goal

pub started-requires : goal.started-requires
started-requires c = (
  c.requires.0,
  c.requires.1,
  c.requires.4.value_fits,
  c.requires.7,
  c.requires.8,
)

pub returns-in_err-n : goal.returns-in_err-n
returns-in_err-n c =
    let a = c.args in
    let g = a.g in
    let above = table_order g.code (table_of g.r (above_in a.tables.now)) in
    let W = strategy_of g a.tables.now a.w in
    let p = err_from_is_err_and c.from_residual.result c.from_residual.ensures.1 in
    rw (p.1, p.2) (start_refused (stage_of g a.level.now a.tables.now above) W (monomial_of a.m) _ c.in_err-n.ensures.0, tt)

pub put-requires : goal.put-requires
put-requires c =
    omega (
      arith,
      c.requires.4.vector_fits,
      c.requires.5,
    )

pub steps-requires : goal.steps-requires
steps-requires c =
    let a = c.args in
    let P = c.requires in
    let s = c.started in
    let g = a.g in
    let W = strategy_of g a.tables.now a.w in
    let n = c.in_ok-n.n in (
      P.0,
      P.1,
      P.2,
      rooms_again g a.value.now a.vector.now s.new.value c.put.new.s (omega arith) (omega arith) P.4,
      c.in_ok-n.ensures.1,
      P.5,
      P.6,
      started_good (stage_of g a.level.now a.tables.now (order_of g a.tables.now)) W (monomial_of a.m) P.6
          c.put.ensures.1.eight (rows s.new.value 0 n) c.in_ok-n.ensures.0,
    )

pub returns-in_err-x : goal.returns-in_err-x
returns-in_err-x c =
    let a = c.args in
    let asked = c.requires in
    let g = a.g in
    let above = table_order g.code (table_of g.r (above_in a.tables.now)) in
    let W = strategy_of g a.tables.now a.w in
    let m = monomial_of a.m in
    let q = c.put in
    let one : rows q.new.s 0 1 ≡ (1, m) ∷ [] =
    ap (λ z. rows z 0 1) q.ensures.0 ∙ rows_appended a.vector.now 0 (1, m)
    (omega (arith, asked.4.vector_fits, asked.5)) q.ensures.1 ∙ ap (λ v. v ++ (1, m) ∷ []) (rows_none a.vector.now 0) in
    let p = err_from_is_err_and c.from_residual-in_err-x.result c.from_residual-in_err-x.ensures.1 in
    rw (p.1, p.2) (
      from_start (stage_of g a.level.now a.tables.now above) W m (rows c.started.new.value 0 c.in_ok-n.n) (rows q.new.s 0 1) _ c.in_ok-n.ensures.0 one
          (c.in_err-x.ensures.0 above),
      tt,
    )

pub sorted-requires : goal.sorted-requires
sorted-requires c =
    let a = c.args in
    let P = c.requires in (
      P.0,
      P.2,
      P.3,
      rooms_again a.g a.value.now a.vector.now c.steps.new.value c.steps.new.vector (omega arith) (omega arith) P.4,
      c.in_ok-x.ensures.1,
    )

pub returns : goal.returns
returns c =
    let a = c.args in
    let s = c.started in
    let p = c.put in
    let asked = c.requires in
    let g = a.g in
    let above = table_order g.code (table_of g.r (above_in a.tables.now)) in
    let W = strategy_of g a.tables.now a.w in
    let m = monomial_of a.m in
    let n = c.in_ok-n.n in
    let t = c.in_ok-x.ensures.0 above in
    let one : rows p.new.s 0 1 ≡ (1, m) ∷ [] =
    ap (λ z. rows z 0 1) p.ensures.0 ∙ rows_appended a.vector.now 0 (1, m)
    (omega (arith, asked.4.vector_fits, asked.5)) p.ensures.1 ∙ ap (λ v. v ++ (1, m) ∷ []) (rows_none a.vector.now 0) in (
      from_start (stage_of g a.level.now a.tables.now above) W m (rows s.new.value 0 n) (rows p.new.s 0 1)
          (outcome_of (Ok c.sorted.result) c.sorted.new.vector) c.in_ok-n.ensures.0 one (t.0, c.sorted.ensures.0 ∙ t.1),
      c.sorted.ensures.1,
    )
