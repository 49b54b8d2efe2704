use native.Mathlib.Omega.{arith}
use mathlib.Core.Path.{sym, ap, ◌∙◌, subst}
use Prim.Native.Nat.{◌-◌, ◌≤◌}
use lib.ListN.{length}
use Rattle.definitions.specs.Places.{lifted_length}
use Rattle.level.proofs.by_runs.OverGround.{working_within}
use Rattle.level.specs.by_runs.Stages.{Within, lift_over}
use Rattle.level.specs.declared.by_runs.Bounds.{Bounds}
use Rattle.level.specs.all_levels.Level.{way_by}
use Rattle.level.proofs.all_levels.Lifting.{chosen_few, chosen_on, way_settles, run_way, lifted_by}
use Rattle.level.proofs.all_levels.lift_level.Goals as goal

pub lift_level-x-requires : goal.lift_level-x-requires
lift_level-x-requires c =
    let P = c.requires in
    let a = c.args in
    let b = c.with_working-b in (
      P.0.base,
      P.3,
      omega (arith, ap (λ (x : Bounds). x.working) b.ensures, P.1),
      subst Within (sym b.ensures) (working_within a.working (chosen_few a.w a.working P.2)),
      chosen_on a.w a.working P.2,
    )

pub store-requires : goal.store-requires
store-requires c =
    let a = c.args in
    let s = a.state.now in
    let P = c.requires in
    let L = c.lift_level-x in
    let out = L.new.out in
    let long : lifted_length ≤ length out = omega (arith, P.3, L.auto.out) in
    let M = L.ensures in
    let e = M.0.2 ∙ ap (λ x. lift_over x s (a.k - 1) a.w M.0.0) c.with_working-b.ensures in
    let r = run_way s (a.k - 1) P.0.base out long a.w a.working P.2 M.0.0 L.result M.0.1 e in
    (P.0, way_settles s a.k P.0 out long (way_by a.w a.working) M.0.0 L.result M.0.1 r M.1)

pub returns : goal.returns
returns c =
    let a = c.args in
    let s = a.state.now in
    let P = c.requires in
    let L = c.lift_level-x in
    let out = L.new.out in
    let long : lifted_length ≤ length out = omega (arith, P.3, L.auto.out) in
    let M = L.ensures in
    let e = M.0.2 ∙ ap (λ x. lift_over x s (a.k - 1) a.w M.0.0) c.with_working-b.ensures in
    let r = run_way s (a.k - 1) P.0.base out long a.w a.working P.2 M.0.0 L.result M.0.1 e in
    let t = c.store in
    lifted_by s a.k P.0 (way_by a.w a.working) M.0.0 out long L.result M.0.1 r M.1 t.result t.new.state t.ensures
