use native.Mathlib.Omega.{arith}
use mathlib.Core.Bool.{true, false}
use mathlib.Core.Path.{refl, sym, ap, ◌∙◌, subst}
use Prim.Native.Nat.{◌-◌}
use Rattle.std.specs.Prelude.{Ok, Err}
use Rattle.std.proofs.lemmas.Result.{err_from_is_err_and}
use Rattle.definitions.specs.Places.{most_terms}
use Rattle.runs.specs.declared.run.Strategy.{Strategy}
use Rattle.level.proofs.by_runs.OverGround.{usual_within}
use Rattle.level.specs.by_runs.Stages.{Within, lift_over}
use Rattle.level.specs.declared.by_runs.Bounds.{Bounds}
use Rattle.level.specs.all_levels.Level.{by_picks, usual_way, LiftedNext}
use Rattle.level.proofs.all_levels.Lifting.{way_settles, run_way, lifted_next, refused_next}
use Rattle.level.proofs.all_levels.lift_next.Goals as goal

abbrev hybrid-2 : Strategy
hybrid-2 = record { drops = true; pick = 2; stops = false }

pub overflow_sub-k : goal.overflow_sub-k
overflow_sub-k c = omega (arith, c.requires.0.low)

pub lift_level-requires : goal.lift_level-requires
lift_level-requires c =
    let P = c.requires in
    let b = c.usual-b in (
      P.0.base,
      omega arith,
      omega (arith, ap (λ (x : Bounds). x.working) b.ensures, P.1),
      subst Within (sym b.ensures) usual_within,
      refl,
    )

pub keep-requires : goal.keep-requires
keep-requires c =
    let a = c.args in
    let s = a.state.now in
    let P = c.requires in
    let out = c.lift_level.new.out in
    let L = c.in_ok-x.ensures in
    let e = L.0.2 ∙ ap (λ x. lift_over x s (a.k - 1) hybrid-2 L.0.0) c.usual-b.ensures in
    let r = run_way s (a.k - 1) P.0.base out (omega arith) hybrid-2 most_terms (by_picks refl refl (omega arith)) L.0.0 (Ok c.in_ok-x.x) L.0.1 e in
    (P.0, way_settles s a.k P.0 out (omega arith) usual_way L.0.0 (Ok c.in_ok-x.x) L.0.1 r L.1)

pub returns-in_err-x : goal.returns-in_err-x
returns-in_err-x c =
    let a = c.args in
    let s = a.state.now in
    let P = c.requires in
    let out = c.lift_level.new.out in
    let m = c.in_err-x.field-0.0 in
    let L = c.in_err-x.ensures in
    let e = L.0.2 ∙ ap (λ x. lift_over x s (a.k - 1) hybrid-2 L.0.0) c.usual-b.ensures in
    let r = run_way s (a.k - 1) P.0.base out (omega arith) hybrid-2 most_terms (by_picks refl refl (omega arith)) L.0.0 (Err m) L.0.1 e in
    let p = err_from_is_err_and c.from_residual.result c.from_residual.ensures.1 in
    subst (λ y. LiftedNext s a.k y s) (sym (p.1 ∙ ap Err p.2)) (refused_next s a.k P.0 L.0.0 out m L.0.1 r)

pub returns : goal.returns
returns c =
    let a = c.args in
    let s = a.state.now in
    let P = c.requires in
    let out = c.lift_level.new.out in
    let x = c.in_ok-x.x in
    let L = c.in_ok-x.ensures in
    let e = L.0.2 ∙ ap (λ x. lift_over x s (a.k - 1) hybrid-2 L.0.0) c.usual-b.ensures in
    let r = run_way s (a.k - 1) P.0.base out (omega arith) hybrid-2 most_terms (by_picks refl refl (omega arith)) L.0.0 (Ok x) L.0.1 e in
    let t = c.keep in
    lifted_next s a.k P.0 L.0.0 out (omega arith) x L.0.1 r L.1 t.result t.new.state t.ensures
