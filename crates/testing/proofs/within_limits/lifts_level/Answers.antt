use mathlib.Core.Path.{sym, ap, ◌∙◌, subst₃}
use Rattle.testing.specs.Lifts.{bounds_by, told, Counted, called}
use Rattle.testing.proofs.LevelCall.{answered, counted}
use Rattle.testing.proofs.within_limits.lifts_level.Goals as goal

pub returns : goal.returns
returns c =
    let a = c.args in
    let s = a.state.now in
    let x = c.lift_tested-x.result in
    let z = c.lift_tested-x.new.out in
    let L = c.lift_tested-x.ensures in
    let t = c.tell.ensures in
    let n = L.0.0 in
    let u = answered z x L.0.1 in (
      (
        n,
        u.0,
        (λ i. told (t.0 i) (t.1 i) z u.0) ∙ u.1 ∙ L.0.2
            ∙ ap (λ y. called (bounds_by a.working a.vector a.tree a.room) s a.work.now a.out.now a.cache.now a.level y n) c.way_by-w.ensures,
      ),
      subst₃ (λ number count used. Counted number count used z) (sym t.0) (sym t.1) (sym t.2) (counted z x L.1),
    )
