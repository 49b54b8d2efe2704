use Rattle.std.proofs.Math.Path.{ap, ◌∙◌}
use Rattle.definitions.specs.Layout.{lift_call}
use Rattle.definitions.specs.Limits.{document_01}
use Rattle.calls.proofs.tagetessash_lift.Goals as goal

pub returns : goal.returns
returns c =
    let L = c.lift-r.ensures in (
      L.0,
      L.1 ∙ ap (λ w. lift_call document_01 L.0 c.args.level w c.args.state.now c.args.work.now c.args.cache.now) c.way_by-w.ensures,
    )
