use native.Mathlib.Omega.{arith}
use mathlib.Core.Path.{◌∙◌}
use Rattle.state.proofs.soundness.VectorByVector.{below_above}
use Rattle.level.proofs.by_runs.images_of.Goals as goal

pub returns : goal.returns
returns c =
    c.count_of.ensures ∙ below_above c.args.state.now c.args.j
    (λ e. omega (arith, e))
