use mathlib.Core.Path.{◌∙◌}
use Rattle.state.proofs.soundness.VectorByVector.{below_basis, below_above}
use Rattle.state.proofs.soundness.count_under.Goals as goal

pub returns-then-k-eq0 : goal.returns-then-k-eq0
returns-then-k-eq0 c = below_basis c.args.state.now c.args.k c.if-k-eq0.true

pub returns : goal.returns
returns c =
    c.count_of.ensures ∙ below_above c.args.state.now c.args.k
    c.if-k-eq0.false
