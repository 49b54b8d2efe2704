use mathlib.Core.Path.{◌∙◌}
use Rattle.state.proofs.preparing.TablesReady.{components_basis, components_above}
use Rattle.state.proofs.preparing.components_of.Goals as goal

pub returns-then-k-eq0 : goal.returns-then-k-eq0
returns-then-k-eq0 c =
    c.place.ensures.0 ∙ components_basis c.args.state.now c.args.k
    c.if-k-eq0.true

pub returns : goal.returns
returns c =
    c.count_of.ensures ∙ components_above c.args.state.now
    c.args.k c.if-k-eq0.false
