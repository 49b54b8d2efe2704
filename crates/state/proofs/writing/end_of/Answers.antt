use mathlib.Core.Path.{◌∙◌}
use Rattle.state.proofs.writing.Copying.{end_none, end_at}
use Rattle.state.proofs.writing.end_of.Goals as goal

pub returns-then-r-eq0 : goal.returns-then-r-eq0
returns-then-r-eq0 c = end_none c.args.state.now c.args.k c.args.r c.if-r-eq0.true

pub returns : goal.returns
returns c =
    c.place.ensures.0 ∙ end_at c.args.state.now c.args.k
    c.args.r c.if-r-eq0.false
