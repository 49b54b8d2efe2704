use mathlib.Core.Path.{◌∙◌}
use Rattle.runs.proofs.reduction.Families.{first_later}
use Rattle.runs.proofs.reduction.first_of.Goals as goal

pub returns : goal.returns
returns c = (
  c.place.ensures.0 ∙ first_later c.args.ends.now c.args.j
      c.requires.0 c.if-j-eq1.false,
  c.place.ensures.1,
)
