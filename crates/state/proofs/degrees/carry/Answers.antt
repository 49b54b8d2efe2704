use mathlib.Core.Path.{◌∙◌}
use Rattle.state.proofs.degrees.Lent.{carried_copied}
use Rattle.state.proofs.degrees.carry.Goals as goal

pub returns : goal.returns
returns c =
    let a = c.args in
    let w = c.requires in
    c.copy.ensures ∙ carried_copied a.state.now c.weigh.new.d a.k
    c.count_of-r.result w c.count_of-r.ensures c.weigh.ensures
