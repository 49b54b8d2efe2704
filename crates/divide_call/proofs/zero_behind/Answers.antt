use mathlib.Core.Path.{◌∙◌}
use Rattle.divide_call.proofs.DivideCall.{kept_rows}
use Rattle.divide_call.proofs.zero_behind.Goals as goal

pub returns : goal.returns
returns c =
    let a = c.args in
    c.clear.ensures ∙ kept_rows a.out.now a.n c.requires
    c.know.ensures
