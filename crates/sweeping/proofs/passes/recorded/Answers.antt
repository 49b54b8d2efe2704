use Rattle.definitions.specs.Field.{times}
use mathlib.Core.Path.{◌∙◌}
use Rattle.sweeping.proofs.passes.recorded.Goals as goal

pub returns : goal.returns
returns c =
    let e = c.row-t.ensures in let f = c.times.ensures in let a = c.args in
    (λ i. (f i, (e 0).1)) ∙ (λ i. (times a.p a.c (e i).0, (e i).1))
