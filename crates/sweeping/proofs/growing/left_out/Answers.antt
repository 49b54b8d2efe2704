use Rattle.runs.proofs.reduction.Adding.{found_none, drops_none}
use Rattle.runs.specs.reduction.Grounds.{reduction_of}
use Rattle.monomial.specs.Values.{monomial_of}
use Rattle.definitions.specs.Run.{dropped?}
use mathlib.Core.Path.{sym, ap, ◌∙◌}
use Rattle.sweeping.proofs.growing.left_out.Goals as goal

pub returns-then-drops : goal.returns-then-drops
returns-then-drops c =
    let a = c.args in let R = reduction_of a.g a.tables.now in let m = monomial_of a.m in
    found_none R m c.search.result c.is_none.result c.is_none.ensures c.search.ensures ∙ sym (ap (λ b. dropped? R b m) c.if-drops.true)

pub returns-else-drops : goal.returns-else-drops
returns-else-drops c = let a = c.args in c.if-drops.false ∙ sym (drops_none (reduction_of a.g a.tables.now) a.drops (monomial_of a.m) c.if-drops.false)
