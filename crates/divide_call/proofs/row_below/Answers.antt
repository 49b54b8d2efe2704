use native.Mathlib.Omega.{arith}
use mathlib.Core.Path.{◌∙◌}
use mathlib.Core.List.{[]}
use Rattle.definitions.specs.Order.{compare_over}
use Rattle.orders.specs.Images.{comparison_of}
use Rattle.divide_call.proofs.RowByRow.{first_below, below_by, greater_same}
use Rattle.divide_call.proofs.row_below.Goals as goal

pub returns-then-i-eq0 : goal.returns-then-i-eq0
returns-then-i-eq0 c = let a = c.args in first_below a.code a.vector.now a.i (omega arith)

pub returns : goal.returns
returns c =
    let a = c.args in
    c.is_gt.ensures ∙ greater_same c.compare.result
    ∙ below_by a.code a.vector.now a.i (comparison_of c.compare.result) (omega arith)
    (c.compare.ensures ∙ (λ j. compare_over a.code [] (c.row-t.ensures j).1 (c.row-u.ensures j).1))
