use mathlib.Core.Path.{ap}
use Rattle.vectors.specs.terms.Rows.{term_of}
use Rattle.orders.specs.Images.{comparison_of}
use Rattle.testing.proofs.LeavesCalls.{descent_is}
use Rattle.testing.proofs.leaves.descent_at.Goals as goal

pub returns : goal.returns
returns c =
    let a = c.args in
    descent_is a.code a.s.now a.i c.greater.result (comparison_of c.compare.result)
    (term_of c.row.result).1 (term_of c.row-2.result).1
    c.greater.ensures c.compare.ensures (ap (λ t. t.1) c.row.ensures)
    (ap (λ t. t.1) c.row-2.ensures)
