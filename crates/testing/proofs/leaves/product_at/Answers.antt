use mathlib.Core.Path.{ap}
use Rattle.vectors.specs.terms.Rows.{term_of}
use Rattle.monomial.specs.Values.{product_of}
use Rattle.testing.proofs.LeavesCalls.{product_is}
use Rattle.testing.proofs.leaves.product_at.Goals as goal

pub returns : goal.returns
returns c =
    let a = c.args in
    product_is a.s.now a.i (term_of c.row_of.result) (product_of c.product.result)
    (term_of c.row-2.result).1.0
    (term_of c.row.result).1 c.row_of.ensures c.product.ensures
    (ap (λ t. t.1.0) c.row-2.ensures)
    (ap (λ t. t.1) c.row.ensures)
