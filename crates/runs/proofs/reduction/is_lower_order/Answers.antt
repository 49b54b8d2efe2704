use Rattle.monomial.specs.Values.{monomial_of}
use Rattle.runs.proofs.reduction.Adding.{found_none}
use Rattle.runs.specs.reduction.Grounds.{reduction_of}
use Rattle.runs.proofs.reduction.is_lower_order.Goals as goal

pub returns : goal.returns
returns c =
    found_none (reduction_of c.args.g c.args.tables.now) (monomial_of c.args.m) c.search.result c.is_none.result c.is_none.ensures c.search.ensures
