use native.Mathlib.Omega.{arith}
use Rattle.laws.proofs.Packing.{degree_small}
use Rattle.orders.proofs.own_total.Goals as goal

pub overflow_cast-result : goal.overflow_cast-result
overflow_cast-result c = let e = c.args.e in omega (arith, c.degree_exponents.ensures, degree_small e)
