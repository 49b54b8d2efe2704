use Rattle.std.proofs.Common.{arith}
use Rattle.laws.proofs.Packing.{bytes_of}
use Rattle.monomial.proofs.Dividing.{divides_lanes}
use Rattle.monomial.proofs.divides_exponents.Goals as goal

pub returns : goal.returns
returns c = divides_lanes c.args.x c.args.y (bytes_of c.args.x (omega arith)) (bytes_of c.args.y (omega arith))
