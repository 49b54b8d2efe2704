use Rattle.std.proofs.Common.{arith}
use Rattle.laws.proofs.Packing.{bytes_of}
use Rattle.monomial.proofs.Bytewise.{same_packed}
use Rattle.monomial.proofs.same_exponents.Goals as goal

pub returns : goal.returns
returns c = same_packed c.args.x c.args.y (bytes_of c.args.x (omega arith)) (bytes_of c.args.y (omega arith))
