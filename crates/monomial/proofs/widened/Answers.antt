use Rattle.std.proofs.Common.{arith}
use Rattle.laws.proofs.Packing.{bytes_of}
use Rattle.monomial.proofs.Bytewise.{widened_packed}
use Rattle.monomial.proofs.widened.Goals as goal

pub returns : goal.returns
returns c = widened_packed c.args.x (bytes_of c.args.x (omega arith))
