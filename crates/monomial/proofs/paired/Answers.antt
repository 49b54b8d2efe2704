use Rattle.std.proofs.Common.{arith}
use Rattle.laws.proofs.Packing.{bytes_of}
use Rattle.monomial.proofs.Bytewise.{paired_lanes}
use Rattle.monomial.proofs.paired.Goals as goal

pub returns : goal.returns
returns c = paired_lanes c.args.x (bytes_of c.args.x (omega arith))
