use Rattle.std.proofs.Common.{arith}
use Rattle.laws.proofs.Packing.{bytes_of}
use Rattle.monomial.proofs.Forming.{quotient_below, quotient_word}
use Rattle.monomial.proofs.quotient_exponents.Goals as goal

pub overflow_sub-result : goal.overflow_sub-result
overflow_sub-result c = quotient_below c.args.x c.args.y (bytes_of c.args.x (omega arith)) (bytes_of c.args.y (omega arith)) c.requires

pub returns : goal.returns
returns c = quotient_word c.args.x c.args.y (bytes_of c.args.x (omega arith)) (bytes_of c.args.y (omega arith)) c.requires
