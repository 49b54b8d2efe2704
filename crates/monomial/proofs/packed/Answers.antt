use Rattle.std.proofs.Common.{arith}
use Rattle.monomial.proofs.Bytewise.{packed_bytes}
use Rattle.monomial.proofs.packed.Goals as goal

pub returns : goal.returns
returns c =
    packed_bytes c.args.e
    c.from.result c.from-2.result c.from-3.result c.from-4.result
    c.from-5.result c.from-6.result c.from-7.result c.from-8.result (omega arith)
    c.from.ensures c.from-2.ensures c.from-3.ensures c.from-4.ensures
    c.from-5.ensures c.from-6.ensures c.from-7.ensures c.from-8.ensures
    (omega arith) (omega arith) (omega arith) (omega arith)
    (omega arith) (omega arith) (omega arith) (omega arith)
