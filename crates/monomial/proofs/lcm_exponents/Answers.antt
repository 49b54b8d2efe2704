use Rattle.std.proofs.Common.{arith}
use Rattle.laws.proofs.Packing.{bytes_of}
use Rattle.monomial.proofs.Raising.{lcm_word}
use Rattle.monomial.proofs.lcm_exponents.Goals as goal

pub returns : goal.returns
returns c =
    let x = c.args.x in
    let y = c.args.y in
    lcm_word x y (bytes_of x (omega arith)) (bytes_of y (omega arith)) c.larger.result c.larger-2.result c.larger.ensures.0
    c.larger-2.ensures.0
