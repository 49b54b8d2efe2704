use Rattle.std.proofs.Common.{true, ◌+◌, ◌%◌, refl, arith}
use Rattle.definitions.specs.Packed.{long_bound}
use Rattle.laws.proofs.Packing.{bytes_of}
use Rattle.monomial.proofs.Forming.{product_lanes}
use Rattle.monomial.proofs.Monomial.product.Goals as goal

pub returns : goal.returns
returns c =
    let m = c.args.self in
    let q = c.args.q in
    product_lanes q m.exponents ((q + m.exponents) % long_bound) m.component true (bytes_of q (omega arith)) (bytes_of m.exponents (omega arith))
    c.if-not-uncarried.ensures refl
