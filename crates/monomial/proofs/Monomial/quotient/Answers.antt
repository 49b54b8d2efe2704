use Rattle.std.proofs.Common.{sym, ap, ◌∙◌}
use Rattle.definitions.specs.Monomial.{divides?, quotient}
use Rattle.definitions.specs.Packed.{unpack}
use Rattle.laws.proofs.Packing.{unpack_long}
use Rattle.laws.proofs.Products.{divides_lcm, quotient_lcm}
use Rattle.monomial.proofs.Monomial.quotient.Goals as goal

pub quotient_exponents-requires : goal.quotient_exponents-requires
quotient_exponents-requires c =
    let x = c.args.self.exponents in
    let y = c.args.other.exponents in
    ap (divides? (unpack y)) c.lcm_exponents-e.ensures ∙ divides_lcm (unpack x) (unpack y) (unpack_long y ∙ sym (unpack_long x))

pub returns : goal.returns
returns c =
    let x = c.args.self.exponents in
    let y = c.args.other.exponents in
    c.quotient_exponents.ensures ∙ ap (λ l. quotient l (unpack y)) c.lcm_exponents-e.ensures ∙ quotient_lcm (unpack x) (unpack y)
