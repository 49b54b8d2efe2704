use Rattle.monomial.proofs.Bytewise.{unpack_zero}
use Rattle.monomial.proofs.Monomial.unit.Goals as goal

pub returns : goal.returns
returns c = λ i. (unpack_zero i, 0)
