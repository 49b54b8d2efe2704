use mathlib.Core.Path.{◌∙◌}
use Prim.Native.Nat.{◌+◌, ◌*◌, ◌%◌}
use Rattle.constants.proofs.elimination.Multiples.{reduced_once}
use Rattle.constants.proofs.elimination.plus_product.Goals as goal

pub returns : goal.returns
returns c =
    (λ i. (c.from.ensures i + c.from-2.ensures i * c.from-3.ensures i) % c.from-4.ensures i)
    ∙ reduced_once c.args.p c.args.y c.args.t c.args.x
