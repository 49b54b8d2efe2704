use Rattle.std.proofs.Common.{arith, ap, [], ◌∷◌}
use Rattle.pages.proofs.bytes.Spelling.{after, spelled, more_digits, digits_grow}
use Rattle.pages.proofs.bytes.+number.Goals as goal

pub number-i-requires : goal.number-i-requires
number-i-requires t c =
    (omega (arith, c.decreases), omega (arith, c.requires, digits_grow c.args.v (omega arith)))

pub byte-requires-2 : goal.byte-requires-2
byte-requires-2 t c =
    omega (arith, c.requires, c.number-i.ensures.ends, digits_grow c.args.v (omega arith))

pub returns : goal.returns
returns t c =
    spelled (more_digits c.args.v (omega arith)) (after c.number-i.ensures
    (spelled (ap (λ x. x ∷ []) c.digit-2.ensures) c.byte-2.ensures))
