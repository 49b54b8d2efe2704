use native.Mathlib.Omega.{arith}
use mathlib.Core.Path.{refl, ap}
use lib.ListN.{length}
use Rattle.pages.proofs.bytes.Spelling.{one_digit, digits_grow, few_digits}
use Rattle.pages.proofs.bytes.width.Goals as goal

pub loop-x-init : goal.loop-x-init
loop-x-init c = refl

pub overflow_add-w : goal.overflow_add-w
overflow_add-w c = omega (arith, c.loop-x.invariant, few_digits 19 c.args.v (omega arith))

pub loop-x-preserved : goal.loop-x-preserved
loop-x-preserved c = omega (arith, c.loop-x.invariant, digits_grow c.loop-x.x (omega arith))

pub returns : goal.returns
returns c = omega (arith, c.loop-x.invariant, ap length (one_digit c.loop-x.x (omega arith)))
