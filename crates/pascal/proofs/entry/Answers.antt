use native.Mathlib.Omega.{arith}
use mathlib.Core.Path.{refl}
use Rattle.pascal.proofs.Table.{few_before, looked_up}
use Rattle.pascal.proofs.entry.Goals as goal

pub overflow_mul-at : goal.overflow_mul-at
overflow_mul-at c = omega (arith, few_before c.args.m c.requires.0)

pub overflow_add-at-2 : goal.overflow_add-at-2
overflow_add-at-2 c = omega (arith, few_before c.args.m c.requires.0)

pub offset_bounds-at : goal.offset_bounds-at
offset_bounds-at c = omega (arith, few_before c.args.m c.requires.0)

-- the table's numbers are the definition's, by computation
pub returns : goal.returns
returns c = looked_up _ c.args.m c.args.k refl
