use native.Mathlib.Omega.{arith}
use mathlib.Core.Path.{◌≡◌, refl}
use Prim.Native.Nat.{◌+◌, ◌-◌}
use Rattle.definitions.specs.Monomial.{unit}
use Rattle.constants.proofs.filling.Entering.{enters_nowhere, enters_apart, enters_here}
use Rattle.constants.proofs.filling.generator_column.Goals.{
  then-j-eq0-via-then-j-eq0,
  then-j-eq0-via-else-j-eq0+then-below-j,
  then-j-eq0-via-else-j-eq0+else-below-j+then-below-j-2,
}
use Rattle.constants.proofs.filling.generator_column.Goals as goal

pub returns-then-j-eq0 : goal.returns-then-j-eq0
returns-then-j-eq0 c =
    let a = c.args in
    let es = a.below.now in (
      tt,
      elim c.then-j-eq0.branch [
        | then-j-eq0-via-then-j-eq0 w ↦ enters_nowhere es a.d (unit, a.j) (λ i h e. omega (arith, e, w.if-j-eq0.true))
        | then-j-eq0-via-else-j-eq0+then-below-j w ↦ enters_nowhere es a.d (unit, a.j) (λ i h e. omega (arith, e, w.if-below-j.true, h))
        | then-j-eq0-via-else-j-eq0+else-below-j+then-below-j-2 w ↦
            let n : a.j ≡ 1 + (a.j - 1) = omega (arith, w.if-j-eq0.false) in
            enters_apart es a.d (unit, a.j) (a.j - 1) n w.if-below-j-2.true
      ],
    )

pub returns : goal.returns
returns c =
    let a = c.args in
    let n : a.j ≡ 1 + (a.j - 1) = omega arith in
    (omega arith, enters_here a.below.now a.d (unit, a.j) (a.j - 1) (omega arith) refl n c.if-below-j-2.false)
