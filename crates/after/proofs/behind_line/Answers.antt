use native.Mathlib.Omega.{arith}
use mathlib.Core.Path.{refl}
use borrow.Author.Tests.{eq-eqb, ne_eqb}
use Rattle.after.proofs.Cutting.{line_here, line_on, line_end}
use Rattle.after.proofs.behind_line.Goals as goal

pub loop-i-init : goal.loop-i-init
loop-i-init c = refl

pub returns-then-input-i-eq10 : goal.returns-then-input-i-eq10
returns-then-input-i-eq10 c =
    let a = c.args in
    let l = c.loop-i in
    (omega (arith, l.invariant, line_here a.input.now l.i (omega arith) (eq-eqb _ 10 c.if-input-i-eq10.true)), omega arith)

pub loop-i-preserved : goal.loop-i-preserved
loop-i-preserved c =
    let a = c.args in
    let l = c.loop-i in
    omega (arith, l.invariant, line_on a.input.now l.i (omega arith) (ne_eqb _ 10 c.if-input-i-eq10.false))

pub returns : goal.returns
returns c =
    let a = c.args in
    let l = c.loop-i in
    (omega (arith, l.invariant, line_end a.input.now l.i (omega arith)), omega arith)
