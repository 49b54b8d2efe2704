use native.Mathlib.Omega.{arith}
use mathlib.Core.Path.{sym, ◌∙◌}
use Rattle.constants.proofs.elimination.Pivots.{pivot_here, pivot_on, pivot_none}
use Rattle.constants.proofs.elimination.pivot.Goals as goal

pub returns-then-s-at-ne0 : goal.returns-then-s-at-ne0
returns-then-s-at-ne0 c =
    let l = c.loop-j in
    let a = c.args in
    (sym (l.invariant ∙ pivot_here a.p a.s.now a.at a.n l.j (omega arith) (omega arith) c.if-s-at-ne0.true), omega arith)

pub loop-j-preserved : goal.loop-j-preserved
loop-j-preserved c =
    let l = c.loop-j in
    let a = c.args in
    l.invariant ∙ pivot_on a.p a.s.now a.at a.n l.j (omega arith) (omega arith) c.if-s-at-ne0.false

pub returns : goal.returns
returns c =
    let l = c.loop-j in
    let a = c.args in
    (sym (l.invariant ∙ pivot_none a.p a.s.now a.at a.n l.j (omega arith) (omega arith)), tt)
