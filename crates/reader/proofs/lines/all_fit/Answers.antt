use native.Mathlib.Omega.{arith}
use mathlib.Core.Path.{sym}
use borrow.Author.Tests.{lt-ltb, le-ltb}
use Rattle.std.proofs.Common.{below_more}
use Rattle.monomial.proofs.Scans.{fits_all, fits_not}
use Rattle.reader.proofs.lines.all_fit.Goals as goal

pub loop-x-init : goal.loop-x-init
loop-x-init c = λ k h. absurd (omega arith)

pub loop-x-preserved : goal.loop-x-preserved
loop-x-preserved c = below_more _ _ c.loop-x.invariant (le-ltb _ _ c.if-most-x.false)

pub returns-then-most-x : goal.returns-then-most-x
returns-then-most-x c = let a = c.args in sym (fits_not a.most a.v.now c.loop-x.x-index (omega arith) (lt-ltb _ _ c.if-most-x.true))

pub returns : goal.returns
returns c = let a = c.args in sym (fits_all a.most a.v.now (λ k h. c.loop-x.invariant k (omega arith)))
