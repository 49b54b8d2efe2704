use native.Mathlib.Omega.{arith}
use Rattle.state.proofs.degrees.Weights.{under_basis, under_above}
use Rattle.state.proofs.degrees.under_start.Goals as goal

-- src/degrees.rt:47:9
pub returns-then-k-eq0 : goal.returns-then-k-eq0
returns-then-k-eq0 c = (under_basis c.args.k c.if-k-eq0.true, omega arith)

-- src/degrees.rt:42:1
pub returns : goal.returns
returns c = (under_above c.args.k c.if-k-eq0.false, omega (arith, c.requires))
