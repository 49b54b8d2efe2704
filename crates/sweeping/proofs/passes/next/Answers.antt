use Rattle.sweeping.specs.Visits.{Skips}
use Rattle.sweeping.proofs.Visits.{skips_more}
use native.Mathlib.Omega.{arith}
use mathlib.Core.Path.{◌≡◌, refl, subst}
use Prim.Native.Nat.{◌+◌}
use Rattle.sweeping.proofs.passes.next.Goals as goal

pub loop-x-preserved : goal.loop-x-preserved
loop-x-preserved c =
    let a = c.args in let l = c.loop-x in
    (omega arith, skips_more a.from l.x (l.x + 1) a.sums.now refl c.if-sums-x-ne0.false l.invariant.1)

pub returns : goal.returns
returns c =
    let a = c.args in let l = c.loop-x in
    let z : l.x ≡ a.n = omega arith in (subst (λ x. Skips a.from x a.sums.now) z l.invariant.1, omega arith)
