use Rattle.sweeping.proofs.Visits.{skips_both}
use native.Mathlib.Omega.{arith}
use Prim.Native.Nat.{◌+◌}
use Rattle.sweeping.proofs.passes.past_zeros.Goals as goal

pub loop-x-preserved : goal.loop-x-preserved
loop-x-preserved c =
    let a = c.args in let l = c.loop-x in
    (omega arith, skips_both a.from l.x (l.x + 4) a.sums.now l.invariant.1 (c.four_zeros.ensures c.if-four_zeros.true))

pub returns-after-loop-x : goal.returns-after-loop-x
returns-after-loop-x c = let l = c.loop-x in (l.invariant.1, l.invariant.0)

pub returns-else-four_zeros : goal.returns-else-four_zeros
returns-else-four_zeros c = let l = c.loop-x in (l.invariant.1, l.invariant.0)
