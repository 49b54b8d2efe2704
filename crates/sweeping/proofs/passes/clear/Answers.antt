use Rattle.sweeping.proofs.Sums.{all_zero}
use native.Mathlib.Omega.{arith}
use Rattle.sweeping.proofs.passes.clear.Goals as goal

pub returns : goal.returns
returns c =
    let l = c.loop-sum in record {
      enough = omega arith;
      zero_all = λ j. all_zero l.sums j (λ k. l.invariant j (omega (arith, k)));
    }
