use native.Mathlib.Omega.{arith}
use mathlib.Core.Path.{◌∙◌}
use Prim.Native.Nat.{◌+◌}
use Rattle.columns.proofs.values.Adding.{value_more}
use Rattle.columns.proofs.values.column_value.Goals as goal

pub loop-g-preserved : goal.loop-g-preserved
loop-g-preserved c =
    let a = c.args in
    let l = c.loop-g in
    let v = c.left_over-sum.ensures in (
      (λ k. l.invariant.0 k + v.0 k) ∙ value_more a.n a.d a.ds.now l.g-index (omega arith),
      omega (arith, v.1, l.invariant.1),
    )
