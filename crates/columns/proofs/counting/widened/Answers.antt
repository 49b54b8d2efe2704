use native.Mathlib.Omega.{arith}
use mathlib.Core.Path.{◌∙◌}
use Prim.Native.Nat.{ℕ, ◌+◌, ◌-◌, min, max}
use Rattle.definitions.specs.Places.{row_shift}
use Rattle.columns.proofs.counting.Ranges.{smallest_more, largest_more}
use Rattle.columns.proofs.counting.widened.Goals as goal

pub loop-d-preserved : goal.loop-d-preserved
loop-d-preserved c =
    let a = c.args in
    let l = c.loop-d in
    let x = c.place.ensures.0 in
    let u = c.min-a.ensures in
    let v = c.max-b.ensures in
    let g : ℕ → ℕ = λ d. d + row_shift - a.c in (
      u ∙ (λ j. min (l.invariant.0 j) (g (x j))) ∙ smallest_more g a.ds.now l.d-index a.low (omega arith),
      v ∙ (λ j. max (l.invariant.1 j) (g (x j))) ∙ largest_more g a.ds.now l.d-index a.high (omega arith),
      omega (arith, u, l.invariant.2),
      omega (arith, v, l.invariant.3),
    )
