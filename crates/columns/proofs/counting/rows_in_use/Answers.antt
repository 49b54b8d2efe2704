use native.Mathlib.Omega.{arith}
use mathlib.Core.Path.{◌≡◌, ap, ◌∙◌, subst}
use Prim.Native.Nat.{ℕ, ◌+◌, ◌-◌, ◌≤◌}
use Rattle.definitions.specs.Lists.{map}
use Rattle.definitions.specs.Betti.{smallest, largest}
use Rattle.definitions.specs.Places.{row_shift}
use Rattle.columns.proofs.counting.Ranges.{SoFar, so_far_first, so_far_more, rows_are, low_first, high_few}
use Rattle.columns.proofs.counting.rows_in_use.Goals as goal

pub loop-c-init : goal.loop-c-init
loop-c-init c = (omega arith, so_far_first c.args.state.now _)

pub loop-c-preserved : goal.loop-c-preserved
loop-c-preserved c =
    let l = c.loop-c in
    let more : l.c + 1 ≤ 11 = omega arith in
    let w = c.widened-w in
    let e = w.ensures in
    let ds = c.column.ensures.0 in
    let g : ℕ → ℕ = λ d. d + row_shift - l.c in (
      more,
      so_far_more c.args.state.now _ l.c l.low l.high w.result.low w.result.high l.invariant.1
          (e.0 ∙ ap (λ k. smallest l.low (map g k)) ds) (e.1 ∙ ap (λ k. largest l.high (map g k)) ds) e.2 e.3,
    )

pub returns : goal.returns
returns c =
    let s = c.args.state.now in
    let P = c.requires in
    let l = c.loop-c in
    let first = c.place-first in
    let e : l.c ≡ 11 = omega arith in
    let R = subst (λ f. SoFar s (f + row_shift) 11 l.low l.high) first.ensures.0
    (subst (λ i. SoFar s (first.result + row_shift) i l.low l.high) e l.invariant.1) in
    (rows_are s P.0 P.1 l.low l.high R, low_first s P.0 P.1 l.low l.high R, high_few s P.0 P.1 l.low l.high R)
