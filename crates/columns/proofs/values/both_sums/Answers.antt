use native.Mathlib.Omega.{arith}
use mathlib.Core.Path.{◌≡◌, sym, ap, ◌∙◌}
use Prim.Native.Nat.{◌+◌}
use Rattle.definitions.specs.Hilbert.{column_value}
use Rattle.columns.proofs.values.Adding.{even_from, odd_from, even_more, odd_more, even_none, odd_none, even_all, odd_all}
use Rattle.columns.proofs.values.both_sums.Goals as goal

pub loop-c-init : goal.loop-c-init
loop-c-init c =
    let a = c.args in
    let P = c.requires in
    (omega arith, even_none a.n a.d a.state.now P.0 P.1, odd_none a.n a.d a.state.now P.0 P.1, omega arith, omega arith)

pub loop-c-preserved : goal.loop-c-preserved
loop-c-preserved c =
    let a = c.args in
    let l = c.loop-c in
    let v = c.column_value.ensures in (
      omega arith,
      (λ k. (v.0 ∙ ap (column_value a.n a.d) c.column.ensures.0) k + l.invariant.2 k) ∙ sym (even_more a.n a.d a.state.now l.c (omega arith)),
      l.invariant.1 ∙ sym (odd_more a.n a.d a.state.now l.c (omega arith)),
      omega (arith, v.1, l.invariant.4),
      omega (arith, l.invariant.3),
    )

pub returns : goal.returns
returns c =
    let a = c.args in
    let l = c.loop-c in
    let e : l.c ≡ 0 = omega arith in (
      l.invariant.1 ∙ ap (even_from a.n a.d a.state.now) e ∙ even_all a.n a.d a.state.now,
      l.invariant.2 ∙ ap (odd_from a.n a.d a.state.now) e ∙ odd_all a.n a.d a.state.now,
      omega (arith, l.invariant.3),
    )
