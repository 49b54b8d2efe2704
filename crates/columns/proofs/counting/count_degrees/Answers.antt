use native.Mathlib.Omega.{arith}
use mathlib.Core.Path.{ap, ◌∙◌}
use Prim.Native.Nat.{ℕ, ◌+◌}
use borrow.Author.Tests.{eq-eqb, ne_eqb}
use lib.ListN.{get_or}
use mathlib.Core.Bool.{Bool}
use lib.Dec.{eqb}
use Rattle.definitions.specs.Places.{row_shift}
use Rattle.columns.specs.counting.Columns.{counted}
use Rattle.columns.proofs.counting.Counts.{count_more, counted_one, counted_none}
use Rattle.columns.proofs.counting.count_degrees.Goals.{then-place-x, else-place-x}
use Rattle.columns.proofs.counting.count_degrees.Goals as goal

pub loop-d-preserved : goal.loop-d-preserved
loop-d-preserved c =
    let a = c.args in
    let l = c.loop-d in
    let test : ℕ → Bool = λ d. eqb (d + row_shift) a.x in
    let y : ℕ = get_or a.ds.now l.d-index 0 in
    let more = ap (counted (test y)) l.invariant.0 ∙ count_more test a.ds.now l.d-index (omega arith) in
    let e = ap (λ i. i + row_shift) c.place.ensures.0 in elim c.if-place-x.branch [
      | then-place-x w ↦ (
        w.k-is ∙ counted_one (test y) l.k (eq-eqb (y + row_shift) a.x (omega (arith, e, w.if-place-x.true))) ∙ more,
        omega (arith, w.k-is, l.invariant.1),
      )
      | else-place-x w ↦ (
        w.k-is ∙ counted_none (test y) l.k (ne_eqb (y + row_shift) a.x (λ z. w.if-place-x.false (e ∙ z))) ∙ more,
        omega (arith, w.k-is, l.invariant.1),
      )
    ]
