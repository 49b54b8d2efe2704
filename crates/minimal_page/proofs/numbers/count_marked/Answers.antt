use native.Mathlib.Omega.{arith}
use mathlib.Core.Path.{◌≡◌, ap, ◌∙◌}
use Prim.Native.Nat.{ℕ, ◌+◌}
use borrow.Author.Tests.{eq-eqb, ne_eqb}
use lib.Dec.{eqb}
use mathlib.Core.Bool.{Bool}
use lib.ListN.{length, take, get_or}
use lib.Seq.{take_all}
use Rattle.definitions.specs.Lists.{sum}
use Rattle.definitions.specs.Minimal.{of_degree}
use Rattle.definitions.specs.Places.{row_shift}
use Rattle.minimal_page.specs.numbers.Marks.{with_mark}
use Rattle.minimal_page.proofs.numbers.Marking.{with_one, with_none, marks_more}
use Rattle.minimal_page.proofs.numbers.count_marked.Goals.{then-place-x, else-place-x}
use Rattle.minimal_page.proofs.numbers.count_marked.Goals as goal

pub loop-i-preserved : goal.loop-i-preserved
loop-i-preserved c =
    let a = c.args in
    let l = c.loop-i in
    let d : ℕ = get_or a.ds.now l.i 0 in
    let m : ℕ = get_or a.marks.now l.i 0 in
    let b : Bool = eqb (d + row_shift) a.x in
    let more = ap (with_mark b m) l.invariant.0 ∙ marks_more a.x a.ds.now a.marks.now l.i (omega arith) (omega (arith, c.requires.0)) in
    let e = ap (λ i. i + row_shift) c.place.ensures.0 in elim c.if-place-x.branch [
      | then-place-x w ↦ (
        w.k-is ∙ ap (λ y. l.k + y) w.place-k.ensures.0
            ∙ with_one b m l.k (eq-eqb (d + row_shift) a.x (omega (arith, e, w.if-place-x.true))) ∙ more,
        omega (arith, w.k-is, w.place-k.ensures.1, l.invariant.1),
      )
      | else-place-x w ↦ (
        w.k-is ∙ with_none b m l.k (ne_eqb (d + row_shift) a.x (λ z. w.if-place-x.false (e ∙ z))) ∙ more,
        omega (arith, w.k-is, l.invariant.1),
      )
    ]

pub returns : goal.returns
returns c =
    let a = c.args in
    let l = c.loop-i in
    let n = length a.ds.now in
    let e : l.i ≡ n = omega arith in (
      l.invariant.0 ∙ ap (λ j. sum (of_degree a.x (take j a.ds.now) (take j a.marks.now))) e
          ∙ ap (λ ds. sum (of_degree a.x ds (take n a.marks.now))) (take_all n a.ds.now (omega arith)),
      omega (arith, l.invariant.1, e, c.requires.1),
    )
