use native.Mathlib.Omega.{arith}
use mathlib.Core.Path.{◌≡◌, refl, sym, ap, ◌∙◌, subst}
use Prim.Native.Nat.{◌+◌, ◌-◌}
use Rattle.definitions.specs.Layout.{rows}
use Rattle.orders.specs.Images.{table_of, key, key_of, compare_keys}
use Rattle.vectors.specs.sums.Places.{renewed_from}
use Rattle.runs.proofs.reduction.Picking.{GreatestOfFirst, first_alone, walked}
use Rattle.runs.proofs.reduction.greatest.Goals as goal

pub image_at-image-requires : goal.image_at-image-requires
image_at-image-requires c = (omega arith, omega arith, c.requires.3)

pub loop-best-init : goal.loop-best-init
loop-best-init c =
    let a = c.args in
    (omega arith, c.image_at-image.ensures, first_alone a.code (table_of a.images a.below.now) a.value.now)

pub walk-next-requires : goal.walk-next-requires
walk-next-requires c = (omega arith, omega arith, c.requires.3)

pub returns-then-n-next : goal.returns-then-n-next
returns-then-n-next c =
    let l = c.loop-best in
    let a = c.args in
    let T = table_of a.images a.below.now in
    let x = c.walk-next.result in
    let i = l.best.row + 1 in
    let w =
    walked a.code T a.value.now a.n l.best.row (a.n - i) i x.row (key_of x.image) refl (omega arith) (omega arith) l.invariant.2
    (c.walk-next.ensures ∙ ap (λ k. renewed_from (compare_keys a.code) (key T) k (rows a.value.now i (a.n - i)) i) l.invariant.1) in
    sym (w.1 c.if-n-next.true)

pub loop-best-smaller : goal.loop-best-smaller
loop-best-smaller c =
    let l = c.loop-best in
    let a = c.args in
    let T = table_of a.images a.below.now in
    let x = c.walk-next.result in
    let i = l.best.row + 1 in
    let w =
    walked a.code T a.value.now a.n l.best.row (a.n - i) i x.row (key_of x.image) refl (omega arith) (omega arith) l.invariant.2
    (c.walk-next.ensures ∙ ap (λ k. renewed_from (compare_keys a.code) (key T) k (rows a.value.now i (a.n - i)) i) l.invariant.1) in
    omega (arith, w.0)

pub loop-best-preserved : goal.loop-best-preserved
loop-best-preserved c =
    let l = c.loop-best in
    let a = c.args in
    let T = table_of a.images a.below.now in
    let x = c.walk-next.result in
    let i = l.best.row + 1 in
    let w =
    walked a.code T a.value.now a.n l.best.row (a.n - i) i x.row (key_of x.image) refl (omega arith) (omega arith) l.invariant.2
    (c.walk-next.ensures ∙ ap (λ k. renewed_from (compare_keys a.code) (key T) k (rows a.value.now i (a.n - i)) i) l.invariant.1) in
    let g = w.2 (omega arith) in
    (omega arith, g.1, g.0)

pub returns : goal.returns
returns c =
    let l = c.loop-best in
    let a = c.args in
    let z : l.best.row + 1 ≡ a.n = omega (arith, l.invariant.0) in
    sym (subst (λ i. GreatestOfFirst a.code (table_of a.images a.below.now) a.value.now i l.best.row) z l.invariant.2)
