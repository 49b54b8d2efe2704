use native.Mathlib.Omega.{arith}
use mathlib.Core.Path.{◌≡◌, refl, ap, ◌∙◌}
use Rattle.testing.proofs.LeavesCalls.{filled_none}
use Rattle.testing.specs.Leaves.{filled, product_at}
use Rattle.vectors.specs.terms.Rows.{term_of}
use Rattle.testing.proofs.LeavesCalls.{filled_step}
use Rattle.testing.proofs.leaves.fill_products.Goals as goal

pub loop-i-init : goal.loop-i-init
loop-i-init c = let a = c.args in (omega arith, refl, filled_none (product_at a.s.now) a.d.now)

pub put-requires : goal.put-requires
put-requires c = omega (arith, c.loop-i.invariant.1)

pub loop-i-preserved : goal.loop-i-preserved
loop-i-preserved c =
    let a = c.args in let l =
    c.loop-i in (
      omega arith,
      omega (arith, l.invariant.1),
      c.put.ensures.0
          ∙ filled_step (product_at a.s.now) a.d.now l.d l.i (term_of c.product_at-t.result) l.invariant.2
          c.product_at-t.ensures,
    )

pub shape_of-d : goal.shape_of-d
shape_of-d c = omega (arith, c.loop-i.invariant.1)

pub returns : goal.returns
returns c =
    let a = c.args in
    let l = c.loop-i in
    let z : l.i ≡ a.n = omega arith in
    l.invariant.2 ∙ ap (filled (product_at a.s.now) a.d.now) z
