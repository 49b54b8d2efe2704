use native.Mathlib.Omega.{arith}
use mathlib.Core.Path.{◌≡◌, refl, ap, ◌∙◌}
use Prim.Native.Nat.{◌-◌}
use lib.ListN.{length}
use lib.Seq.{paste}
use Rattle.definitions.specs.Layout.{rows}
use Rattle.ranks.specs.Blocks.{row_from}
use Rattle.constants.proofs.filling.Vectorwise.{terms_none, terms_more}
use Rattle.constants.proofs.filling.fill_vector.Goals as goal

pub loop-i-init : goal.loop-i-init
loop-i-init c =
    let a = c.args in
    let P = c.requires in
    let es = a.below.now in
    (omega arith, omega arith, refl, terms_none a.m.now a.at a.level.now a.to es a.d (length es) refl P.3)

pub loop-i-preserved : goal.loop-i-preserved
loop-i-preserved c =
    let l = c.loop-i in
    let a = c.args in
    let P = c.requires in
    let es = a.below.now in
    let f = c.fill_term in
    let turn = c.loop-i-test in (
      omega arith,
      omega arith,
      omega arith,
      terms_more a.m.now a.at a.level.now a.to es a.d (length es) refl l.m f.new.m l.i P.2 (omega arith) l.invariant.1 l.invariant.3
          f.ensures,
    )

pub returns : goal.returns
returns c =
    let l = c.loop-i in
    let a = c.args in
    let e : l.i ≡ a.from = omega arith in
    l.invariant.3 ∙ ap (λ i. paste a.m.now a.at (row_from 1 a.below.now a.d (rows a.level.now i (a.to - i))) (length a.below.now)) e
