use native.Mathlib.Omega.{arith}
use mathlib.Core.Path.{◌≡◌, sym, ◌∙◌, subst}
use Prim.Native.Nat.{◌+◌, ◌<◌}
use Rattle.definitions.specs.Monomial.{product}
use Rattle.definitions.specs.Packed.{unpack}
use Rattle.laws.proofs.Packing.{unpack_long, unpack_at}
use Rattle.lists.specs.Filling.{filled_more, filled_list}
use Rattle.monomial.proofs.Places.{getD_product, length_product}
use Rattle.orders.specs.Images.{exponents_raw}
use Rattle.orders.proofs.Comparing.{getD_raw}
use lib.ListN.{length, get_or, length-set}
use Rattle.orders.proofs.shifted.Goals as goal

-- src/lib.rt:236:16
pub overflow_add-w-in-loop-j : goal.overflow_add-w-in-loop-j
overflow_add-w-in-loop-j c =
    let l = c.loop-j in
    let a = c.args in
    let small : get_or c.widened-x.result l.j 0 < 256 =
    subst (λ v. get_or v l.j 0 < 256) (sym l.invariant.1) (unpack_at a.e l.j) in
    omega (arith, small, c.requires.1 l.j (omega arith))

-- src/lib.rt:235:5
pub loop-j-preserved : goal.loop-j-preserved
loop-j-preserved c =
    let l = c.loop-j in
    let a = c.args in
    let t = exponents_raw a.table.now a.at in
    let s : get_or c.widened-x.result l.j 0 + get_or a.table.now (a.at + l.j) 0 ≡ get_or (product (unpack a.e) t) l.j 0 =
    (λ i. get_or (l.invariant.1 i) l.j 0 + sym (getD_raw a.table.now a.at l.j (omega arith)) i)
    ∙ sym (getD_product (unpack a.e) t l.j (sym (unpack_long a.e)) (omega (arith, unpack_long a.e))) in
    (omega arith, l.invariant.1, simp length-set l.invariant.2, filled_more _ l.j _ l.w (omega arith) s l.invariant.3)

-- src/lib.rt:228:1
pub returns : goal.returns
returns c =
    let l = c.loop-j in
    let a = c.args in
    let t = exponents_raw a.table.now a.at in
    let s : length (product (unpack a.e) t) ≡ 8 = length_product (unpack a.e) t (sym (unpack_long a.e)) ∙ unpack_long a.e in
    filled_list (product (unpack a.e) t) l.w (l.invariant.2 ∙ sym s) (λ k h. l.invariant.3 k (omega (arith, s)))
