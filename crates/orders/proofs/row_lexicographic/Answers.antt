use native.Mathlib.Omega.{arith}
use mathlib.Core.Path.{◌≡◌, sym, ap, ◌∙◌}
use lib.ListN.{get_or}
use Rattle.std.specs.Ordering.{nat_cmp}
use Rattle.orders.specs.Images.{row_image}
use Rattle.orders.proofs.Comparing.{cmp_tied, lexicographic_decided, lexicographic_on, lexicographic_end}
use Rattle.orders.proofs.RowImages.{length_image, ahead_image, ahead_on}
use Rattle.orders.proofs.row_lexicographic.Goals as goal

pub returns-then-is_ne : goal.returns-then-is_ne
returns-then-is_ne c =
    let l = c.loop-j in
    let a = c.args in
    let y = row_image a.e a.table.now a.to in
    let n = length_image a.e a.table.now a.to in
    let q : c.joined-y.result ≡ get_or y l.j 0 = c.joined-y.ensures
    ∙ ahead_image a.e a.table.now a.to l.j l.f l.invariant.2 (omega arith) l.invariant.3 in
    lexicographic_decided a.x y l.j c.cmp-d.result (omega arith) (omega (arith, n)) (c.cmp-d.ensures ∙ ap (nat_cmp (get_or a.x l.j 0)) q)
    (sym c.is_ne.ensures ∙ c.if-is_ne.true)
    ∙ sym l.invariant.4

pub loop-j-preserved : goal.loop-j-preserved
loop-j-preserved c =
    let l = c.loop-j in
    let a = c.args in
    let y = row_image a.e a.table.now a.to in
    let n = length_image a.e a.table.now a.to in
    let q : c.joined-y.result ≡ get_or y l.j 0 = c.joined-y.ensures
    ∙ ahead_image a.e a.table.now a.to l.j l.f l.invariant.2 (omega arith) l.invariant.3 in
    let s : get_or a.x l.j 0 ≡ get_or y l.j 0 =
    cmp_tied c.cmp-d.result (get_or a.x l.j 0) c.joined-y.result c.cmp-d.ensures (sym c.is_ne.ensures ∙ c.if-is_ne.false) ∙ q in (
      omega arith,
      l.invariant.1,
      omega arith,
      ahead_on a.e l.j l.f l.invariant.2 l.invariant.3,
      l.invariant.4 ∙ lexicographic_on a.x y l.j (omega arith) (omega (arith, n)) s,
    )

pub returns : goal.returns
returns c =
    let l = c.loop-j in
    let a = c.args in
    let y = row_image a.e a.table.now a.to in
    let n = length_image a.e a.table.now a.to in
    sym (l.invariant.4 ∙ lexicographic_end a.x y l.j (omega arith) (omega (arith, n)))
