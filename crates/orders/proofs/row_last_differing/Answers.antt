use native.Mathlib.Omega.{arith}
use mathlib.Core.Path.{◌≡◌, sym, ap, ◌∙◌}
use Prim.Native.Nat.{◌+◌, ◌-◌}
use lib.ListN.{get_or}
use Rattle.std.specs.Ordering.{nat_cmp}
use Rattle.orders.specs.Images.{row_image}
use Rattle.orders.proofs.Comparing.{cmp_tied, last_differing_equal, last_differing_decided, equal_from_less}
use Rattle.orders.proofs.RowImages.{length_image, behind_image, behind_on}
use Rattle.orders.proofs.row_last_differing.Goals as goal

pub returns-then-is_ne : goal.returns-then-is_ne
returns-then-is_ne c =
    let l = c.loop-j in
    let a = c.args in
    let y = row_image a.e a.table.now a.to in
    let n = length_image a.e a.table.now a.to in
    let z : l.j - 1 + 1 ≡ l.j = omega arith in
    let q : c.joined-y.result ≡ get_or y (l.j - 1) 0 = c.joined-y.ensures
    ∙ behind_image a.e a.table.now a.to l.j (l.j - 1) l.f l.invariant.2 z l.invariant.0 l.invariant.3 in
    last_differing_decided a.x y (l.j - 1) c.cmp-d.result (omega (arith, n)) (omega arith) (rw z l.invariant.4)
    (c.cmp-d.ensures ∙ ap (λ k. nat_cmp k (get_or a.x (l.j - 1) 0)) q) (sym c.is_ne.ensures ∙ c.if-is_ne.true)

pub loop-j-preserved : goal.loop-j-preserved
loop-j-preserved c =
    let l = c.loop-j in
    let a = c.args in
    let y = row_image a.e a.table.now a.to in
    let z : l.j - 1 + 1 ≡ l.j = omega arith in
    let q : c.joined-y.result ≡ get_or y (l.j - 1) 0 = c.joined-y.ensures
    ∙ behind_image a.e a.table.now a.to l.j (l.j - 1) l.f l.invariant.2 z l.invariant.0 l.invariant.3 in
    let s : get_or a.x (l.j - 1) 0 ≡ get_or y (l.j - 1) 0 =
    sym (cmp_tied c.cmp-d.result c.joined-y.result (get_or a.x (l.j - 1) 0) c.cmp-d.ensures (sym c.is_ne.ensures ∙ c.if-is_ne.false)) ∙ q in (
      omega arith,
      l.invariant.1,
      omega (arith, l.invariant.2),
      behind_on a.e l.j (l.j - 1) l.f l.invariant.2 z l.invariant.0 l.invariant.3,
      equal_from_less a.x y l.j (l.j - 1) z l.invariant.4 s,
    )

pub returns : goal.returns
returns c =
    let l = c.loop-j in
    let a = c.args in
    let y = row_image a.e a.table.now a.to in
    let n = length_image a.e a.table.now a.to in
    sym (last_differing_equal a.x y (omega (arith, n)) (λ k h m. l.invariant.4 k (omega arith) m))
