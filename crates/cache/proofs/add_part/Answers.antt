use native.Mathlib.Omega.{arith}
use mathlib.Core.Path.{◌≡◌, sym, ap, ◌∙◌, subst}
use Prim.Native.Nat.{◌+◌, ◌*◌}
use Rattle.vectors.specs.terms.Rows.{term_of}
use Rattle.orders.specs.Images.{table_of, table_order}
use Rattle.monomial.specs.Values.{monomial_of}
use Rattle.definitions.specs.Monomial.{Term}
use Rattle.definitions.specs.Layout.{Words, row_at, rows}
use Rattle.definitions.specs.Lists.{choose}
use Rattle.definitions.specs.Places.{row_length}
use Rattle.cache.proofs.BoundedSums.{scaled, adding_on, adding_stops, adding_ends, held_row}
use Rattle.cache.proofs.Parts.{part_row}
use Rattle.cache.specs.Area.{Room}
use Rattle.cache.proofs.add_part.Goals as goal

pub returns-in_err-k : goal.returns-in_err-k
returns-in_err-k c =
    let a = c.args in
    let P = c.requires in
    let l = c.loop-i in
    let O = table_order a.code (table_of a.r a.table.now) in
    let H : Words = choose a.in_cache a.cache.now a.work.now in
    let ins = c.insert_row in
    let E : term_of c.row-u.result
    ≡ row_at H (a.from + l.i) = c.row-u.ensures
    ∙ ap (λ w. row_at w l.i) c.held-part.ensures ∙ part_row (choose a.in_cache a.cache.now l.work) a.from
    (a.len * row_length) l.i (omega (arith, c.loop-i-test.true))
    ∙ held_row a.in_cache a.cache.now a.work.now l.work a.top (a.from + l.i) l.invariant.4 (λ q. omega (arith, P.6 q)) in
    let u : Term = (
      c.times-b.result,
      monomial_of c.row-u.result.monomial,
    ) in
    let S = scaled a.p a.c c.times-b.result
    c.row-u.result.coefficient
    (monomial_of c.row-u.result.monomial) (row_at H (a.from + l.i))
    c.times-b.ensures E in rw c.from_residual.ensures (
      sym (l.invariant.5 ∙ adding_stops O a.p a.top a.a a.c H a.from a.len l.i (rows l.work a.a l.k)
          (omega (arith, c.loop-i-test.true)) u ins.result ins.new.work S ins.ensures.0 c.in_err-k.was),
      tt,
      (λ k h. ins.ensures.2 k h ∙ l.invariant.3 k h),
    )

pub loop-i-preserved : goal.loop-i-preserved
loop-i-preserved c =
    let a = c.args in
    let P = c.requires in
    let l = c.loop-i in
    let O = table_order a.code (table_of a.r a.table.now) in
    let H : Words = choose a.in_cache a.cache.now a.work.now in
    let ins = c.insert_row in
    let E : term_of c.row-u.result ≡ row_at H (a.from + l.i) = c.row-u.ensures
    ∙ ap (λ w. row_at w l.i) c.held-part.ensures
    ∙ part_row (choose a.in_cache a.cache.now l.work) a.from (a.len * row_length) l.i
    (omega (arith, c.loop-i-test.true))
    ∙ held_row a.in_cache a.cache.now a.work.now l.work a.top (a.from + l.i) l.invariant.4 (λ q. omega (arith, P.6 q)) in
    let u : Term = (
      c.times-b.result,
      monomial_of c.row-u.result.monomial,
    ) in
    let S = scaled a.p a.c c.times-b.result
    c.row-u.result.coefficient (monomial_of c.row-u.result.monomial) (row_at H (a.from + l.i))
    c.times-b.ensures E in (
      omega (arith, c.loop-i-test.true),
      subst (Room a.a a.top) c.in_ok-k.was ins.ensures.1,
      omega (arith, ins.auto.work, l.invariant.2),
      (λ k h. ins.ensures.2 k h ∙ l.invariant.3 k h),
      (λ k h. ins.ensures.3 k h ∙ l.invariant.4 k h),
      l.invariant.5
          ∙ adding_on O a.p a.top a.a a.c H a.from a.len l.i (rows l.work a.a l.k)
          (omega (arith, c.loop-i-test.true)) u ins.result ins.new.work S ins.ensures.0
          c.in_ok-k.k c.in_ok-k.was,
    )

pub returns : goal.returns
returns c =
    let a = c.args in
    let P = c.requires in
    let l = c.loop-i in
    let O = table_order a.code (table_of a.r a.table.now) in
    let H : Words = choose a.in_cache a.cache.now a.work.now in (
      sym (l.invariant.5 ∙ adding_ends O a.p a.top a.a a.c H a.from a.len l.i (rows l.work a.a l.k) (omega arith)),
      l.invariant.1,
      l.invariant.3,
    )
