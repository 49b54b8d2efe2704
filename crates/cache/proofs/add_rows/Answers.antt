use native.Mathlib.Omega.{arith}
use mathlib.Core.Path.{◌≡◌, sym, ap, ◌∙◌, subst}
use Prim.Native.Nat.{◌+◌}
use Rattle.vectors.specs.terms.Rows.{term_of}
use Rattle.orders.specs.Images.{table_of, table_order}
use Rattle.monomial.specs.Values.{monomial_of}
use Rattle.definitions.specs.Monomial.{Term}
use Rattle.definitions.specs.Layout.{Words, row_at, rows}
use Rattle.cache.proofs.BoundedSums.{scaled, adding_on, adding_stops, adding_ends}
use Rattle.cache.specs.Area.{Room}
use Rattle.cache.proofs.add_rows.Goals as goal

pub returns-in_err-k : goal.returns-in_err-k
returns-in_err-k c =
    let a = c.args in
    let P = c.requires in
    let l = c.loop-i in
    let O = table_order a.code (table_of a.r a.table.now) in
    let H : Words = a.part.now in
    let ins = c.insert_row in
    let z : l.i ≡ 0 + l.i = omega arith in
    let E : term_of c.row-t.result
    ≡ row_at H (0 + l.i) = c.row-t.ensures ∙ ap (row_at H) z in
    let u : Term = (
      c.times-b.result,
      monomial_of c.row-t.result.monomial,
    ) in
    let S = scaled a.p a.c c.times-b.result
    c.row-t.result.coefficient
    (monomial_of c.row-t.result.monomial) (row_at H (0 + l.i))
    c.times-b.ensures E in rw c.from_residual.ensures (
      sym (l.invariant.3 ∙ adding_stops O a.p a.limit 0 a.c H 0 a.len l.i (rows l.s 0 l.k)
          (omega (arith, c.loop-i-test.true)) u ins.result ins.new.work S ins.ensures.0 c.in_err-k.was),
      tt,
    )

pub loop-i-preserved : goal.loop-i-preserved
loop-i-preserved c =
    let a = c.args in
    let P = c.requires in
    let l = c.loop-i in
    let O = table_order a.code (table_of a.r a.table.now) in
    let H : Words = a.part.now in
    let ins = c.insert_row in
    let z : l.i ≡ 0 + l.i = omega arith in
    let E : term_of c.row-t.result ≡ row_at H (0 + l.i) = c.row-t.ensures ∙ ap (row_at H) z in
    let u : Term = (
      c.times-b.result,
      monomial_of c.row-t.result.monomial,
    ) in
    let S = scaled a.p a.c c.times-b.result
    c.row-t.result.coefficient (monomial_of c.row-t.result.monomial) (row_at H (0 + l.i))
    c.times-b.ensures E in (
      omega (arith, c.loop-i-test.true),
      omega (arith, subst (Room 0 a.limit) c.in_ok-k.was ins.ensures.1),
      omega (arith, ins.auto.work, l.invariant.2),
      l.invariant.3 ∙ adding_on O a.p a.limit 0 a.c H 0 a.len l.i (rows l.s 0 l.k)
          (omega (arith, c.loop-i-test.true)) u ins.result ins.new.work S ins.ensures.0 c.in_ok-k.k
          c.in_ok-k.was,
    )

pub returns : goal.returns
returns c =
    let a = c.args in
    let P = c.requires in
    let l = c.loop-i in
    let O = table_order a.code (table_of a.r a.table.now) in
    let H : Words = a.part.now in
    (sym (l.invariant.3 ∙ adding_ends O a.p a.limit 0 a.c H 0 a.len l.i (rows l.s 0 l.k) (omega arith)), omega (arith, l.invariant.1))
