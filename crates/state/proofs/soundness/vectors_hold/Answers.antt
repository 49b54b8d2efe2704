use native.Mathlib.Omega.{arith}
use mathlib.Core.Path.{◌≡◌, refl, sym, ◌∙◌}
use lib.ListN.{length, take, get_or}
use lib.Seq.{length-take-le, get_or-take}
use Rattle.orders.specs.Images.{table_of, table_order}
use Rattle.state.proofs.soundness.VectorByVector.{vectors_on, vectors_stop, vectors_end}
use Rattle.state.proofs.soundness.vectors_hold.Goals as goal

pub loop-j-init : goal.loop-j-init
loop-j-init c = (omega arith, refl)

pub vector_holds-requires : goal.vector_holds-requires
vector_holds-requires c = (omega arith, omega arith, c.requires.3)

pub returns-then-not-vector_holds : goal.returns-then-not-vector_holds
returns-then-not-vector_holds c =
    let a = c.args in
    let l = c.loop-j in
    let O = table_order a.code (table_of a.n a.table.now) in
    let es = take a.r a.ends.now in
    let n : length es ≡ a.r = length-take-le a.r a.ends.now (omega arith) in
    let q : get_or es l.j 0 ≡ c.place-to.result = get_or-take a.r a.ends.now l.j 0 (omega arith)
    ∙ sym c.place-to.ensures.0 in
    sym (l.invariant.1 ∙ vectors_stop a.b a.most O a.level.now es l.j l.from c.place-to.result (omega arith) q
    (sym c.vector_holds.ensures ∙ c.if-not-vector_holds.true))

pub loop-j-preserved : goal.loop-j-preserved
loop-j-preserved c =
    let a = c.args in
    let l = c.loop-j in
    let O = table_order a.code (table_of a.n a.table.now) in
    let es = take a.r a.ends.now in
    let n : length es ≡ a.r = length-take-le a.r a.ends.now (omega arith) in
    let q : get_or es l.j 0 ≡ c.place-to.result = get_or-take a.r a.ends.now l.j 0 (omega arith)
    ∙ sym c.place-to.ensures.0 in (
      omega arith,
      l.invariant.1 ∙ vectors_on a.b a.most O a.level.now es l.j l.from c.place-to.result
          (omega arith) q (sym c.vector_holds.ensures
          ∙ c.if-not-vector_holds.false),
    )

pub returns : goal.returns
returns c =
    let a = c.args in
    let l = c.loop-j in
    let O = table_order a.code (table_of a.n a.table.now) in
    let es = take a.r a.ends.now in
    let n : length es ≡ a.r = length-take-le a.r a.ends.now (omega arith) in
    sym (l.invariant.1 ∙ vectors_end a.b a.most O a.level.now es l.j l.from (omega arith))
