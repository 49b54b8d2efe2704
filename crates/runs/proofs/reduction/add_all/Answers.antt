use native.Mathlib.Omega.{arith}
use mathlib.Core.Path.{refl, sym, ◌∙◌}
use Rattle.std.proofs.lemmas.Result.{err_from_is_err_and}
use Rattle.runs.proofs.reduction.Adding.{adding_on, adding_stops, adding_ends}
use Rattle.runs.specs.reduction.Grounds.{reduction_of}
use Rattle.definitions.specs.Packed.{unpack}
use Rattle.definitions.specs.Layout.{rows}
use Rattle.runs.proofs.reduction.add_all.Goals as goal

pub loop-i-init : goal.loop-i-init
loop-i-init c = (omega arith, omega arith, refl, refl)

pub add_product-requires : goal.add_product-requires
add_product-requires c = (c.requires.0, omega arith, omega arith, omega arith)

pub returns : goal.returns
returns c =
    let a = c.args in
    let l = c.loop-i in
    let R = reduction_of a.g a.tables.now in
    (sym (l.invariant.3 ∙ adding_ends R a.drops a.c (unpack a.q) a.level.now l.i a.to (rows l.value 0 l.k) (omega arith)), omega arith)

pub returns-in_err-k : goal.returns-in_err-k
returns-in_err-k c =
    let a = c.args in
    let l = c.loop-i in
    let R = reduction_of a.g a.tables.now in
    let p = err_from_is_err_and c.from_residual.result c.from_residual.ensures.1 in
    rw (p.1, p.2) (
      sym (l.invariant.3 ∙ adding_stops R a.drops a.c (unpack a.q) a.level.now l.i a.to (rows l.value 0 l.k) _ (omega arith) c.in_err-k.ensures.0),
      tt,
    )

pub loop-i-preserved : goal.loop-i-preserved
loop-i-preserved c =
    let a = c.args in
    let l = c.loop-i in
    let R = reduction_of a.g a.tables.now in (
      omega arith,
      c.in_ok-k.ensures.1,
      omega arith,
      l.invariant.3 ∙ adding_on R a.drops a.c (unpack a.q) a.level.now l.i a.to (rows l.value 0 l.k) _ (omega arith) c.in_ok-k.ensures.0,
    )
