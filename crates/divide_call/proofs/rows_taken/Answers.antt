use native.Mathlib.Omega.{arith}
use mathlib.Core.Path.{◌≡◌, sym, ap, ◌∙◌}
use Prim.Native.Nat.{◌-◌}
use Rattle.divide_call.specs.Rows.{first_bad}
use Rattle.divide_call.proofs.RowByRow.{bad_on, bad_here, bad_end}
use Rattle.divide_call.proofs.rows_taken.Goals as goal

pub loop-i-init : goal.loop-i-init
loop-i-init c =
    let a = c.args in
    let z : a.n ≡ a.n - 0 = omega arith in (omega arith, ap (first_bad a.b a.code a.vector.now 0) z)

pub row_fits-requires : goal.row_fits-requires
row_fits-requires c = omega (arith, c.requires)

pub returns-then-not-row_fits : goal.returns-then-not-row_fits
returns-then-not-row_fits c =
    let a = c.args in
    let l = c.loop-i in
    sym (l.invariant.1 ∙ bad_here a.b a.code a.vector.now l.i a.n (omega arith)
    (sym c.row_fits.ensures ∙ c.if-not-row_fits.true))

pub loop-i-preserved : goal.loop-i-preserved
loop-i-preserved c =
    let a = c.args in
    let l = c.loop-i in (
      omega arith,
      l.invariant.1 ∙ bad_on a.b a.code a.vector.now l.i a.n (omega arith)
          (sym c.row_fits.ensures ∙ c.if-not-row_fits.false),
    )

pub returns : goal.returns
returns c =
    let a = c.args in
    let l = c.loop-i in
    sym (l.invariant.1 ∙ bad_end a.b a.code a.vector.now l.i a.n (omega arith))
