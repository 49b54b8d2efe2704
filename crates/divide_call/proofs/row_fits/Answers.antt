use native.Mathlib.Omega.{arith}
use mathlib.Core.Path.{sym, ◌∙◌}
use Rattle.divide_call.proofs.RowByRow.{fits_late, fits_by, fits_not}
use Rattle.divide_call.proofs.row_fits.Goals as goal
use Rattle.divide_call.proofs.row_fits.Goals.{then-i-lt-MOST_TERMS, else-i-lt-MOST_TERMS}

pub returns-then-row_holds : goal.returns-then-row_holds
returns-then-row_holds c =
    let a = c.args in
    elim c.if-i-lt-MOST_TERMS.branch [
      | then-i-lt-MOST_TERMS w ↦
          c.row_below.ensures ∙ fits_by a.b a.code a.vector.now a.i (sym w.row_holds.ensures ∙ sym w.value-is ∙ c.if-row_holds.true) (omega arith)
      | else-i-lt-MOST_TERMS w ↦ absurd (omega (arith, w.value-is, c.if-row_holds.true))
    ]

pub returns-else-row_holds : goal.returns-else-row_holds
returns-else-row_holds c =
    let a = c.args in
    c.if-row_holds.false ∙ elim c.if-i-lt-MOST_TERMS.branch [
      | then-i-lt-MOST_TERMS w ↦ fits_not a.b a.code a.vector.now a.i (sym w.row_holds.ensures ∙ sym w.value-is ∙ c.if-row_holds.false)
      | else-i-lt-MOST_TERMS w ↦ fits_late a.b a.code a.vector.now a.i (omega arith)
    ]
