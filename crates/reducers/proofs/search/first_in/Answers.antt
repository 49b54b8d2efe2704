use native.Mathlib.Omega.{arith}
use mathlib.Core.Path.{sym, ◌∙◌}
use Rattle.definitions.specs.Layout.{row_at}
use Rattle.monomial.specs.Values.{monomial_of}
use Rattle.reducers.proofs.search.Firsts.{first_past}
use Rattle.definitions.specs.Monomial.{divides_monomial?}
use Rattle.reducers.proofs.search.first_in.Goals as goal

pub loop-i-preserved : goal.loop-i-preserved
loop-i-preserved c =
    let l = c.loop-i in
    let a = c.args in (
      omega arith,
      omega arith,
      l.invariant.2 ∙ first_past (λ k. divides_monomial? (row_at a.heads.now k).1 (monomial_of a.m)) l.i a.to (omega arith)
          (sym c.if-row_divides.false ∙ c.row_divides.ensures),
    )
