use native.Mathlib.Omega.{arith}
use mathlib.Core.Path.{◌≡◌, refl, sym, ◌∙◌, subst}
use lib.ListN.{get_or, length-set}
use Rattle.lists.specs.Filling.{Filled, filled_more, filled_list}
use Rattle.definitions.specs.Lists.{map}
use Rattle.definitions.specs.Pages.{all_columns}
use Rattle.betti.proofs.Rows.{totals_are}
use Rattle.columns.specs.counting.Columns.{columns_of, totals_of}
use Rattle.columns.proofs.counting.Counts.{at_column}
use native.Mathlib.Nat.{not-suc-le-zero}
use Rattle.columns.proofs.counting.totals.Goals as goal

pub loop-c-init : goal.loop-c-init
loop-c-init c = (omega arith, refl, λ k h. absurd (not-suc-le-zero h))

pub loop-c-preserved : goal.loop-c-preserved
loop-c-preserved c =
    let a = c.args in
    let l = c.loop-c in
    let n = c.column_length in
    let cs = columns_of a.state.now in
    let f = totals_of cs in (
      omega arith,
      simp length-set l.invariant.1,
      filled_more (λ k. get_or (map f all_columns) k 0) l.c n.result l.counts (omega arith)
          (n.ensures.long ∙ sym (totals_are cs l.c (omega arith)) ∙ at_column f l.c (omega arith)) l.invariant.2,
    )

pub returns : goal.returns
returns c =
    let a = c.args in
    let l = c.loop-c in
    let f = totals_of (columns_of a.state.now) in
    let e : l.c ≡ 11 = omega arith in
    filled_list (map f all_columns) l.counts l.invariant.1 (subst (λ i. Filled (λ k. get_or (map f all_columns) k 0) i l.counts) e l.invariant.2)
