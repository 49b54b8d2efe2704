use native.Mathlib.Omega.{arith}
use mathlib.Core.Path.{◌≡◌, refl, ◌∙◌, subst}
use Prim.Native.Nat.{◌-◌, ◌≤◌}
use lib.ListN.{length, get_or, length-set}
use Rattle.lists.specs.Filling.{Filled, filled_more, filled_list}
use Rattle.definitions.specs.Limits.{document_01}
use Rattle.definitions.specs.Lists.{map}
use Rattle.definitions.specs.Layout.{decode}
use Rattle.definitions.specs.Pages.{all_columns}
use Rattle.definitions.specs.Minimal.{minimal_number}
use Rattle.columns.specs.counting.Columns.{columns_of}
use Rattle.columns.proofs.counting.Counts.{at_column}
use native.Mathlib.Nat.{not-suc-le-zero}
use Rattle.minimal_page.proofs.numbers.row_numbers.Goals as goal

pub loop-c-init : goal.loop-c-init
loop-c-init c = (omega arith, refl, λ k h. absurd (not-suc-le-zero h))

pub loop-c-preserved : goal.loop-c-preserved
loop-c-preserved c =
    let a = c.args in
    let l = c.loop-c in
    let b = c.minimal_number in
    let f = minimal_number (decode document_01 a.state.now) (columns_of a.state.now) a.r in (
      omega arith,
      simp length-set l.invariant.1,
      filled_more (λ k. get_or (map f all_columns) k 0) l.c b.result l.numbers (omega arith)
          (b.ensures ∙ at_column f l.c (omega arith)) l.invariant.2,
    )

pub returns : goal.returns
returns c =
    let a = c.args in
    let l = c.loop-c in
    let f = minimal_number (decode document_01 a.state.now) (columns_of a.state.now) a.r in
    let e : l.c ≡ 11 = omega arith in
    filled_list (map f all_columns) l.numbers l.invariant.1 (subst (λ i. Filled (λ k. get_or (map f all_columns) k 0) i l.numbers) e l.invariant.2)
