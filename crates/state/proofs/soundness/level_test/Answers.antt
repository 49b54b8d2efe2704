use native.Mathlib.Omega.{arith}
use mathlib.Core.Path.{ap, ◌∙◌}
use lib.ListN.{get_or}
use Rattle.orders.specs.Images.{table_of, table_order}
use Rattle.state.specs.soundness.Holding.{level_holds?}
use Rattle.state.proofs.soundness.VectorByVector.{test_basis, test_above}
use Rattle.definitions.specs.Places.{most_elements, most_vectors, most_rows, most_terms}
use Rattle.state.proofs.soundness.level_test.Goals as goal

pub level_holds-requires : goal.level_holds-requires
level_holds-requires c = (
  omega arith,
  omega arith,
  omega arith,
  omega arith,
  c.requires.3,
)

pub returns-then-k-eq0 : goal.returns-then-k-eq0
returns-then-k-eq0 c =
    let a = c.args in
    let s = a.state.now in
    let T = table_of a.n a.table.now in
    c.level_holds.ensures ∙ ap (λ b. level_holds? 1 most_elements most_rows b (table_order (get_or s 2 0) T) s a.k) c.row_bounds-b.ensures
    ∙ test_basis s a.k T c.if-k-eq0.true

pub level_holds-requires-2 : goal.level_holds-requires-2
level_holds-requires-2 c = (
  omega arith,
  omega arith,
  omega arith,
  omega arith,
  c.requires.3,
)

pub returns : goal.returns
returns c =
    let a = c.args in
    let s = a.state.now in
    let T = table_of a.n a.table.now in
    c.level_holds-2.ensures ∙ ap (λ b. level_holds? 0 most_vectors most_terms b (table_order (get_or s 2 0) T) s a.k)
    c.row_bounds-b-2.ensures ∙ test_above s a.k T c.if-k-eq0.false
