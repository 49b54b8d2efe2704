use native.Mathlib.Omega.{arith}
use mathlib.Core.Path.{◌≡◌, ap, ◌∙◌}
use Rattle.testing.proofs.LeavesCalls.{counted_none}
use Rattle.definitions.specs.Layout.{rows, row_at}
use Rattle.reducers.specs.search.Search.{searched}
use Rattle.testing.specs.Leaves.{counted, lower_mark}
use Rattle.testing.proofs.LeavesCalls.{counted_step}
use Rattle.testing.proofs.leaves.count_lower.Goals as goal

pub loop-i-init : goal.loop-i-init
loop-i-init c =
    let a = c.args in (
      omega arith,
      omega arith,
      counted_none (λ j. lower_mark (searched (rows a.heads.now 0 a.r) (row_at a.s.now j).1)),
    )

pub search-requires : goal.search-requires
search-requires c = (
  omega arith,
  omega arith,
  c.requires.2,
)

pub overflow_add-x : goal.overflow_add-x
overflow_add-x c = omega (arith, c.mark_lower-x.ensures.1)

pub loop-i-preserved : goal.loop-i-preserved
loop-i-preserved c =
    let a = c.args in
    let l = c.loop-i in (
      omega (arith, c.mark_lower-x.ensures.1),
      omega arith,
      counted_step
          (λ j. lower_mark (searched (rows a.heads.now 0 a.r) (row_at a.s.now j).1)) l.i l.x c.mark_lower-x.result l.invariant.2
          (c.mark_lower-x.ensures.0 ∙ ap lower_mark c.search.ensures
          ∙ ap (λ t. lower_mark (searched (rows a.heads.now 0 a.r) t.1)) c.row.ensures),
    )

pub returns : goal.returns
returns c =
    let a = c.args in
    let l = c.loop-i in
    let z : l.i ≡ a.n = omega arith in
    l.invariant.2 ∙ ap (counted (λ j. lower_mark (searched (rows a.heads.now 0 a.r) (row_at a.s.now j).1))) z
