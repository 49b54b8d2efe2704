use mathlib.Core.Path.{◌≡◌}
use Prim.Native.Nat.{◌≤◌}
use Rattle.definitions.specs.Layout.{rows, row_at}
use Rattle.reducers.specs.search.Search.{searched}
use Rattle.testing.specs.Leaves.{counted, lower_mark}
use Rattle.testing.proofs.leaves.count_lower.Given as goal

abbrev pub invariant-loop-i : goal.invariant-loop-i
invariant-loop-i l = (l.x ≤ l.i) × (l.i ≤ l.n) × (l.x ≡ counted (λ j. lower_mark (searched (rows l.heads 0 l.r) (row_at l.s j).1)) l.i)
