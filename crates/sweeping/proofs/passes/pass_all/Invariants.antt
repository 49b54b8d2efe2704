use Rattle.sweeping.specs.Visits.{most_degree}
use Rattle.sweeping.specs.Sums.{Holds}
use Rattle.sweeping.specs.Orders.{rows_by}
use Rattle.sweeps.specs.Places.{places, settled?}
use Rattle.definitions.specs.Layout.{rows}
use Rattle.definitions.specs.Lists.{◌and◌}
use mathlib.Core.Path.{◌≡◌}
use mathlib.Core.List.{◌++◌}
use Prim.Native.Nat.{◌+◌, ◌-◌, ◌*◌, ◌≤◌}
use lib.ListN.{length}
use Rattle.sweeping.proofs.passes.pass_all.Given as goal

abbrev pub invariant-loop-x : goal.invariant-loop-x
invariant-loop-x l =
    (l.x ≤ l.n) × (l.k ≤ l.x + 1) × (length l.vector ≡ length l.initial.vector)
    × (length l.sums ≡ length l.initial.sums)
    × (rows l.initial.vector 0 1 ++ places l.p 0 (rows_by l.nodes l.spans l.words l.order 0 l.n) l.initial.sums ≡ rows l.vector 0 l.k ++ places l.p l.x (rows_by l.nodes l.spans l.words l.order l.x (l.n - l.x))
    l.sums)
    × (settled? l.p 0 (rows_by l.nodes l.spans l.words l.order 0 l.n) l.initial.sums ≡ (l.settled and settled? l.p l.x (rows_by l.nodes l.spans l.words l.order l.x (l.n - l.x)) l.sums))
    × Holds ((l.n - l.x) * most_degree) l.sums

abbrev pub decreases-loop-x : goal.decreases-loop-x
decreases-loop-x l = l.n - l.x
