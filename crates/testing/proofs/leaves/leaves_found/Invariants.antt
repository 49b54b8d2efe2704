use mathlib.Core.Path.{◌≡◌}
use Prim.Native.Nat.{◌≤◌}
use Rattle.definitions.specs.Layout.{rows, row_at}
use Rattle.vectors.specs.sums.Places.{seek}
use Rattle.testing.specs.Leaves.{counted, place_mark}
use Rattle.testing.proofs.leaves.leaves_found.Given as goal

abbrev pub invariant-loop-i : goal.invariant-loop-i
invariant-loop-i l = (l.k ≤ l.i) × (l.i ≤ l.n) × (l.k ≡ counted (λ j. place_mark (seek (row_at l.s j).1 (rows l.d 0 l.r) 0)) l.i)
