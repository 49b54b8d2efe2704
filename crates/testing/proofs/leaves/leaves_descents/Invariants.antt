use mathlib.Core.Path.{◌≡◌}
use Prim.Native.Nat.{◌≤◌}
use Rattle.testing.specs.Leaves.{counted, descent}
use Rattle.testing.proofs.leaves.leaves_descents.Given as goal

abbrev pub invariant-loop-i : goal.invariant-loop-i
invariant-loop-i l = (l.k ≤ l.i) × (l.i ≤ l.n) × (l.k ≡ counted (descent l.code l.s) l.i)
