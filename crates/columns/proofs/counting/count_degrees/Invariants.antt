use mathlib.Core.Path.{◌≡◌}
use Prim.Native.Nat.{◌+◌, ◌≤◌}
use lib.ListN.{take}
use lib.Dec.{eqb}
use Rattle.definitions.specs.Lists.{count}
use Rattle.definitions.specs.Places.{row_shift}
use Rattle.columns.proofs.counting.count_degrees.Given as goal

abbrev pub invariant-loop-d : goal.invariant-loop-d
invariant-loop-d l = (l.k ≡ count (λ d. eqb (d + row_shift) l.x) (take l.d-index l.ds)) × (l.k ≤ l.d-index)
