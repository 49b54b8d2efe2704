use mathlib.Core.Path.{◌≡◌}
use Prim.Native.Nat.{◌-◌, ◌≤◌}
use lib.ListN.{length}
use lib.Dec.{T}
use Rattle.state.specs.soundness.Holding.{levels_hold?}
use Rattle.state.specs.soundness.Tabled.{Ready}
use Rattle.state.proofs.soundness.levels_hold.Given as goal

abbrev pub invariant-loop-k : goal.invariant-loop-k
invariant-loop-k l =
    (l.k ≤ l.h) × (length l.below ≡ length l.initial.below) × (length l.above ≡ length l.initial.above) × T (levels_hold? l.state l.k)
    × Ready l.state l.k l.above
