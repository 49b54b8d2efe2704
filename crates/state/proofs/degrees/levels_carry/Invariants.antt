use Prim.Native.Nat.{◌-◌, ◌≤◌}
use lib.Dec.{T}
use Rattle.state.specs.degrees.Carrying.{levels_carry?}
use Rattle.state.proofs.degrees.levels_carry.Given as goal

abbrev pub invariant-loop-k : goal.invariant-loop-k
invariant-loop-k l = (l.k ≤ l.h) × T (levels_carry? l.state l.k)
