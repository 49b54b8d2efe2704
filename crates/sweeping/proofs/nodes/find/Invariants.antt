use Rattle.definitions.specs.Places.{slots_length}
use Prim.Native.Nat.{◌<◌}
use Rattle.sweeping.proofs.nodes.find.Given as goal

abbrev pub invariant-loop : goal.invariant-loop
invariant-loop l = l.h < slots_length
