use mathlib.Core.Path.{◌≡◌}
use Prim.Native.Nat.{◌-◌, ◌≤◌}
use lib.ListN.{length}
use Rattle.definitions.specs.Places.{all_levels}
use Rattle.level.specs.by_runs.Stages.{Base}
use Rattle.level.proofs.all_levels.Levels.{Going}
use Rattle.level.proofs.all_levels.lift_levels.Given as goal

abbrev pub invariant-loop-k : goal.invariant-loop-k
invariant-loop-k l = (1 ≤ l.k) × (l.k ≤ all_levels) × Base l.state (l.k - 1) × Going l.initial.state l.state l.k × (length l.state ≡ length l.initial.state) × (length l.work ≡ length l.initial.work)
