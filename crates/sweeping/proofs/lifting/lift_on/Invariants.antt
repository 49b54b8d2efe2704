use Prim.Native.Nat.{◌≤◌}
use Rattle.runs.specs.run.Stages.{strategy_of}
use Rattle.runs.specs.frame_terms.Vectors.{lifted_vectors, Kept}
use Rattle.runs.proofs.frame_terms.LoopsOverFrame.{Going}
use Rattle.sweeping.specs.Nodes.{ground_stage}
use Rattle.sweeping.specs.Sweeps.{Batched}
use Rattle.sweeping.proofs.lifting.lift_on.Given as goal

abbrev pub invariant-loop-i : goal.invariant-loop-i
invariant-loop-i l = record {
  room : l.used ≤ l.g.room;
  kept : Kept l.i l.used l.out;
  going : Going (ground_stage l.g l.level l.tables) (strategy_of l.g l.tables l.w) l.frame l.count (lifted_vectors l.out l.i, l.used) l.i;
  batched : Batched l.g l.level l.tables l.frame l.w.drops l.count l.i l.b l.nodes l.spans l.edges l.order;
}
