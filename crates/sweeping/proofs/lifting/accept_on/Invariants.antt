use mathlib.Core.Bool.{false}
use Rattle.runs.proofs.frame_terms.LoopsOverFrame.{Accepting}
use Rattle.sweeping.specs.Nodes.{ground_stage}
use Rattle.sweeping.specs.Sweeps.{Batched}
use Rattle.sweeping.proofs.lifting.accept_on.Given as goal

abbrev pub invariant-loop-i : goal.invariant-loop-i
invariant-loop-i l = record {
  accepting : Accepting (ground_stage l.g l.level l.tables) l.frame l.count l.from l.i;
  batched : Batched l.g l.level l.tables l.frame false l.count l.i l.b l.nodes l.spans l.edges l.order;
}
