use Rattle.definitions.specs.Places.{slots_length}
use mathlib.Core.Path.{◌≡◌}
use Prim.Native.Nat.{◌-◌, ◌≤◌}
use lib.ListN.{length}
use Rattle.sweeping.specs.Growth.{most_edges}
use Rattle.sweeping.specs.Nodes.{ground_stage, Gathered}
use Rattle.sweeping.proofs.making.take.Given as goal

abbrev pub invariant-loop-v : goal.invariant-loop-v
invariant-loop-v l = record {
  low : l.i ≤ l.v;
  few : l.n ≤ l.most;
  edges_few : l.e ≤ most_edges l.most;
  gathered : Gathered (ground_stage l.g l.level l.tables) l.drops (l.g.components - 1) l.frame l.i l.v l.n l.e l.nodes l.spans l.edges;
  slots_long : length l.slots ≡ slots_length;
}
