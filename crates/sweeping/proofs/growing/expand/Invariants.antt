use Rattle.sweeping.specs.Growth.{most_edges, SpannedBy}
use Rattle.sweeping.specs.Nodes.{ground_stage, Told, Same}
use Rattle.definitions.specs.Layout.{Words, rows}
use Rattle.definitions.specs.Packed.{unpack}
use Prim.Native.Nat.{◌-◌, ◌≤◌}
use Rattle.sweeping.proofs.growing.expand.Given as goal

abbrev pub invariant-loop-i : goal.invariant-loop-i
invariant-loop-i l = record {
  from : l.from ≤ l.i;
  within : l.i - l.from ≤ l.to - l.from;
  more : l.start ≤ l.n;
  few : l.n ≤ l.most;
  edges_more : l.first ≤ l.e;
  edges_few : l.e ≤ most_edges l.most;
  same : Same l.start l.first l.initial.nodes l.initial.edges l.nodes l.edges;
  spanned : (below : Words) → Told (ground_stage l.g below l.tables) l.drops (l.g.components - 1) l.start l.initial.nodes
      → SpannedBy (ground_stage l.g below l.tables) l.drops (l.g.components - 1) l.most l.start l.n l.first l.e l.c (unpack l.q)
      (rows l.level l.from (l.i - l.from)) l.nodes l.edges;
}
