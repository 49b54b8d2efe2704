use Rattle.sweeping.specs.Growth.{most_edges}
use Rattle.sweeping.specs.Nodes.{ground_stage, Growing, Same, SameSpans}
use Prim.Native.Nat.{ℕ, ◌-◌, ◌≤◌}
use Rattle.sweeping.proofs.growing.expand_all.Given as goal

abbrev pub invariant-loop-x : goal.invariant-loop-x
invariant-loop-x l = record {
  from : l.start ≤ l.x;
  inside : l.x ≤ l.n;
  more : l.many ≤ l.n;
  few : l.n ≤ l.most;
  edges_more : l.first ≤ l.e;
  edges_few : l.e ≤ most_edges l.most;
  same : Same l.many l.first l.initial.nodes l.initial.edges l.nodes l.edges;
  spans_same : (v : ℕ) → SameSpans l.start v l.initial.spans l.spans;
  growing : Growing (ground_stage l.g l.level l.tables) l.drops (l.g.components - 1) l.n l.x l.e l.nodes l.spans l.edges;
}

abbrev pub decreases-loop-x : goal.decreases-loop-x
decreases-loop-x l = l.most - l.x
