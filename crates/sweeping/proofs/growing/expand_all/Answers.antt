use Rattle.definitions.specs.Places.{most_nodes}
use Rattle.sweeping.proofs.Growth.{same_refl, same_again, spans_refl, spans_next, growing_next, growing_all}
use Rattle.sweeping.specs.Nodes.{ground_stage}
use native.Mathlib.Omega.{arith}
use Prim.Native.Nat.{◌-◌, ◌<◌, ◌≤◌}
use Rattle.sweeping.proofs.growing.expand_all.Goals as goal

pub loop-x-init : goal.loop-x-init
loop-x-init c =
    let a = c.args in let r = c.requires.2 in record {
      from = omega arith;
      inside = c.requires.3;
      more = omega arith;
      few = r.few_nodes;
      edges_more = omega arith;
      edges_few = r.few_edges;
      same = same_refl a.many a.first a.nodes.now a.edges.now;
      spans_same = λ v. spans_refl a.start v a.spans.now;
      growing = c.requires.5;
    }

pub expand_node-requires : goal.expand_node-requires
expand_node-requires c =
    let l = c.loop-x in let r = c.requires.2 in (
      c.requires.0,
      c.requires.1,
      record {
        few_nodes = l.invariant.few;
        most_few = r.most_few;
        few_edges = l.invariant.edges_few;
        nodes_fit = omega (arith, r.nodes_fit, l.auto.nodes);
        edges_fit = omega (arith, r.edges_fit, l.auto.edges);
        slots_fit = omega (arith, r.slots_fit, l.auto.slots);
      },
      omega arith,
      l.invariant.growing.told,
    )

pub put_span-requires : goal.put_span-requires
put_span-requires c =
    let l = c.loop-x in
    let z = c.in_ok-y.ensures.2 in
    (omega (arith, c.requires.4, l.auto.spans, l.invariant.few, c.requires.2.most_few), omega (arith, l.invariant.edges_few), omega (arith, z.3))

pub returns-in_err-y : goal.returns-in_err-y
returns-in_err-y c =
    let a = c.args in let l = c.loop-x in let w = c.expand_node in
    rw c.from_residual.ensures (
      same_again a.many l.n a.first l.e a.nodes.now a.edges.now l.nodes l.edges w.new.nodes w.new.edges l.invariant.more l.invariant.edges_more
          l.invariant.same c.in_err-y.ensures.0,
      l.invariant.spans_same,
      tt,
      tt,
    )

pub loop-x-preserved : goal.loop-x-preserved
loop-x-preserved c =
    let a = c.args
    in let l = c.loop-x in let w = c.expand_node
    in let p = c.put_span in
    let n = c.in_ok-y.y in let e = c.in_ok-y.z in
    let r = c.in_ok-y.ensures in
    let z = r.2 in
    let nodes = w.new.nodes in let words = w.new.edges in let spans = p.new.spans in
    let go : l.x < l.n = c.loop-x-test.true in
    let o : l.x ≤ most_nodes = omega (arith, l.invariant.few, c.requires.2.most_few) in record {
      from = omega arith;
      inside = omega (arith, z.0, go);
      more = omega (arith, l.invariant.more, z.0);
      few = z.1;
      edges_more = omega (arith, l.invariant.edges_more, z.2);
      edges_few = z.3;
      same = same_again a.many l.n a.first l.e a.nodes.now a.edges.now l.nodes l.edges nodes words l.invariant.more l.invariant.edges_more l.invariant.same r.0;
      spans_same = λ v. spans_next a.start v l.x l.e e a.spans.now l.spans spans l.invariant.from o (l.invariant.spans_same v) p.ensures;
      growing = growing_next (ground_stage a.g a.level.now a.tables.now) a.drops (a.g.components - 1) l.n n l.x l.e e l.nodes l.spans l.edges nodes spans words go z.0 z.2 o r.0 p.ensures
          r.1 l.invariant.growing;
    }

pub returns : goal.returns
returns c =
    let a = c.args in let l = c.loop-x in (
      l.invariant.same,
      l.invariant.spans_same,
      growing_all (ground_stage a.g a.level.now a.tables.now) a.drops (a.g.components - 1) l.n l.x l.e l.nodes l.spans l.edges
          (omega arith) l.invariant.growing,
      (l.invariant.more, l.invariant.few, l.invariant.edges_more, l.invariant.edges_few),
    )
