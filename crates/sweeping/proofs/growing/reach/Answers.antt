use Rattle.definitions.specs.Places.{most_nodes}
use Rattle.sweeping.proofs.Growth.{same_again, growing_begun, spans_begun, spans_refl, reached}
use Rattle.sweeping.specs.Nodes.{ground_stage}
use Rattle.monomial.specs.Values.{monomial_of}
use native.Mathlib.Omega.{arith}
use Prim.Native.Nat.{◌+◌, ◌-◌, ◌≤◌}
use Rattle.sweeping.proofs.growing.reach.Goals as goal

pub put_span-requires : goal.put_span-requires
put_span-requires c =
    let z = c.in_ok-x.ensures.2 in
    (omega (arith, c.requires.3, c.requires.4), omega (arith, c.requires.2.few_edges), omega (arith, z.3))

pub expand_all-requires : goal.expand_all-requires
expand_all-requires c =
    let a = c.args in
    let b = c.begin in
    let x = c.in_ok-x.x in let y = c.in_ok-x.y in
    let t = c.in_ok-x.ensures in
    let z = t.2 in
    let r = c.requires.2 in
    let o : a.n ≤ most_nodes = omega (arith, r.few_nodes, r.most_few) in (
      c.requires.0,
      c.requires.1,
      record {
        few_nodes = z.1;
        most_few = r.most_few;
        few_edges = z.3;
        nodes_fit = omega (arith, r.nodes_fit, b.auto.nodes);
        edges_fit = omega (arith, r.edges_fit, b.auto.edges);
        slots_fit = omega (arith, r.slots_fit, b.auto.slots);
      },
      z.0,
      omega (arith, c.requires.3, c.put_span.auto.spans),
      growing_begun (ground_stage a.g a.level.now a.tables.now) a.drops (a.g.components - 1) a.n x a.e y a.v a.nodes.now a.spans.now a.edges.now b.new.nodes c.put_span.new.spans b.new.edges
          z.0 z.2 o t.0 c.put_span.ensures t.1.told c.requires.7,
    )

pub returns-in_err-x : goal.returns-in_err-x
returns-in_err-x c = let a = c.args in rw c.from_residual.ensures (c.in_err-x.ensures.0, spans_refl a.n a.v a.spans.now, tt)

pub returns : goal.returns
returns c =
    let a = c.args in
    let b = c.begin in
    let x = c.in_ok-x.x in let y = c.in_ok-x.y in
    let t = c.in_ok-x.ensures in
    let z = t.2 in
    let r = c.requires.2 in
    let o : a.n ≤ most_nodes = omega (arith, r.few_nodes, r.most_few) in
    let p = c.put_span
    in let w = c.expand_all in
    let nodes = w.new.nodes in let words = w.new.edges in let spans = w.new.spans in (
      same_again a.n x a.e y a.nodes.now a.edges.now b.new.nodes b.new.edges nodes words z.0 z.2 t.0 w.ensures.0,
      spans_begun a.n a.v a.e y a.spans.now p.new.spans spans o p.ensures (w.ensures.1 a.v),
      reached (ground_stage a.g a.level.now a.tables.now) a.drops (a.g.components - 1) a.most a.n x a.e y a.v (monomial_of a.m)
          w.result b.new.nodes b.new.edges nodes a.spans.now p.new.spans spans words
          z.0 z.2 p.ensures (w.ensures.1 (a.v + 1)) w.ensures.0 t.1.products w.ensures.2 w.ensures.3,
    )
