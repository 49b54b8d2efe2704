use native.Mathlib.Omega.{arith}
use mathlib.Core.Path.{refl}
use Rattle.sweeping.proofs.Ones.{batched_alone, batched_made}
use Rattle.sweeping.proofs.making.make.Goals as goal

pub take-t-requires : goal.take-t-requires
take-t-requires c =
    let P = c.requires in
    let m = c.serving_nodes-most.ensures in (
      P.0,
      P.1,
      P.4,
      P.5,
      omega (arith, m.most_few, P.6.small),
      omega (arith, m.most_few, P.6.nodes_long),
      omega (arith, m.most_few, P.6.edges_long),
      P.6.spans_long,
    )

pub returns-then-t-i : goal.returns-then-t-i
returns-then-t-i c =
    let a = c.args in
    let P = c.requires in (
      batched_alone a.g a.level.now a.tables.now a.frame.now a.drops a.count a.i _ _ _ _ _ P.5 refl refl,
      omega arith,
    )

pub arrange-serves-requires : goal.arrange-serves-requires
arrange-serves-requires c =
    let P = c.requires in
    let t = c.take-t in
    let m = c.serving_nodes-most.ensures
    in (
      omega (arith, t.ensures.few_nodes, m.most_few, P.6.small),
      omega (arith, t.ensures.few_nodes, m.most_few, P.6.order_long),
      omega (arith, t.ensures.few_edges, m.most_few, P.6.edges_long, t.auto.edges),
      omega (arith, t.ensures.few_nodes, m.most_few, P.6.nodes_long, t.auto.nodes),
      P.2.fits,
      P.2.tabled,
      omega (arith, t.ensures.few_nodes, m.most_few, P.6.keys_long),
      omega (arith, t.ensures.few_nodes, m.most_few, P.6.other_long),
    )

pub returns : goal.returns
returns c =
    let a = c.args in
    let P = c.requires in
    let t = c.take-t in
    let r = c.arrange-serves in
    let m = c.serving_nodes-most.ensures in
    let z = t.ensures.low in (
      batched_made a.g a.level.now a.tables.now a.frame.now a.drops a.count a.size c.serving_nodes-most.result a.i t.result t.new.nodes
          t.new.spans t.new.edges r.new.edges r.new.order P.6.small c.serving_nodes-most.ensures t.ensures (omega
          (arith, m.most_few, P.6.nodes_long, t.auto.nodes))
          (omega (arith, m.most_few, P.6.edges_long, t.auto.edges, r.auto.edges)) (omega (arith, m.most_few, P.6.order_long, r.auto.order)) r.result
          r.ensures,
      omega (arith, z, c.if-t-i.false),
    )
