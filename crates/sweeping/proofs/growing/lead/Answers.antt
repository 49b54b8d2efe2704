use Rattle.sweeping.proofs.Growth.{same_edged, lead_old}
use Rattle.sweeping.specs.Made.{FoundAs}
use Rattle.sweeping.specs.Nodes.{ground_stage}
use Rattle.monomial.specs.Values.{monomial_of}
use native.Mathlib.Omega.{arith}
use mathlib.Core.Path.{subst}
use Prim.Native.Nat.{◌-◌}
use Rattle.sweeping.proofs.growing.lead.Goals as goal

pub put_edge-requires : goal.put_edge-requires
put_edge-requires c =
    let a = c.args in
    let f = subst (FoundAs a.n a.nodes.now (monomial_of a.m)) c.in-Node.is c.find.ensures in
    let r = c.requires.1 in let z = c.if-e-most.false in
    (omega (arith, r.edges_fit, r.few_edges, z), omega (arith, f.0, r.few_nodes, r.most_few))

pub lead_new-requires : goal.lead_new-requires
lead_new-requires c =
    let s = c
    in let a = s.args in
    let f = subst (FoundAs a.n a.nodes.now (monomial_of a.m)) c.in-Free.is c.find.ensures in
    let r = s.requires.1 in let z = c.if-e-most.false in (
      s.requires.0,
      r,
      omega (
        arith,
        r.few_edges,
        z,
      ),
      f,
      s.requires.2,
    )

pub returns-in-Node : goal.returns-in-Node
returns-in-Node c =
    let s = c
    in let a = s.args in
    let f = subst (FoundAs a.n a.nodes.now (monomial_of a.m)) c.in-Node.is c.find.ensures in
    let r = s.requires.1 in let z = c.if-e-most.false in
    let x = c.in-Node.x in
    let words = c.put_edge.new.edges in
    let e2 = c.put_edge.ensures in (
      same_edged a.n a.e x a.c a.nodes.now a.edges.now words e2,
      λ level told. lead_old (ground_stage a.g level a.tables.now) a.drops (a.g.components - 1) a.most a.n a.e x a.c (monomial_of a.m)
          a.nodes.now a.edges.now words r.few_nodes (omega (arith, r.few_edges, z)) f.0 f.1 e2 told,
      (omega arith, r.few_nodes, omega arith, omega (arith, r.few_edges, z)),
    )

pub returns-in-Free : goal.returns-in-Free
returns-in-Free c = c.lead_new.ensures
