use Rattle.sweeping.proofs.Growth.{same_added, lead_made}
use Rattle.sweeping.specs.Nodes.{ground_stage}
use Rattle.vectors.specs.terms.Rows.{term_of}
use Rattle.monomial.specs.Values.{monomial_of}
use native.Mathlib.Omega.{arith}
use Prim.Native.Nat.{◌-◌}
use Rattle.sweeping.proofs.growing.lead_new.Goals as goal

pub returns : goal.returns
returns c =
    let a = c.args in
    let nodes = c.add.new.nodes in
    let words = c.put_edge.new.edges in
    let t = term_of c.record_of-t.result in
    let e1 = c.add.ensures in let e2 = c.put_edge.ensures in
    let z2 = c.if-component-eq0.false
    in let z3 = c.if-g-component.false
    in let z1 = c.if-most-n.false in (
      same_added a.n a.e a.n a.c (monomial_of a.m) t a.nodes.now a.edges.now nodes words e1 e2,
      λ level told. lead_made (ground_stage a.g level a.tables.now) a.drops (a.g.components - 1) a.most a.n a.e a.c (monomial_of a.m) t
          a.nodes.now a.edges.now nodes words (omega (arith, z1)) c.requires.2 (omega (arith, z2)) (omega (arith, z3))
          (c.record_of-t.ensures a.drops c.requires.4) e1 e2 told,
      (omega arith, omega (arith, z1), omega arith, omega (arith, c.requires.2)),
    )
