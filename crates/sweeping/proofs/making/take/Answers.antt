use borrow.Author.Rules.{rules}
use native.Mathlib.Omega.{arith}
use mathlib.Core.Path.{◌≡◌, ap, subst}
use Prim.Native.Nat.{◌-◌}
use Rattle.sweeping.proofs.Tables.{gathered_none, gathered_same, gathered_more}
use Rattle.sweeping.specs.Nodes.{ground_stage, Rooted, Gathered}
use Rattle.runs.proofs.frame_terms.OneVectorMore.{frame_component}
use Rattle.vectors.specs.terms.Rows.{term_of}
use Rattle.definitions.specs.Monomial.{Term}
use Rattle.sweeping.proofs.making.take.Goals as goal

pub loop-v-init : goal.loop-v-init
loop-v-init c =
    let a = c.args in record {
      low = omega arith;
      few = omega arith;
      edges_few = omega arith;
      gathered = gathered_none (ground_stage a.g a.level.now a.tables.now) a.drops (a.g.components - 1) a.frame.now a.i a.nodes.now a.spans.now
          a.edges.now;
      slots_long = search rules;
    }

pub row-requires : goal.row-requires
row-requires c = omega (arith, c.requires.2.fits, c.loop-v-test.true)

pub reach-requires : goal.reach-requires
reach-requires c =
    let a = c.args in
    let P = c.requires in
    let l = c.loop-v in
    let t = c.loop-v-test.true in
    let f = frame_component a.g a.count a.frame.now l.v (term_of c.row.result) P.2 t c.row.ensures in (
      P.0,
      P.1,
      record {
        few_nodes = l.invariant.few;
        most_few = P.4;
        few_edges = l.invariant.edges_few;
        nodes_fit = omega (arith, P.5, l.auto.nodes);
        edges_fit = omega (arith, P.6, l.auto.edges);
        slots_fit = omega (arith, l.invariant.slots_long);
      },
      omega (arith, P.7, l.auto.spans),
      omega (arith, P.2.few, t),
      f.0,
      f.1,
      l.invariant.gathered.grown,
    )

pub returns-in_default : goal.returns-in_default
returns-in_default c =
    let a = c.args in
    let l = c.loop-v in
    let r = c.reach in
    let S = ground_stage a.g a.level.now a.tables.now in
    record {
      low = l.invariant.low;
      high = omega (arith, c.loop-v-test.true);
      gathered = gathered_same l.n l.e l.nodes l.edges r.new.nodes r.new.edges r.ensures.0 l.v l.spans r.new.spans r.ensures.1 S a.drops
          (a.g.components - 1) a.frame.now a.i l.invariant.gathered;
      few_nodes = l.invariant.few;
      few_edges = l.invariant.edges_few;
    }

pub loop-v-preserved : goal.loop-v-preserved
loop-v-preserved c =
    let a = c.args in
    let l = c.loop-v in
    let r = c.reach in
    let S = ground_stage a.g a.level.now a.tables.now in
    let n = c.in-Some.x in
    let e = c.in-Some.y in
    let w = c.in-Some.ensures.2 in
    let root = subst (λ m. Rooted S a.drops n e r.new.nodes r.new.spans r.new.edges m l.v) (ap (λ (u : Term). u.1) c.row.ensures) w.1 in record {
      low = omega (arith, l.invariant.low);
      few = w.3;
      edges_few = w.5;
      gathered = gathered_more l.n l.e l.nodes l.edges r.new.nodes r.new.edges r.ensures.0 l.v l.spans r.new.spans r.ensures.1 S a.drops
          (a.g.components - 1) a.frame.now a.i n e w.2 w.4 l.invariant.gathered w.0 root;
      slots_long = omega (arith, r.auto.slots, l.invariant.slots_long);
    }

pub returns : goal.returns
returns c =
    let a = c.args in
    let l = c.loop-v in
    let S = ground_stage a.g a.level.now a.tables.now in
    let z : l.v ≡ a.count = omega arith in
    record {
      low = omega arith;
      high = omega arith;
      gathered = subst (λ v. Gathered S a.drops (a.g.components - 1) a.frame.now a.i v l.n l.e l.nodes l.spans l.edges) z l.invariant.gathered;
      few_nodes = l.invariant.few;
      few_edges = l.invariant.edges_few;
    }
