use Rattle.sweeping.proofs.Growth.{same_refl, same_again, spanned_none, spanned_next}
use Rattle.runs.proofs.reduction.Adding.{rows_none}
use Rattle.laws.proofs.Rows.{rows_last}
use Rattle.definitions.specs.Layout.{row_at}
use Rattle.sweeping.specs.Growth.{SpannedBy}
use Rattle.sweeping.specs.Nodes.{ground_stage}
use Rattle.definitions.specs.Layout.{rows}
use Rattle.definitions.specs.Packed.{unpack}
use native.Mathlib.Omega.{arith}
use mathlib.Core.Path.{◌≡◌, sym, ap, ◌∙◌, subst}
use mathlib.Core.List.{[], ◌∷◌, ◌++◌}
use Prim.Native.Nat.{◌+◌, ◌-◌}
use Rattle.sweeping.proofs.growing.expand.Goals as goal

pub loop-i-init : goal.loop-i-init
loop-i-init c =
    let a = c.args in
    let z : 0 ≡ a.from - a.from = omega arith in record {
      from = omega arith;
      within = omega arith;
      more = omega arith;
      few = c.requires.1.few_nodes;
      edges_more = omega arith;
      edges_few = c.requires.1.few_edges;
      same = same_refl a.start a.first a.nodes.now a.edges.now;
      spanned = λ below told. subst (λ f. SpannedBy (ground_stage a.g below a.tables.now) a.drops (a.g.components - 1) a.most a.start a.start a.first a.first a.c (unpack a.q) f a.nodes.now a.edges.now)
          (sym (rows_none a.level.now a.from) ∙ ap (rows a.level.now a.from) z)
          (spanned_none (ground_stage a.g below a.tables.now) a.drops (a.g.components - 1) a.most a.start a.first a.c (unpack a.q)
          a.nodes.now a.edges.now c.requires.1.few_nodes c.requires.1.few_edges told);
    }

pub expand_row-requires : goal.expand_row-requires
expand_row-requires c =
    let l = c.loop-i in let r = c.requires.1 in (
      c.requires.0,
      record {
        few_nodes = l.invariant.few;
        most_few = r.most_few;
        few_edges = l.invariant.edges_few;
        nodes_fit = omega (arith, r.nodes_fit, l.auto.nodes);
        edges_fit = omega (arith, r.edges_fit, l.auto.edges);
        slots_fit = omega (arith, r.slots_fit, l.auto.slots);
      },
      omega (arith, c.requires.2),
    )

pub returns-in_err-n : goal.returns-in_err-n
returns-in_err-n c =
    let a = c.args in let l = c.loop-i in let y = c.expand_row in
    rw c.from_residual.ensures (
      same_again a.start l.n a.first l.e a.nodes.now a.edges.now l.nodes l.edges y.new.nodes y.new.edges l.invariant.more l.invariant.edges_more
          l.invariant.same c.in_err-n.ensures.0,
      λ below told. tt,
      tt,
    )

pub loop-i-preserved : goal.loop-i-preserved
loop-i-preserved c =
    let a = c.args in let l = c.loop-i in let y = c.expand_row in
    let n = c.in_ok-n.field-0-0 in let e = c.in_ok-n.field-0-1 in
    let r = c.in_ok-n.ensures in
    let z = r.2 in
    let nodes = y.new.nodes in let words = y.new.edges in
    let j : l.i + 1 - a.from ≡ (l.i - a.from) + 1 = omega arith in
    let k : a.from + (l.i - a.from) ≡ l.i = omega arith in record {
      from = omega arith;
      within = omega arith;
      more = omega (arith, l.invariant.more, z.0);
      few = z.1;
      edges_more = omega (arith, l.invariant.edges_more, z.2);
      edges_few = z.3;
      same = same_again a.start l.n a.first l.e a.nodes.now a.edges.now l.nodes l.edges nodes words l.invariant.more l.invariant.edges_more l.invariant.same r.0;
      spanned = λ below told. let s = l.invariant.spanned below told in
          subst (λ f. SpannedBy (ground_stage a.g below a.tables.now) a.drops (a.g.components - 1) a.most a.start n a.first e a.c
          (unpack a.q) f nodes words)
          (sym (ap (rows a.level.now a.from) j ∙ rows_last a.level.now a.from (l.i - a.from)
          ∙ ap (λ m. rows a.level.now a.from (l.i - a.from) ++ row_at a.level.now m ∷ []) k))
          (spanned_next (ground_stage a.g below a.tables.now) a.drops (a.g.components - 1) a.most a.start l.n n a.first l.e e a.c (unpack a.q) (rows a.level.now a.from (l.i - a.from))
          (row_at a.level.now l.i) l.nodes l.edges nodes words s (r.1 below s.told));
    }

pub returns : goal.returns
returns c =
    let a = c.args in let l = c.loop-i in
    let z : l.i - a.from ≡ a.to - a.from = omega arith in (
      l.invariant.same,
      λ below told. subst (λ k. SpannedBy (ground_stage a.g below a.tables.now) a.drops (a.g.components - 1) a.most a.start l.n a.first l.e a.c (unpack a.q) (rows a.level.now a.from k) l.nodes l.edges) z
          (l.invariant.spanned below told),
      (l.invariant.more, l.invariant.few, l.invariant.edges_more, l.invariant.edges_few),
    )
