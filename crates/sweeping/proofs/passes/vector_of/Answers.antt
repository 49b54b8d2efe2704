use Rattle.definitions.specs.Places.{most_nodes}
use Rattle.sweeping.proofs.Visits.{row_in_front}
use Rattle.sweeping.proofs.Sums.{onward_more, holds_less}
use Rattle.sweeping.specs.Visits.{most_degree}
use Rattle.sweeping.specs.Orders.{rows_by}
use Rattle.sweeping.specs.Nodes.{first_root, roots_end}
use Rattle.sweeps.specs.Places.{places, settled?}
use Rattle.monomial.specs.Values.{monomial_of}
use Rattle.definitions.specs.Layout.{rows}
use native.Mathlib.Omega.{arith}
use mathlib.Core.Path.{ap, ◌∙◌}
use mathlib.Core.List.{◌∷◌, ◌++◌}
use Prim.Native.Nat.{◌*◌}
use lib.ListN.{length}
use Rattle.sweeping.proofs.passes.vector_of.Goals as goal

pub start-requires : goal.start-requires
start-requires c =
    let a = c.args in (
      c.requires.4,
      onward_more a.n (length a.sums.now) (first_root a.spans.now a.v) (roots_end a.spans.now a.v) a.words.now c.requires.2.sums_fit c.requires.3,
    )

pub pass_all-requires : goal.pass_all-requires
pass_all-requires c =
    let r = c.requires.2 in let x = c.start in (
      c.requires.0,
      record {
        sums_fit = omega (arith, x.auto.sums, r.sums_fit);
        order_fits = r.order_fits;
        nodes_fit = r.nodes_fit;
        spans_fit = r.spans_fit;
        passable = r.passable;
      },
      omega (arith, c.put.auto.s, c.requires.5),
      holds_less (c.args.n * most_degree) (most_nodes * most_degree) x.new.sums (omega (arith, c.requires.1)) x.ensures.room,
    )

pub returns : goal.returns
returns c =
    let a = c.args in
    let st = c.start.ensures in
    let pu = c.put.ensures in
    let pa = c.pass_all.ensures in (
      record {
        sums = st.zeros;
        enough = omega (arith, st.all_zero.enough, c.requires.2.sums_fit);
        zero_all = λ i h. st.all_zero.zero_all i;
        vector_is = pa.0
            ∙ ap (λ v. v ++ places a.p 0 (rows_by a.nodes.now a.spans.now a.words.now a.order.now 0 a.n) c.start.new.sums)
            (ap (λ z. rows z 0 1) pu.0 ∙ row_in_front a.vector.now (1, monomial_of a.m) (omega (arith, c.requires.5)) pu.1)
            ∙ ap (λ ss. (1, monomial_of a.m) ∷ places a.p 0 (rows_by a.nodes.now a.spans.now a.words.now a.order.now 0 a.n) ss) st.sums_is;
        settled_is = pa.1 ∙ ap (λ ss. settled? a.p 0 (rows_by a.nodes.now a.spans.now a.words.now a.order.now 0 a.n) ss) st.sums_is;
      },
      pa.2,
    )
