use Rattle.sweeping.specs.Passes.{Passes}
use Rattle.monomial.specs.Values.{monomial_of}
use Rattle.definitions.specs.Layout.{rows}
use native.Mathlib.Omega.{arith}
use mathlib.Core.Path.{subst}
use Rattle.sweeping.proofs.passes.sweep.Goals as goal

pub vector_of-pass-requires : goal.vector_of-pass-requires
vector_of-pass-requires c =
    let q = c.requires in (
      q.2,
      q.3,
      record {
        sums_fit = q.4;
        order_fits = q.5;
        nodes_fit = q.6;
        spans_fit = omega (arith, q.3, q.9);
        passable = q.0;
      },
      q.1,
      omega (arith, q.8, q.9),
      q.7,
    )

pub returns-then-pass : goal.returns-then-pass
returns-then-pass c =
    let a = c.args
    in let y = c.vector_of-pass in (
      subst (λ b. Passes a.p a.n a.nodes.now a.spans.now a.edges.now a.order.now a.v (monomial_of a.m)
          (rows y.new.vector 0 y.result.rows) b) c.if-pass.true y.ensures.0,
      y.ensures.1,
    )

pub returns-else-pass : goal.returns-else-pass
returns-else-pass c = tt
