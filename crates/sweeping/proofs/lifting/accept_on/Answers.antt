use Rattle.words.specs.refusals.Numbers.{number_of}
use native.Mathlib.Omega.{arith}
use mathlib.Core.Path.{refl, ap, ◌∙◌}
use mathlib.Core.Bool.{false}
use mathlib.Core.List.{[]}
use mathlib.Core.Logic.{inr}
use Rattle.definitions.specs.Result.{refused}
use Rattle.definitions.specs.Layout.{rows}
use Rattle.runs.proofs.frame_terms.LoopsOverFrame.{accepting_start, accepting_on, accepting_refused, accepting_end}
use Rattle.runs.proofs.run.Stepping.{rooms_again}
use Rattle.sweeping.specs.Nodes.{ground_stage}
use Rattle.sweeping.proofs.Ones.{batched_none, batched_next}
use Rattle.sweeping.proofs.lifting.accept_on.Goals as goal

pub loop-i-init : goal.loop-i-init
loop-i-init c =
    let a = c.args in
    let n = c.no_batch-b in record {
      accepting = accepting_start (ground_stage a.g a.level.now a.tables.now) a.frame.now a.count a.from;
      batched = batched_none a.g a.level.now a.tables.now a.frame.now false a.count a.from n.result _ _ _ _ n.ensures.0 n.ensures.1;
    }

pub renew-b-requires : goal.renew-b-requires
renew-b-requires c =
    let P = c.requires in
    let l = c.loop-i in (
      P.0,
      P.1,
      P.2,
      P.5,
      P.7,
      c.loop-i-test.true,
      record {
        small = P.9.small;
        nodes_long = omega (arith, P.9.nodes_long, l.auto.nodes);
        edges_long = omega (arith, P.9.edges_long, l.auto.edges);
        spans_long = omega (arith, P.9.spans_long, l.auto.spans);
        order_long = omega (arith, P.9.order_long, l.auto.order);
        keys_long = omega (arith, P.9.keys_long, l.auto.sums);
        other_long = omega (arith, P.9.other_long, l.auto.other);
      },
      l.invariant.batched,
    )

pub one-requires : goal.one-requires
one-requires c =
    let a = c.args in
    let P = c.requires in
    let l = c.loop-i in
    let n = c.renew-b in (
      P.0,
      P.1,
      P.2,
      P.3,
      rooms_again a.g a.value.now a.vector.now l.value l.vector l.auto.value l.auto.vector P.4,
      P.5,
      P.6,
      P.7,
      c.loop-i-test.true,
      P.8,
      inr (refl, refl, refl),
      n.ensures.0,
      n.ensures.1,
      omega (arith, P.10, n.auto.order, n.auto.keys, l.auto.order, l.auto.sums),
      omega (arith, P.9.spans_long, n.auto.spans, l.auto.spans),
    )

pub returns-in-Err : goal.returns-in-Err
returns-in-Err c =
    let a = c.args in
    let l = c.loop-i in
    let e = number_of c.in-Err.refusal in
    let r = c.in-Err.ensures.0 in
    let z = accepting_refused (ground_stage a.g a.level.now a.tables.now) a.frame.now a.count a.from l.i r.0 e 0 [] l.invariant.accepting
    c.loop-i-test.true r.1 in
    ((z.0, ap (λ y. refused e y []) c.place_of-place.ensures ∙ z.1), tt)

pub returns-in-Ok-Stopped : goal.returns-in-Ok-Stopped
returns-in-Ok-Stopped c =
    let a = c.args in
    let l = c.loop-i in
    let r = rw c.in-Ok-Stopped.field-0-is at c.in-Ok-Stopped.ensures in (
      accepting_refused (ground_stage a.g a.level.now a.tables.now) a.frame.now a.count a.from l.i r.0.0 9 0 (rows c.one.new.vector 0 c.in-Ok-Stopped.n)
          l.invariant.accepting c.loop-i-test.true r.0.1,
      r.1,
    )

pub loop-i-preserved : goal.loop-i-preserved
loop-i-preserved c =
    let a = c.args in
    let l = c.loop-i in
    let n = c.renew-b in
    let r = rw c.in-Ok-Finished.field-0-is at c.in-Ok-Finished.ensures in record {
      accepting = accepting_on (ground_stage a.g a.level.now a.tables.now) a.frame.now a.count a.from l.i r.0.0 (rows c.one.new.vector 0 c.in-Ok-Finished.field-0-0)
          l.invariant.accepting c.loop-i-test.true r.0.1;
      batched = batched_next a.g a.level.now a.tables.now a.frame.now false a.count l.i n.result n.new.nodes n.new.spans n.new.edges
          n.new.order n.ensures.1 n.ensures.0;
    }

pub returns : goal.returns
returns c =
    let a = c.args in
    let l = c.loop-i in
    (accepting_end (ground_stage a.g a.level.now a.tables.now) a.frame.now a.count a.from l.i l.invariant.accepting c.loop-i-test.false, tt)
