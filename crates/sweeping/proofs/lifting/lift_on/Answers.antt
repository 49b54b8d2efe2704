use native.Mathlib.Omega.{arith}
use mathlib.Core.Path.{◌≡◌, refl, sym, ap, ◌∙◌, subst}
use mathlib.Core.List.{[]}
use Prim.Native.Nat.{◌+◌}
use lib.Dec.{T}
use Rattle.std.specs.Prelude.{Ok}
use Rattle.std.proofs.lemmas.Result.{err_from_is_err_and}
use Rattle.definitions.specs.Result.{◌>>=◌}
use Rattle.sweeping.specs.Gone.{LiftedTo}
use Rattle.definitions.specs.Lifting.{Lifted, with_vector}
use Rattle.definitions.specs.Layout.{rows}
use Rattle.runs.specs.run.Stages.{strategy_of}
use Rattle.runs.specs.frame_terms.Vectors.{lifted_vectors, one_of, After}
use Rattle.runs.proofs.frame_terms.LoopsOverFrame.{going_on, going_refused}
use Rattle.runs.proofs.run.Stepping.{rooms_again}
use Rattle.sweeping.specs.Nodes.{ground_stage}
use Rattle.sweeping.proofs.Ones.{batched_none, batched_next}
use Rattle.sweeping.proofs.lifting.lift_on.Goals as goal

pub loop-i-init : goal.loop-i-init
loop-i-init c =
    let a = c.args in
    let P = c.requires in
    let n = c.no_batch-b in record {
      room = P.15;
      kept = P.16;
      going = P.17;
      batched = batched_none a.g a.level.now a.tables.now a.frame.now a.w.drops a.count a.start n.result _ _ _ _ n.ensures.0 n.ensures.1;
    }

pub renew-b-requires : goal.renew-b-requires
renew-b-requires c =
    let P = c.requires in
    let l = c.loop-i in (
      P.0,
      P.1,
      P.2,
      P.5,
      P.7,
      c.loop-i-test.true,
      record {
        small = P.12.small;
        nodes_long = omega (arith, P.12.nodes_long, l.auto.nodes);
        edges_long = omega (arith, P.12.edges_long, l.auto.edges);
        spans_long = omega (arith, P.12.spans_long, l.auto.spans);
        order_long = omega (arith, P.12.order_long, l.auto.order);
        keys_long = omega (arith, P.12.keys_long, l.auto.sums);
        other_long = omega (arith, P.12.other_long, l.auto.other);
      },
      l.invariant.batched,
    )

pub returns-then-left : goal.returns-then-left
returns-then-left c =
    let l = c.loop-i in
    record {
      going = l.invariant.going;
      inside = omega (arith, c.loop-i-test.true);
      room = l.invariant.room;
      kept = l.invariant.kept;
      all = λ e. absurd (subst T (sym (c.left.ensures c.if-left.true) ∙ e) tt);
    }

pub one-requires : goal.one-requires
one-requires c =
    let a = c.args in
    let P = c.requires in
    let l = c.loop-i in
    let n = c.renew-b in (
      P.0,
      P.1,
      P.2,
      P.3,
      rooms_again a.g a.value.now a.vector.now l.value l.vector l.auto.value l.auto.vector P.4,
      P.5,
      P.6,
      P.7,
      c.loop-i-test.true,
      P.10,
      P.11,
      n.ensures.0,
      n.ensures.1,
      omega (arith, P.13, n.auto.order, n.auto.keys, l.auto.order, l.auto.sums),
      omega (arith, P.12.spans_long, n.auto.spans, l.auto.spans),
    )

pub keep-requires : goal.keep-requires
keep-requires c =
    let P = c.requires in
    let l = c.loop-i in (
      omega (arith, P.7.few, c.loop-i-test.true),
      omega (arith, P.8, l.auto.out),
      P.9,
      l.invariant.room,
      l.invariant.kept,
      c.in_ok-x.ensures.1,
      omega (arith, P.4.vector_fits, l.auto.vector, c.one.auto.vector),
    )

-- the run is refused
pub returns-in_err-x : goal.returns-in_err-x
returns-in_err-x c =
    let a = c.args in
    let l = c.loop-i in
    let S = ground_stage a.g a.level.now a.tables.now in
    let W = strategy_of a.g a.tables.now a.w in
    let r = c.in_err-x.ensures.0 in
    let before : Lifted = (lifted_vectors l.out l.i, l.used) in
    let p = err_from_is_err_and c.from_residual.result c.from_residual.ensures.1 in
    rw (p.1, p.2) (
      going_refused S W a.frame.now a.count before l.i r.0 _ 0 [] l.invariant.going c.loop-i-test.true
          (ap (λ y. y >>= λ v. with_vector S before (v, [])) r.1),
      tt,
    )

-- its vector has no room
pub returns-in_err-u : goal.returns-in_err-u
returns-in_err-u c =
    let a = c.args in
    let l = c.loop-i in
    let S = ground_stage a.g a.level.now a.tables.now in
    let W = strategy_of a.g a.tables.now a.w in
    let r = c.in_ok-x.ensures.0 in
    let before : Lifted = (lifted_vectors l.out l.i, l.used) in
    let p = err_from_is_err_and c.from_residual-in_err-u.result c.from_residual-in_err-u.ensures.1 in
    rw (p.1, p.2) (
      going_refused S W a.frame.now a.count before l.i r.0 _ 0 [] l.invariant.going c.loop-i-test.true
          (c.in_err-u.ensures.0 S refl ∙ ap (λ y. y >>= λ v. with_vector S before (v, [])) r.1),
      tt,
    )

pub returns-in-Stopped : goal.returns-in-Stopped
returns-in-Stopped c =
    let a = c.args in
    let l = c.loop-i in
    let o = c.one in
    let k = c.keep in
    let S = ground_stage a.g a.level.now a.tables.now in
    let W = strategy_of a.g a.tables.now a.w in
    let r = c.in_ok-x.ensures.0 in
    let before : Lifted = (lifted_vectors l.out l.i, l.used) in
    let whole = c.in_ok-u.ensures.0 S refl ∙ ap (λ y. y >>= λ v. with_vector S before (v, [])) r.1 in (
      going_refused S W a.frame.now a.count before l.i r.0 9 0 (rows o.new.vector 0 c.in-Stopped.n) l.invariant.going c.loop-i-test.true
          (sym (ap (λ y. one_of (Ok y) l.i k.new.out o.new.vector) c.in-Stopped.is) ∙ whole),
      subst (λ y. After a.g l.i (Ok y) k.new.out) c.in-Stopped.is c.in_ok-u.ensures.1,
    )

pub loop-i-preserved : goal.loop-i-preserved
loop-i-preserved c =
    let a = c.args in
    let l = c.loop-i in
    let t = c.loop-i-test.true in
    let o = c.one in
    let k = c.keep in
    let S = ground_stage a.g a.level.now a.tables.now in
    let W = strategy_of a.g a.tables.now a.w in
    let r = c.in_ok-x.ensures.0 in
    let before : Lifted = (lifted_vectors l.out l.i, l.used) in
    let whole = c.in_ok-u.ensures.0 S refl ∙ ap (λ y. y >>= λ v. with_vector S before (v, [])) r.1 in
    let n = c.renew-b in
    let u = c.in-Used.u in
    let now = subst (λ y. After a.g l.i (Ok y) k.new.out) c.in-Used.is c.in_ok-u.ensures.1 in
    let after : Lifted = (lifted_vectors k.new.out (l.i + 1), u) in record {
      room = now.0;
      kept = now.1;
      going = going_on S W a.frame.now a.count before after l.i r.0 l.invariant.going t
          (sym (ap (λ y. one_of (Ok y) l.i k.new.out o.new.vector) c.in-Used.is) ∙ whole);
      batched = batched_next a.g a.level.now a.tables.now a.frame.now a.w.drops a.count l.i n.result n.new.nodes n.new.spans
          n.new.edges n.new.order n.ensures.1 n.ensures.0;
    }

pub returns : goal.returns
returns c =
    let a = c.args in
    let l = c.loop-i in
    let S = ground_stage a.g a.level.now a.tables.now in
    let W = strategy_of a.g a.tables.now a.w in
    let z : l.i ≡ a.count = omega arith in
    subst (λ i. LiftedTo a.g S W a.frame.now a.count a.leaves i l.used l.out) z (record {
      going = l.invariant.going;
      inside = omega arith;
      room = l.invariant.room;
      kept = l.invariant.kept;
      all = λ e. omega (arith, c.loop-i-test.false);
    })
