use Prim.Native.Nat.{◌%◌}
use Rattle.sweeping.proofs.Visits.{visited_zero, visited_other}
use Rattle.sweeping.proofs.Sums.{onward_more}
use Rattle.sweeping.specs.Visits.{Noted, Visited}
use Rattle.sweeping.specs.Passes.{Onward}
use Rattle.sweeping.specs.Nodes.{first_edge, edges_end, row_of_node}
use native.Mathlib.Omega.{arith}
use mathlib.Core.Path.{refl, sym, ◌∙◌, subst}
use lib.ListN.{length, get_or}
use Rattle.sweeping.proofs.passes.visit.Goals as goal

pub returns-then-c-eq0 : goal.returns-then-c-eq0
returns-then-c-eq0 c =
    let a = c.args in
    visited_zero a.p (row_of_node a.nodes.now a.spans.now a.words.now (get_or a.order.now a.x 0)) (get_or a.sums.now a.x 0 % a.p) a.k a.vector.now a.sums.now
    (sym c.remainder-c.ensures ∙ c.if-c-eq0.true)

pub spread_node-requires : goal.spread_node-requires
spread_node-requires c =
    let a = c.args in
    let r = c.requires.2 in
    let q = c.place-y.ensures.0 in
    let h = r.passable.nodes_there a.x c.requires.1 in (
      omega (arith, q, h, r.spans_fit),
      subst (λ y. Onward 0 (length a.sums.now) (first_edge a.spans.now y) (edges_end a.spans.now y) a.words.now) (sym q)
          (onward_more a.n (length a.sums.now) (first_edge a.spans.now (get_or a.order.now a.x 0))
          (edges_end a.spans.now (get_or a.order.now a.x 0)) a.words.now r.sums_fit
          (r.passable.onward (get_or a.order.now a.x 0) h)),
      c.requires.4,
    )

pub recorded-t-requires : goal.recorded-t-requires
recorded-t-requires c =
    let s = c
    in let a = s.args in
    let r = s.requires.2 in
    let q = c.place-y.ensures.0 in
    let h = r.passable.nodes_there a.x s.requires.1 in (s.requires.0, omega (arith, q, h, r.nodes_fit))

pub returns : goal.returns
returns c =
    let a = c.args in
    let q = c.place-y.ensures.0 in
    let rem = c.remainder-c.ensures in
    let e = c.spread_node.ensures in
    let x = c.note.result in
    let vector = c.note.new.vector in
    let sums = c.spread_node.new.sums in
    subst (λ y. Visited a.p (row_of_node a.nodes.now a.spans.now a.words.now y) (get_or a.sums.now a.x 0 % a.p) a.k x.rows x.settled a.vector.now vector a.sums.now sums) q
    (subst (λ d. Visited a.p (row_of_node a.nodes.now a.spans.now a.words.now c.place-y.result) d a.k x.rows x.settled a.vector.now vector a.sums.now sums) rem
    (visited_other a.p (row_of_node a.nodes.now a.spans.now a.words.now c.place-y.result) c.remainder-c.result a.k x.rows x.settled a.vector.now vector a.sums.now sums
    c.if-c-eq0.false refl e.0 e.1 (subst (λ t. Noted a.k t x.rows x.settled a.vector.now vector) c.recorded-t.ensures c.note.ensures)))
