use Rattle.sweeping.proofs.passes.pass_all.Goals.{then-settled, else-settled}
use mathlib.Core.List.{append-nil}
use Rattle.sweeping.proofs.Visits.{places_next, settled_next, places_end, settled_end, places_skipped, settled_skipped, and_true}
use Rattle.sweeping.proofs.Sums.{holds_less}
use Rattle.sweeping.specs.Visits.{most_degree}
use Rattle.sweeping.specs.Orders.{rows_by}
use Rattle.sweeps.specs.Places.{places, settled?}
use Rattle.definitions.specs.Layout.{rows}
use Rattle.definitions.specs.Lists.{◌and◌}
use native.Mathlib.Omega.{arith}
use mathlib.Core.Path.{◌≡◌, refl, sym, ap, ◌∙◌}
use mathlib.Core.List.{◌++◌}
use Prim.Native.Nat.{◌+◌, ◌-◌, ◌*◌}
use Rattle.sweeping.proofs.passes.pass_all.Goals as goal

pub next-x-requires : goal.next-x-requires
next-x-requires c = (omega arith, c.requires.1.sums_fit)

pub loop-x-init : goal.loop-x-init
loop-x-init c =
    let a = c.args in
    let h = c.next-x.ensures in
    let z : a.n ≡ a.n - 0 = omega arith in (
      h.1,
      omega arith,
      refl,
      refl,
      ap (λ m. rows a.vector.now 0 1 ++ places a.p 0 (rows_by a.nodes.now a.spans.now a.words.now a.order.now 0 m) a.sums.now) z
          ∙ ap (λ v. rows a.vector.now 0 1 ++ v) (places_skipped a.p a.n a.nodes.now a.spans.now a.words.now a.order.now 0
          c.next-x.result a.sums.now h.1 h.0),
      ap (λ m. settled? a.p 0 (rows_by a.nodes.now a.spans.now a.words.now a.order.now 0 m) a.sums.now) z
          ∙ settled_skipped a.p a.n a.nodes.now a.spans.now a.words.now a.order.now 0 c.next-x.result a.sums.now h.1 h.0,
      holds_less ((a.n - c.next-x.result) * most_degree) (a.n * most_degree) a.sums.now (omega arith) c.requires.3,
    )

pub visit-v-requires : goal.visit-v-requires
visit-v-requires c =
    let s = c
    in let l = c.loop-x in let r = s.requires.1 in (
      s.requires.0,
      omega arith,
      record {
        sums_fit = omega (arith, l.invariant.3, r.sums_fit);
        order_fits = r.order_fits;
        nodes_fit = r.nodes_fit;
        spans_fit = r.spans_fit;
        passable = r.passable;
      },
      omega (arith, l.invariant.1, l.invariant.2, s.requires.2),
      holds_less most_degree ((s.args.n - l.x) * most_degree) l.sums (omega arith) l.invariant.6,
    )

pub next-x-requires-in-loop-x : goal.next-x-requires-in-loop-x
next-x-requires-in-loop-x c =
    let s = c
    in let l = c.loop-x in let y = c.visit-v in
    (omega arith, omega (arith, y.auto.sums, l.invariant.3, s.requires.1.sums_fit))

pub loop-x-smaller : goal.loop-x-smaller
loop-x-smaller c = let h = c.next-x-in-loop-x.ensures in omega (arith, h.0.onward, h.1)

pub loop-x-preserved : goal.loop-x-preserved
loop-x-preserved c =
    let a = c.args in let l = c.loop-x in let y = c.visit-v in
    let v = y.ensures in
    let h = c.next-x-in-loop-x.ensures in
    let x = c.next-x-in-loop-x.result in
    let vector = y.new.vector in
    let sums = y.new.sums in
    let s : c.if-settled.settled ≡ (l.settled and y.result.settled) = elim c.if-settled.branch [
      | then-settled w ↦ w.settled-is ∙ ap (λ b. b and y.result.settled) (sym w.if-settled.true)
      | else-settled w ↦ w.settled-is ∙ w.if-settled.false ∙ ap (λ b. b and y.result.settled) (sym w.if-settled.false)
    ] in (
      h.1,
      omega (arith, v.few, l.invariant.1, h.0.onward),
      omega (arith, y.auto.vector, l.invariant.2),
      omega (arith, y.auto.sums, l.invariant.3),
      l.invariant.4 ∙ places_next a.p a.n a.nodes.now a.spans.now a.words.now a.order.now l.x l.k y.result.rows y.result.settled l.vector vector l.sums sums (omega arith) v
          ∙ ap (λ w. rows vector 0 y.result.rows ++ w) (places_skipped a.p a.n a.nodes.now a.spans.now a.words.now a.order.now
          (l.x + 1) x sums h.1 h.0),
      l.invariant.5 ∙ settled_next a.p a.n a.nodes.now a.spans.now a.words.now a.order.now l.x l.k y.result.rows l.settled y.result.settled l.vector vector l.sums sums (omega arith) v
          ∙ ap (λ b. b and settled? a.p (l.x + 1) (rows_by a.nodes.now a.spans.now a.words.now a.order.now (l.x + 1) (a.n - (l.x + 1)))
          sums) (sym s)
          ∙ ap (λ b. c.if-settled.settled and b) (settled_skipped a.p a.n a.nodes.now a.spans.now a.words.now a.order.now
          (l.x + 1) x sums h.1 h.0),
      v.spends ((a.n - x) * most_degree)
          (holds_less (most_degree + (a.n - x) * most_degree) ((a.n - l.x) * most_degree) l.sums (omega (arith, h.0.onward, h.1)) l.invariant.6),
    )

pub returns : goal.returns
returns c =
    let a = c.args in let l = c.loop-x in (
      sym (l.invariant.4 ∙ ap (λ v. rows l.vector 0 l.k ++ v) (places_end a.p a.n a.nodes.now a.spans.now a.words.now a.order.now l.x
          l.sums (omega arith)) ∙ append-nil (rows l.vector 0 l.k)),
      sym (l.invariant.5 ∙ ap (λ b. l.settled and b) (settled_end a.p a.n a.nodes.now a.spans.now a.words.now a.order.now l.x l.sums
          (omega arith)) ∙ and_true l.settled),
      omega arith,
    )
