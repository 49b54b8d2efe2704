use borrow.Author.Rules.{rules}
use native.Mathlib.Omega.{arith}
use mathlib.Core.Path.{◌≡◌, sym, ap, ◌∙◌, subst}
use mathlib.Core.List.{[]}
use Prim.Native.Nat.{◌+◌, ◌-◌, ◌≤◌}
use lib.ListN.{drop}
use Rattle.definitions.specs.Limits.{document_01}
use Rattle.definitions.specs.Problem.{lines}
use Rattle.definitions.specs.Result.{done, refused}
use Rattle.definitions.specs.Replay.{lifted_below}
use Rattle.definitions.specs.Layout.{decode}
use Rattle.level.specs.by_runs.Stages.{Base}
use Rattle.words.specs.refusals.Numbers.{number_of}
use Rattle.replay_page.proofs.whole.Whole.{level_outside, below_stops, level_taken}
use Rattle.replay_page.proofs.whole.print_level.Goals as goal

pub returns-then-level-eq0 : goal.returns-then-level-eq0
returns-then-level-eq0 c =
    let a = c.args in
    let p = c.x_line in (
      level_outside a.state.now a.place a.k a.v (lines (drop a.from a.input.now)) c.place-level.result c.place-level.ensures.0
          c.then-level-eq0.either p.ensures.0,
      omega (arith, p.ensures.1),
    )

pub lift_below-requires : goal.lift_below-requires
lift_below-requires c =
    let P = c.requires in
    (P.0, P.1, omega arith, omega arith, P.3)

pub print_vector-requires : goal.print_vector-requires
print_vector-requires c =
    let P = c.requires in
    let t = c.lift_below.new.state in
    let R = c.in-Ok.ensures.ready in
    let e = c.place-level.ensures.0 in
    (omega arith, omega arith, subst (λ x. Base t (x - 1)) e R.0, R.1 ∙ e, P.2, omega arith, P.4)

pub returns-in-Ok : goal.returns-in-Ok
returns-in-Ok c =
    let a = c.args in
    let s = a.state.now in
    let t = c.lift_below.new.state in
    let B = c.in-Ok.ensures in
    let e = c.place-level.ensures.0 in
    let W = c.print_vector in
    let told : done (decode document_01 t) ≡ lifted_below document_01 B.bound (a.k - 1) 1 (decode document_01 s) =
    B.gives ∙ ap (λ x. lifted_below document_01 B.bound (x - 1) 1 (decode document_01 s)) e in (
      level_taken s a.place a.k a.v (lines (drop a.from a.input.now)) (omega arith) (omega arith) B.bound t told W.ensures.0,
      W.ensures.1,
    )

pub returns-in-Err : goal.returns-in-Err
returns-in-Err c =
    let a = c.args in
    let s = a.state.now in
    let B = c.in-Err.ensures in
    let r = c.in-Err.refused in
    let e = c.place-level.ensures.0 in
    let p = c.x_line-in-Err in
    let told : refused (number_of r.refusal) r.place [] ≡ lifted_below document_01 B.bound (a.k - 1) 1 (decode document_01 s) =
    B.gives ∙ ap (λ x. lifted_below document_01 B.bound (x - 1) 1 (decode document_01 s)) e in (
      below_stops s a.place a.k a.v (lines (drop a.from a.input.now)) (omega arith) (omega arith) B.bound (number_of r.refusal)
          r.place told p.ensures.0,
      omega (arith, p.ensures.1),
    )
