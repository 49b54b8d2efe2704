use borrow.Author.Rules.{rules}
use native.Mathlib.Omega.{arith}
use mathlib.Core.Path.{◌≡◌, sym, ap, ◌∙◌, subst, subst₂}
use mathlib.Core.List.{[]}
use Prim.Native.Nat.{◌+◌, ◌-◌, ◌≤◌}
use lib.ListN.{drop, get_or}
use Rattle.definitions.specs.Limits.{document_01}
use Rattle.definitions.specs.Problem.{lines}
use Rattle.definitions.specs.Result.{done, refused}
use Rattle.definitions.specs.Sheet.{s_lines}
use Rattle.definitions.specs.Replay.{replayed_vector}
use Rattle.definitions.specs.Places.{most_picks}
use Rattle.definitions.specs.Layout.{rows, decode}
use Rattle.pages.specs.bytes.Printing.{Printed}
use Rattle.level.specs.by_runs.Stages.{Base}
use Rattle.level.proofs.all_levels.Lifting.{few_variables}
use Rattle.words.specs.refusals.Numbers.{number_of}
use Rattle.replay_page.proofs.whole.Whole.{vector_printed, vector_refused}
use Rattle.replay_page.proofs.whole.print_vector.Goals as goal

pub replay_vector-requires : goal.replay_vector-requires
replay_vector-requires c =
    let a = c.args in
    let P = c.requires in
    let e = c.place-j.ensures.0 in
    (subst (λ x. Base a.state.now (x - 1)) (sym e) P.2, P.5, omega arith, omega (arith, e, P.3, P.0), P.4)

pub s_lines-requires : goal.s_lines-requires
s_lines-requires c =
    let a = c.args in
    let P = c.requires in
    let f = c.in-Ok.ensures.1 in
    let n = few_variables a.state.now P.2.long P.2.holds in
    (omega (arith, c.place-n.ensures.0, n), omega arith, omega (arith, f), omega (arith, f, P.6))

pub returns-in-Ok : goal.returns-in-Ok
returns-in-Ok c =
    let a = c.args in
    let P = c.requires in
    let s = a.state.now in
    let ls = lines (drop a.from a.input.now) in
    let x = c.replay_vector in
    let vec = x.new.vector in
    let u = c.in-Ok.u in
    let f = c.in-Ok.ensures.1 in
    let kk : c.place-j.result - 1 + 1 ≡ a.k = omega (
      arith,
      c.place-j.ensures.0,
      P.0,
    ) in
    let told : done (rows vec 0 u) ≡ replayed_vector document_01 most_picks a.place a.k a.v ls (decode document_01 s) =
    c.in-Ok.ensures.0
    ∙ (λ i. replayed_vector document_01 most_picks a.place (kk i) (c.place.ensures.0 i) ls (decode document_01 s)) in
    let z : u - 0 ≡ u = omega arith in
    let p = c.s_lines in (
      vector_printed s a.place a.k a.v ls (rows vec 0 u) told
          (subst₂ (λ m w. Printed a.out.now p.new.out 0 p.result (s_lines m a.k a.v (rows vec 0 w)))
          c.place-n.ensures.0 z p.ensures.0),
      omega (arith, p.ensures.1, f),
    )

pub returns-in-Err : goal.returns-in-Err
returns-in-Err c =
    let a = c.args in
    let P = c.requires in
    let s = a.state.now in
    let ls = lines (drop a.from a.input.now) in
    let x = c.replay_vector in
    let vec = x.new.vector in
    let number = number_of c.in-Err.refused.refusal in
    let there = c.in-Err.refused.place in
    let kk : c.place-j.result - 1 + 1 ≡ a.k =
    omega (arith, c.place-j.ensures.0, P.0) in
    let told : refused number there [] ≡ replayed_vector document_01 most_picks a.place a.k a.v ls (decode document_01 s) =
    c.in-Err.ensures.0
    ∙ (λ i. replayed_vector document_01 most_picks a.place (kk i) (c.place.ensures.0 i) ls (decode document_01 s)) in
    let p = c.x_line in
    (vector_refused s a.place a.k a.v ls number there told p.ensures.0, omega (arith, p.ensures.1))
