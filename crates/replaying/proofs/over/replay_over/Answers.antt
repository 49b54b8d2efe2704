use native.Mathlib.Omega.{arith}
use mathlib.Core.Path.{◌≡◌, sym, ap, ◌∙◌}
use Prim.Native.Nat.{◌+◌, ◌-◌, ◌*◌}
use lib.ListN.{length, take, drop, get_or}
use Rattle.definitions.specs.Places.{rows_offset}
use Rattle.definitions.specs.Problem.{lines}
use Rattle.monomial.specs.Values.{monomial_of}
use Rattle.state.proofs.soundness.VectorByVector.{whole_part}
use Rattle.level.specs.by_runs.Stages.{ground_at}
use Rattle.level.proofs.all_levels.Lifting.{few_variables}
use Rattle.replaying.specs.over.Vectors.{vector_as}
use Rattle.replaying.proofs.over.OverState.{over_ground, term_same, few_ended}
use borrow.Author.Rules.{rules}
use Rattle.replaying.proofs.over.replay_over.Goals as goal

pub replay_term-requires : goal.replay_term-requires
replay_term-requires c =
    let a = c.args in
    let P = c.requires in
    let s = a.state.now in
    let ground-there = c.ground_of-g in
    let is = ground-there.ensures ∙ ap (λ b. ground_at b s a.j) c.usual.ensures in
    let G = over_ground s a.j P.0 a.tables.now P.1 ground-there.result (take (length s - rows_offset a.j) (drop (rows_offset a.j) s)) is
    (whole_part (rows_offset a.j) s) a.value.now a.vector.now P.2 P.3 in
    let r = ap (λ g. g.r) is in (
      G.0,
      G.1,
      G.2,
      G.3,
      G.4,
      P.4,
      omega (arith, P.5, r),
      omega (arith, c.place-n.ensures.0, few_variables s P.0.long P.0.holds),
      P.6,
    )

pub returns : goal.returns
returns c =
    let a = c.args in
    let P = c.requires in
    let s = a.state.now in
    let ground-there = c.ground_of-g in
    let is = ground-there.ensures ∙ ap (λ b. ground_at b s a.j) c.usual.ensures in
    let x = c.replay_term in (
      term_same s a.j P.0 a.tables.now P.1 ground-there.result (take (length s - rows_offset a.j) (drop (rows_offset a.j) s)) is
          (whole_part (rows_offset a.j) s) c.place-n.result (get_or s 1 0) (a.j + 1)
          a.first c.place-n.ensures.0 (monomial_of a.m)
          (lines (drop a.from a.input.now)) (vector_as x.result x.new.vector) x.ensures.0,
      few_ended ground-there.result (ap (λ g. g.vector) is) x.result x.ensures.1,
    )
