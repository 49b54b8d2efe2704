use borrow.Author.Rules.{rules}
use native.Mathlib.Omega.{arith}
use mathlib.Core.Path.{◌≡◌, refl, sym, ap, ◌∙◌, subst}
use mathlib.Core.List.{[]}
use Prim.Native.Nat.{ℕ, suc, ◌+◌, ◌-◌, ◌*◌, ◌<◌, ◌≤◌}
use lib.ListN.{length, drop}
use Rattle.std.proofs.lemmas.Result.{err_from_is_err_and}
use Rattle.words.specs.refusals.Numbers.{number_of}
use Rattle.definitions.specs.Monomial.{Monomial}
use Rattle.definitions.specs.Order.{Comparison}
use Rattle.definitions.specs.Problem.{lines}
use Rattle.definitions.specs.Result.{done, refused}
use Rattle.definitions.specs.Replay.{p_lines}
use Rattle.definitions.specs.Places.{most_picks}
use Rattle.definitions.specs.Layout.{rows}
use Rattle.laws.proofs.Rows.{length_rows}
use Rattle.runs.specs.run.Stages.{order_of, stage_of, run_of}
use Rattle.runs.proofs.run.Stepping.{rooms_again}
use Rattle.replaying.proofs.log.Turning.{goes_on, ends_there, at_end, less_left, zero_end, some_end}
use Rattle.replaying.proofs.log.replay_lines.Goals as goal

pub loop-at-init : goal.loop-at-init
loop-at-init c =
    let a = c.args in
    let P = c.requires in
    let z : a.first ≡ a.first + 0 = omega arith in (
      omega arith,
      refl,
      refl,
      P.5,
      P.6,
      λ above. ap (λ f. p_lines most_picks (stage_of a.g a.level.now a.tables.now above) 65535 a.n a.k f 0
          (run_of a.value.now a.start a.vector.now a.begun) (lines (drop a.from a.input.now))) z,
    )

pub overflow_add-first : goal.overflow_add-first
overflow_add-first c = omega (arith, c.loop-at.invariant.0, c.requires.1)

pub replay_line-requires : goal.replay_line-requires
replay_line-requires c =
    let a = c.args in
    let P = c.requires in
    let l = c.loop-at in
    (P.0, P.2, P.3, rooms_again a.g a.value.now a.vector.now l.value l.vector l.invariant.1 l.invariant.2 P.4, l.invariant.3, l.invariant.4)

pub returns-in_err-next : goal.returns-in_err-next
returns-in_err-next c =
    let a = c.args in
    let l = c.loop-at in
    let p = err_from_is_err_and c.from_residual.result c.from_residual.ensures.1 in
    let e = c.in_err-next.field-0.0 in
    rw (p.1, p.2) (
      λ above.
          let S = stage_of a.g a.level.now a.tables.now above in
          let r = run_of l.value l.m l.vector l.u in
          sym (l.invariant.5 above ∙ ends_there S a.n a.k a.input.now l.at (a.first + l.picks) l.picks r (number_of e.refusal) e.place
          c.loop-at-test.true (c.in_err-next.ensures.0 above)),
      tt,
    )

pub overflow_add-picks : goal.overflow_add-picks
overflow_add-picks c =
    let l = c.loop-at in
    let x = c.replay_line in
    let room = c.in_ok-next.ensures.1 in
    omega (arith, room.2)

pub loop-at-smaller : goal.loop-at-smaller
loop-at-smaller c =
    let a = c.args in
    let l = c.loop-at in
    let x = c.replay_line in
    let next = c.in_ok-next.next in
    let above = order_of a.g a.tables.now in
    let e = c.in_ok-next.ensures.0 above in
    less_left (stage_of a.g a.level.now a.tables.now above) a.n a.k (a.first + l.picks) l.picks
    (run_of l.value l.m l.vector l.u)
    (run_of x.new.value c.in_ok-next.a x.new.vector c.in_ok-next.b)
    a.input.now l.at (drop next a.input.now) c.loop-at-test.true e

pub loop-at-preserved : goal.loop-at-preserved
loop-at-preserved c =
    let a = c.args in
    let l = c.loop-at in
    let x = c.replay_line in
    let next = c.in_ok-next.next in
    let room = c.in_ok-next.ensures.1 in
    let z : a.first + l.picks + 1 ≡ a.first + (l.picks + 1) = omega arith in (
      omega (arith, room.2),
      omega (arith, l.invariant.1),
      omega (arith, l.invariant.2),
      room.0,
      room.1,
      λ above.
          let S = stage_of a.g a.level.now a.tables.now above in
          let r = run_of l.value l.m l.vector l.u in
          let r' = run_of x.new.value c.in_ok-next.a x.new.vector
          c.in_ok-next.b in
          l.invariant.5 above ∙ goes_on S a.n a.k a.input.now l.at (a.first + l.picks) l.picks r r' (drop next a.input.now)
          c.loop-at-test.true
          (c.in_ok-next.ensures.0 above)
          ∙ ap (λ p. p_lines most_picks S 65535 a.n a.k p (l.picks + 1) r' (lines (drop next a.input.now))) z,
    )

pub shape_of-value-then-m-eq0 : goal.shape_of-value-then-m-eq0
shape_of-value-then-m-eq0 c = omega (arith, c.loop-at.invariant.1)

pub shape_of-vector-then-m-eq0 : goal.shape_of-vector-then-m-eq0
shape_of-vector-then-m-eq0 c = omega (arith, c.loop-at.invariant.2)

pub returns-then-m-eq0 : goal.returns-then-m-eq0
returns-then-m-eq0 c =
    let a = c.args in
    let l = c.loop-at in (
      λ above.
          let S = stage_of a.g a.level.now a.tables.now above in
          sym (l.invariant.5 above ∙ at_end S a.n a.k a.input.now l.at (a.first + l.picks) l.picks (run_of l.value l.m l.vector l.u)
          (omega arith)
          ∙ zero_end S (a.first + l.picks) l.value l.vector l.u l.m (omega arith)),
      l.invariant.4,
    )

pub overflow_add-result : goal.overflow_add-result
overflow_add-result c = omega (arith, c.loop-at.invariant.0, c.requires.1)

pub shape_of-value : goal.shape_of-value
shape_of-value c = omega (arith, c.loop-at.invariant.1)

pub shape_of-vector : goal.shape_of-vector
shape_of-vector c = omega (arith, c.loop-at.invariant.2)

pub returns : goal.returns
returns c =
    let a = c.args in
    let l = c.loop-at in (
      λ above.
          let S = stage_of a.g a.level.now a.tables.now above in
          sym (l.invariant.5 above ∙ at_end S a.n a.k a.input.now l.at (a.first + l.picks) l.picks (run_of l.value l.m l.vector l.u)
          (omega arith)
          ∙ some_end S (a.first + l.picks) l.value l.vector l.u l.m (rows l.value 0 l.m) (length_rows l.value 0 l.m)
          (λ e. let z : ⊥ = omega (arith, e) in z)),
      tt,
    )
