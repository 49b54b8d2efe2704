use native.Mathlib.Omega.{arith}
use mathlib.Core.Path.{◌≡◌, refl, subst}
use Prim.Native.Nat.{◌+◌, ◌-◌, ◌<◌}
use lib.ListN.{length}
use Rattle.definitions.specs.Limits.{document_01}
use Rattle.definitions.specs.Layout.{level_at}
use Rattle.state.proofs.preparing.Complete.{complete_count}
use Rattle.level.specs.by_runs.Stages.{Base}
use Rattle.words.specs.refusals.Numbers.{number_of}
use Rattle.level.specs.all_levels.Level.{Liftable}
use Rattle.level.proofs.all_levels.Lifting.{lowest}
use Rattle.level.proofs.all_levels.Levels.{next_of, stays_of, going_first, going_refused, going_last, going_on, going_nine}
use Rattle.level.proofs.all_levels.lift_levels.Goals as goal

pub loop-k-init : goal.loop-k-init
loop-k-init c = (omega arith, omega arith, c.requires.0, going_first c.args.state.now, refl, refl)

pub lift_next-requires : goal.lift_next-requires
lift_next-requires c =
    let l = c.loop-k in
    let I = l.invariant in
    (record { low = I.0; high = omega arith; base = I.2 }, omega (arith, I.5, c.requires.1))

pub shape_of-state-in-Err : goal.shape_of-state-in-Err
shape_of-state-in-Err c = let I = c.loop-k.invariant in omega (arith, I.4)

pub shape_of-work-in-Err : goal.shape_of-work-in-Err
shape_of-work-in-Err c = let I = c.loop-k.invariant in omega (arith, I.5)

pub returns-in-Err : goal.returns-in-Err
returns-in-Err c =
    let l = c.loop-k in
    let I = l.invariant in
    let H : Liftable l.state l.k = record { low = I.0; high = omega arith; base = I.2 } in
    let t = c.lift_next.new.state in
    let M = c.in-Err.ensures in
    (going_refused c.args.state.now l.state l.k H I.3 M.bound (number_of c.in-Err.refusal) t (stays_of l.state l.k H c.in-Err.refusal t M) M.finishes, M.base)

pub count_of-requires : goal.count_of-requires
count_of-requires c =
    let l = c.loop-k in
    let I = l.invariant in
    let H : Liftable l.state l.k = record { low = I.0; high = omega arith; base = I.2 } in
    let N = next_of l.state l.k H c.lift_next.new.state c.in_default.ensures in
    (N.base.long, N.base.low)

pub shape_of-state-then-count_of-eq0 : goal.shape_of-state-then-count_of-eq0
shape_of-state-then-count_of-eq0 c = omega (arith, c.loop-k.invariant.4)

pub shape_of-work-then-count_of-eq0 : goal.shape_of-work-then-count_of-eq0
shape_of-work-then-count_of-eq0 c = omega (arith, c.loop-k.invariant.5)

pub returns-then-count_of-eq0 : goal.returns-then-count_of-eq0
returns-then-count_of-eq0 c =
    let l = c.loop-k in
    let I = l.invariant in
    let H : Liftable l.state l.k = record { low = I.0; high = omega arith; base = I.2 } in
    let t = c.lift_next.new.state in
    let M = c.in_default.ensures in
    let N = next_of l.state l.k H t M in
    let counted = complete_count t N.base.long N.base.holds l.k N.base.has in
    let none : length (level_at document_01 t l.k) ≡ 0 = omega (arith, counted, c.count_of.ensures) in
    (going_last c.args.state.now l.state l.k H I.3 M.bound t N none, M.base)

pub loop-k-preserved : goal.loop-k-preserved
loop-k-preserved c =
    let l = c.loop-k in
    let I = l.invariant in
    let H : Liftable l.state l.k = record { low = I.0; high = omega arith; base = I.2 } in
    let t = c.lift_next.new.state in
    let M = c.in_default.ensures in
    let N = next_of l.state l.k H t M in
    let counted = complete_count t N.base.long N.base.holds l.k N.base.has in
    let more : 0 < length (level_at document_01 t l.k) = omega (arith, counted, c.count_of.ensures) in
    let e : l.k ≡ l.k + 1 - 1 = omega arith in (
      omega arith,
      omega arith,
      subst (Base t) e N.base,
      going_on c.args.state.now l.state l.k H I.3 M.bound t N more,
      omega (arith, I.4),
      omega (arith, I.5),
    )

pub shape_of-state : goal.shape_of-state
shape_of-state c = omega (arith, c.loop-k.invariant.4)

pub shape_of-work : goal.shape_of-work
shape_of-work c = omega (arith, c.loop-k.invariant.5)

pub returns : goal.returns
returns c =
    let l = c.loop-k in
    let I = l.invariant in
    (going_nine c.args.state.now l.state l.k (omega arith) I.3, lowest l.state (l.k - 1) I.2)
