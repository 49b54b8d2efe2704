use native.Mathlib.Omega.{arith}
use mathlib.Core.Path.{◌≡◌, refl, sym, ap, ◌∙◌, subst}
use Prim.Native.Nat.{ℕ, suc, ◌+◌, ◌-◌, ◌<◌, ◌≤◌}
use lib.ListN.{length, get_or}
use Rattle.words.specs.refusals.Numbers.{number_of}
use Rattle.level.specs.by_runs.Stages.{Base}
use Rattle.level.specs.all_levels.Level.{Liftable}
use Rattle.level.proofs.all_levels.Levels.{next_of, stays_of}
use Rattle.replay_page.proofs.levels.Below.{Going, going_first, going_on, going_refused, going_over}
use Rattle.replay_page.proofs.levels.lift_below.Goals as goal

pub loop-i-init : goal.loop-i-init
loop-i-init c =
    let a = c.args in
    let P = c.requires in
    (omega arith, P.2, P.0, P.1, going_first a.k a.state.now, refl, refl)

pub lift_next-requires : goal.lift_next-requires
lift_next-requires c =
    let I = c.loop-i.invariant in
    let P = c.requires in
    let here = c.loop-i-test.true in
    (record { low = I.0; high = omega (arith, here, P.3); base = I.2 }, omega (arith, I.6, P.4))

pub shape_of-state-in-Err : goal.shape_of-state-in-Err
shape_of-state-in-Err c = omega (arith, c.loop-i.invariant.5)

pub shape_of-work-in-Err : goal.shape_of-work-in-Err
shape_of-work-in-Err c = omega (arith, c.loop-i.invariant.6)

pub returns-in-Err : goal.returns-in-Err
returns-in-Err c =
    let l = c.loop-i in
    let I = l.invariant in
    let a = c.args in
    let P = c.requires in
    let here : l.i < a.k = c.loop-i-test.true in
    let H : Liftable l.state l.i = record { low = I.0; high = omega (arith, here, P.3); base = I.2 } in
    let L = c.lift_next in
    let M = c.in-Err.ensures in
    let e = c.in-Err.refusal in
    let R = stays_of l.state l.i H e L.new.state M in
    record {
      bound = I.4.0 + (M.bound + 0);
      gives = going_refused a.k a.state.now l.state l.i H I.4 here M.bound (number_of e) L.new.state R M.finishes;
      ready = tt;
    }

pub loop-i-preserved : goal.loop-i-preserved
loop-i-preserved c =
    let l = c.loop-i in
    let I = l.invariant in
    let a = c.args in
    let P = c.requires in
    let here : l.i < a.k = c.loop-i-test.true in
    let H : Liftable l.state l.i = record { low = I.0; high = omega (arith, here, P.3); base = I.2 } in
    let L = c.lift_next in
    let M = c.in_default.ensures in
    let N = next_of l.state l.i H L.new.state M in
    let e : l.i ≡ l.i + 1 - 1 = omega arith in
    let one : suc l.i ≡ l.i + 1 = omega arith in (
      omega arith,
      omega (arith, here),
      subst (Base L.new.state) e N.base,
      N.height ∙ one,
      going_on a.k a.state.now l.state l.i H I.4 here M.bound L.new.state N,
      omega (arith, I.5),
      omega (arith, I.6),
    )

pub shape_of-state : goal.shape_of-state
shape_of-state c = omega (arith, c.loop-i.invariant.5)

pub shape_of-work : goal.shape_of-work
shape_of-work c = omega (arith, c.loop-i.invariant.6)

pub returns : goal.returns
returns c =
    let a = c.args in
    let l = c.loop-i in
    let I = l.invariant in
    let e : l.i ≡ a.k = omega (arith, I.1) in
    let g = subst (Going a.k a.state.now l.state) e I.4 in
    record {
      bound = g.0 + 0;
      gives = going_over a.k a.state.now l.state g;
      ready = (subst (λ x. Base l.state (x - 1)) e I.2, I.3 ∙ e);
    }
