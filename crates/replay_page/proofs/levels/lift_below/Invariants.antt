use native.Mathlib.Omega.{arith}
use mathlib.Core.Path.{◌≡◌, refl, sym, ap, ◌∙◌, subst}
use Prim.Native.Nat.{ℕ, suc, ◌+◌, ◌-◌, ◌<◌, ◌≤◌}
use lib.ListN.{length, get_or}
use Rattle.level.specs.by_runs.Stages.{Base}
use Rattle.level.specs.all_levels.Level.{Liftable}
use Rattle.level.proofs.all_levels.Levels.{next_of, stays_of}
use Rattle.replay_page.proofs.levels.Below.{Going, going_first, going_on, going_refused, going_over}
use Rattle.replay_page.proofs.levels.lift_below.Given as goal

abbrev pub invariant-loop-i : goal.invariant-loop-i
invariant-loop-i l =
    (1 ≤ l.i) × (l.i ≤ l.k) × Base l.state (l.i - 1) × (get_or l.state 4 0 ≡ l.i) × Going l.k l.initial.state l.state l.i × (length l.state ≡ length l.initial.state)
    × (length l.work ≡ length l.initial.work)
