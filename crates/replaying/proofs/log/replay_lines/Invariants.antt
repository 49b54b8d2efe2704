use borrow.Author.Rules.{rules}
use native.Mathlib.Omega.{arith}
use mathlib.Core.Path.{◌≡◌, refl, sym, ap, ◌∙◌, subst}
use mathlib.Core.List.{[]}
use Prim.Native.Nat.{ℕ, suc, ◌+◌, ◌-◌, ◌*◌, ◌<◌, ◌≤◌}
use lib.ListN.{length, drop}
use Rattle.definitions.specs.Monomial.{Monomial}
use Rattle.definitions.specs.Order.{Comparison}
use Rattle.definitions.specs.Problem.{lines}
use Rattle.definitions.specs.Result.{done, refused}
use Rattle.definitions.specs.Replay.{p_lines}
use Rattle.definitions.specs.Places.{most_picks}
use Rattle.definitions.specs.Layout.{rows}
use Rattle.laws.proofs.Rows.{length_rows}
use Rattle.runs.specs.run.Stages.{order_of, stage_of, run_of}
use Rattle.runs.proofs.run.Stepping.{rooms_again}
use Rattle.replaying.proofs.log.Turning.{goes_on, ends_there, at_end, less_left, zero_end, some_end}
use Rattle.replaying.proofs.log.replay_lines.Given as goal

abbrev pub invariant-loop-at : goal.invariant-loop-at
invariant-loop-at l =
    (l.picks ≤ most_picks) × (length l.value ≡ length l.initial.value) × (length l.vector ≡ length l.initial.vector) × (l.m ≤ l.g.working) × (l.u ≤ l.g.vector)
    × ((above : Monomial → Monomial → Comparison)
    → p_lines most_picks (stage_of l.g l.level l.tables above) 65535 l.n l.k l.first 0 (run_of l.initial.value l.start l.initial.vector l.begun) (lines (drop l.from l.input))
    ≡ p_lines most_picks (stage_of l.g l.level l.tables above) 65535 l.n l.k (l.first + l.picks) l.picks (run_of l.value l.m l.vector l.u) (lines (drop l.at l.input)))

abbrev pub decreases-loop-at : goal.decreases-loop-at
decreases-loop-at l = length (drop l.at l.input)
