use mathlib.Core.Path.{◌≡◌}
use Prim.Native.Nat.{◌≤◌}
use lib.ListN.{length}
use Rattle.runs.proofs.run.Reaching.{Reached}
use Rattle.runs.specs.run.Stages.{stage_of, strategy_of, run_of}
use Rattle.runs.specs.reduction.Grounds.{family_of, ends_in}
use Rattle.ending.specs.Spent.{spent}
use Rattle.ending.specs.Good.{good?}
use Rattle.definitions.specs.Layout.{rows}
use Rattle.definitions.specs.Order.{Comparison}
use Rattle.definitions.specs.Monomial.{Monomial}
use lib.Dec.{T}
use Rattle.runs.proofs.run.steps.Given as goal

abbrev pub invariant-loop-n : goal.invariant-loop-n
invariant-loop-n l =
    (l.n ≤ l.g.working) × (l.v ≤ l.g.vector) × (length l.value ≡ length l.initial.value) × (length l.vector ≡ length l.initial.vector) × T (good? (rows l.value 0 l.n)) ×
    ((above : Monomial → Monomial → Comparison) → Reached (stage_of l.g l.level l.tables above) (strategy_of l.g l.tables l.w) (run_of l.initial.value l.start l.initial.vector l.first)
    (run_of l.value l.n l.vector l.v))

abbrev pub decreases-loop-n : goal.decreases-loop-n
decreases-loop-n l = spent l.g.p (rows l.tables 0 l.g.r) (family_of l.g l.level (ends_in l.tables)) (rows l.value 0 l.n)
