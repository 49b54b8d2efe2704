use mathlib.Core.Path.{◌≡◌}
use Prim.Native.Nat.{◌≤◌}
use lib.ListN.{length}
use lib.Dec.{T}
use Rattle.definitions.specs.Monomial.{Monomial}
use Rattle.definitions.specs.Order.{Comparison}
use Rattle.definitions.specs.Layout.{rows}
use Rattle.ending.specs.Good.{good?}
use Rattle.ending.specs.Spent.{spent}
use Rattle.runs.specs.reduction.Grounds.{family_of, ends_in}
use Rattle.runs.specs.run.Stages.{stage_of}
use Rattle.dividing.specs.steps.Divisions.{division_of}
use Rattle.dividing.proofs.steps.Reaching.{Reached}
use Rattle.dividing.proofs.steps.divide.Given as goal

abbrev pub invariant-loop-n : goal.invariant-loop-n
invariant-loop-n l =
    (l.n ≤ l.g.working) × (l.v ≤ l.g.vector) × (l.r ≤ l.g.working) × (length l.value ≡ length l.initial.value) × (length l.quotients ≡ length l.initial.quotients)
    × (length l.remainder ≡ length l.initial.remainder) × T (good? (rows l.value 0 l.n)) ×
    ((above : Monomial → Monomial → Comparison) → Reached (stage_of l.g l.level l.tables above) (division_of l.initial.value l.start l.initial.quotients 0 l.initial.remainder 0)
    (division_of l.value l.n l.quotients l.v l.remainder l.r))

abbrev pub decreases-loop-n : goal.decreases-loop-n
decreases-loop-n l = spent l.g.p (rows l.tables 0 l.g.r) (family_of l.g l.level (ends_in l.tables)) (rows l.value 0 l.n)
