use mathlib.Core.Path.{◌≡◌}
use Prim.Native.Nat.{◌+◌, ◌-◌, ◌<◌}
use Rattle.definitions.specs.Layout.{row_at}
use Rattle.orders.specs.Images.{table_of, key, key_of}
use Rattle.runs.proofs.reduction.Picking.{GreatestOfFirst}
use Rattle.runs.proofs.reduction.greatest.Given as goal

-- the running image is the running term's, and the term is the greatest of those passed
abbrev pub invariant-loop-best : goal.invariant-loop-best
invariant-loop-best l =
    (l.best.row < l.n) × (key_of l.best.image ≡ key (table_of l.images l.below) (row_at l.value l.best.row).1)
    × GreatestOfFirst l.code (table_of l.images l.below) l.value (l.best.row + 1) l.best.row

abbrev pub decreases-loop-best : goal.decreases-loop-best
decreases-loop-best l = l.n - l.best.row
