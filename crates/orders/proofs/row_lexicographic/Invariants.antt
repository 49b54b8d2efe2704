use mathlib.Core.Path.{◌≡◌}
use Prim.Native.Nat.{◌<◌, ◌≤◌}
use lib.ListN.{length, drop}
use Rattle.definitions.specs.Order.{lexicographic}
use Rattle.definitions.specs.Packed.{long_bound}
use Rattle.orders.specs.Images.{row_image}
use Rattle.orders.proofs.RowImages.{Ahead}
use Rattle.orders.proofs.row_lexicographic.Given as goal

abbrev pub invariant-loop-j : goal.invariant-loop-j
invariant-loop-j l =
    (l.j ≤ 8) × (length l.x ≡ 8) × (l.f < long_bound) × Ahead l.e l.j l.f
    × (lexicographic l.x (row_image l.e l.table l.to) ≡ lexicographic (drop l.j l.x) (drop l.j (row_image l.e l.table l.to)))
