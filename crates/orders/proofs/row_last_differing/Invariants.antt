use mathlib.Core.Path.{◌≡◌}
use Prim.Native.Nat.{◌<◌, ◌≤◌}
use lib.ListN.{length}
use Rattle.definitions.specs.Packed.{long_bound}
use Rattle.orders.specs.Images.{row_image}
use Rattle.orders.proofs.Comparing.{EqualFrom}
use Rattle.orders.proofs.RowImages.{Behind}
use Rattle.orders.proofs.row_last_differing.Given as goal

abbrev pub invariant-loop-j : goal.invariant-loop-j
invariant-loop-j l = (l.j ≤ 8) × (length l.x ≡ 8) × (l.f < long_bound) × Behind l.e l.j l.f × EqualFrom l.j l.x (row_image l.e l.table l.to)
