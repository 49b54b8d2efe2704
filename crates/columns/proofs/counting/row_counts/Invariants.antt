use mathlib.Core.Path.{◌≡◌}
use Prim.Native.Nat.{◌≤◌}
use lib.ListN.{length, get_or}
use Rattle.lists.specs.Filling.{Filled}
use Rattle.definitions.specs.Lists.{map}
use Rattle.definitions.specs.Pages.{all_columns}
use Rattle.definitions.specs.Betti.{betti_count}
use Rattle.columns.specs.counting.Columns.{columns_of}
use Rattle.columns.proofs.counting.row_counts.Given as goal

abbrev pub invariant-loop-c : goal.invariant-loop-c
invariant-loop-c l = (l.c ≤ 11) × (length l.counts ≡ 11) × Filled (λ k. get_or (map (betti_count (columns_of l.state) l.r) all_columns) k 0) l.c l.counts
