use mathlib.Core.Path.{◌≡◌}
use Prim.Native.Nat.{◌≤◌}
use lib.ListN.{length}
use Rattle.orders.specs.Images.{table_of, table_order}
use Rattle.definitions.specs.Tree.{add_result}
use Rattle.definitions.specs.Layout.{rows}
use Rattle.cache.proofs.BoundedSums.{adding_from}
use Rattle.cache.proofs.add_rows.Given as goal

abbrev pub invariant-loop-i : goal.invariant-loop-i
invariant-loop-i l =
    (l.i ≤ l.len) × (l.k ≤ l.limit) × (length l.s ≡ length l.initial.s)
    × (add_result (table_order l.code (table_of l.r l.table)) l.p l.limit 0 l.c (rows l.part 0 l.len) (rows l.initial.s 0 l.n)
    ≡ adding_from (table_order l.code (table_of l.r l.table)) l.p l.limit 0 l.c l.part 0 l.len l.i (rows l.s 0 l.k))
