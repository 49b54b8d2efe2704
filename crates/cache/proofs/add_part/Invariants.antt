use mathlib.Core.Path.{◌≡◌}
use Prim.Native.Nat.{◌+◌, ◌≤◌}
use lib.ListN.{length}
use Rattle.orders.specs.Images.{table_of, table_order}
use Rattle.definitions.specs.Tree.{add_result}
use Rattle.definitions.specs.Layout.{rows}
use Rattle.definitions.specs.Lists.{choose}
use Rattle.cache.proofs.BoundedSums.{adding_from}
use Rattle.cache.specs.Area.{Keeps, Leaves}
use Rattle.cache.proofs.add_part.Given as goal

abbrev pub invariant-loop-i : goal.invariant-loop-i
invariant-loop-i l =
    (l.i ≤ l.len) × (l.a + l.k ≤ l.top) × (length l.work ≡ length l.initial.work)
    × Keeps l.a l.initial.work l.work × Leaves l.top l.initial.work l.work × (add_result (table_order l.code (table_of l.r l.table)) l.p l.top l.a l.c
    (rows (choose l.in_cache l.cache l.initial.work) l.from l.len) (rows l.initial.work l.a l.n)
    ≡ adding_from (table_order l.code (table_of l.r l.table)) l.p l.top l.a l.c
    (choose l.in_cache l.cache l.initial.work) l.from l.len l.i (rows l.work l.a l.k))
