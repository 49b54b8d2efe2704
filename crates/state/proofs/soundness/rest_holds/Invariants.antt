use mathlib.Core.Path.{◌≡◌}
use Prim.Native.Nat.{◌+◌, ◌-◌, ◌<◌, ◌≤◌}
use Rattle.definitions.specs.Layout.{row_at}
use Rattle.orders.specs.Images.{key, key_of, table_of, table_order}
use Rattle.state.specs.soundness.Holding.{follows?, all_hold?}
use Rattle.state.proofs.soundness.rest_holds.Given as goal

abbrev pub invariant-loop-i : goal.invariant-loop-i
invariant-loop-i l =
    (l.from < l.i) × (l.i ≤ l.to) × (key_of l.before ≡ key (table_of l.n l.table) (row_at l.level (l.i - 1)).1)
    × (all_hold? (follows? l.b (table_order l.code (table_of l.n l.table)) l.level) (l.from + 1) (l.to - (l.from + 1))
    ≡ all_hold? (follows? l.b (table_order l.code (table_of l.n l.table)) l.level) l.i (l.to - l.i))
