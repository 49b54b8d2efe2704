use mathlib.Core.Path.{◌≡◌}
use Prim.Native.Nat.{◌-◌, ◌≤◌}
use lib.ListN.{take, drop}
use Rattle.orders.specs.Images.{table_of, table_order}
use Rattle.state.specs.soundness.Holding.{vectors_hold?}
use Rattle.state.proofs.soundness.vectors_hold.Given as goal

abbrev pub invariant-loop-j : goal.invariant-loop-j
invariant-loop-j l =
    (l.j ≤ l.r) × (vectors_hold? l.b l.most (table_order l.code (table_of l.n l.table)) l.level 0 (take l.r l.ends)
    ≡ vectors_hold? l.b l.most (table_order l.code (table_of l.n l.table)) l.level l.from (drop l.j (take l.r l.ends)))
