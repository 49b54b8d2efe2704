use mathlib.Core.Path.{◌≡◌}
use Prim.Native.Nat.{◌-◌, ◌≤◌}
use lib.ListN.{length}
use Rattle.runs.specs.reduction.Grounds.{reduction_of}
use Rattle.definitions.specs.Packed.{unpack}
use Rattle.definitions.specs.Layout.{rows}
use Rattle.definitions.specs.Run.{add_products}
use Rattle.runs.proofs.reduction.add_all.Given as goal

abbrev pub invariant-loop-i : goal.invariant-loop-i
invariant-loop-i l =
    (l.from ≤ l.i) × (l.k ≤ l.g.working) × (length l.value ≡ length l.initial.value)
    × (add_products (reduction_of l.g l.tables) l.drops l.c (unpack l.q) (rows l.level l.from (l.to - l.from)) (rows l.initial.value 0 l.n)
    ≡ add_products (reduction_of l.g l.tables) l.drops l.c (unpack l.q) (rows l.level l.i (l.to - l.i)) (rows l.value 0 l.k))
