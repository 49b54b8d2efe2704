use mathlib.Core.Path.{◌≡◌}
use Prim.Native.Nat.{◌-◌, ◌≤◌}
use lib.ListN.{length}
use lib.Seq.{paste}
use Rattle.definitions.specs.Layout.{rows}
use Rattle.ranks.specs.Blocks.{row_from}
use Rattle.constants.proofs.filling.fill_vector.Given as goal

abbrev pub invariant-loop-i : goal.invariant-loop-i
invariant-loop-i l = (l.from ≤ l.i) × (l.i ≤ l.to) × (length l.m ≡ length l.initial.m)
    × (l.m ≡ paste l.initial.m l.at (row_from 1 l.below l.d (rows l.level l.i (l.to - l.i))) (length l.below))
