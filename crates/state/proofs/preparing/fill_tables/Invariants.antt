use mathlib.Core.Path.{◌≡◌}
use Prim.Native.Nat.{◌-◌, ◌≤◌}
use lib.ListN.{length}
use Rattle.state.specs.preparing.Prepared.{ReadyPair}
use Rattle.state.proofs.preparing.fill_tables.Given as goal

abbrev pub invariant-loop-j : goal.invariant-loop-j
invariant-loop-j l =
    (l.j ≤ l.k) × (length l.below ≡ length l.initial.below) × (length l.above ≡ length l.initial.above)
    × ReadyPair l.state l.j l.below l.above
