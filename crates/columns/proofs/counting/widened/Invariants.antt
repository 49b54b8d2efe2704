use mathlib.Core.Path.{◌≡◌}
use lib.ListN.{take}
use Prim.Native.Nat.{◌+◌, ◌-◌, ◌≤◌}
use Rattle.definitions.specs.Lists.{map}
use Rattle.definitions.specs.Betti.{smallest, largest}
use Rattle.definitions.specs.Places.{row_shift}
use Rattle.columns.proofs.counting.widened.Given as goal

abbrev pub invariant-loop-d : goal.invariant-loop-d
invariant-loop-d l =
    (l.a ≡ smallest l.low (map (λ d. d + row_shift - l.c) (take l.d-index l.ds)))
    × (l.b ≡ largest l.high (map (λ d. d + row_shift - l.c) (take l.d-index l.ds))) × (l.a ≤ l.low) × (l.high ≤ l.b)
