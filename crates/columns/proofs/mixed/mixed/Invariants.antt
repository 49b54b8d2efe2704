use mathlib.Core.Path.{◌≡◌}
use Prim.Native.Nat.{◌+◌, ◌-◌, ◌<◌, ◌≤◌}
use lib.ListN.{take}
use Rattle.definitions.specs.Lists.{any}
use Rattle.definitions.specs.Layout.{rows}
use Rattle.definitions.specs.Bidegrees.{degree_weighted}
use Rattle.columns.proofs.mixed.Mixing.{other?}
use Rattle.columns.proofs.mixed.mixed.Given as goal

abbrev pub invariant-loop-i : goal.invariant-loop-i
invariant-loop-i l =
    (l.from < l.i) × (l.i ≤ l.to) × (any (other? (degree_weighted l.kw (take l.n l.d)) l.level l.from) (rows l.level (l.from + 1) (l.to - (l.from + 1)))
    ≡ any (other? (degree_weighted l.kw (take l.n l.d)) l.level l.from) (rows l.level l.i (l.to - l.i)))
