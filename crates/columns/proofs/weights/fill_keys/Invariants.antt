use mathlib.Core.Path.{◌≡◌}
use Prim.Native.Nat.{◌≤◌}
use lib.ListN.{length, take}
use Rattle.reducers.specs.tables.Cuts.{start_of}
use Rattle.columns.specs.weights.Keys.{Weighed}
use Rattle.columns.proofs.weights.fill_keys.Given as goal

abbrev pub invariant-loop-j : goal.invariant-loop-j
invariant-loop-j l = (l.j ≤ l.r) × (length l.next ≡ length l.initial.next) × (l.from ≡ start_of l.ends l.j)
    × Weighed l.kw (take l.n l.below) l.level l.ends l.j l.next
