use mathlib.Core.Path.{◌≡◌}
use Prim.Native.Nat.{◌+◌, ◌≤◌}
use lib.ListN.{take, drop}
use Rattle.definitions.specs.Layout.{vectors_at}
use Rattle.definitions.specs.Betti.{first_mixed}
use Rattle.reducers.specs.tables.Cuts.{start_of}
use Rattle.columns.specs.mixed.Placed.{same_key?}
use Rattle.columns.proofs.mixed.first_among.Given as goal

abbrev pub invariant-loop-j : goal.invariant-loop-j
invariant-loop-j l =
    (l.j ≤ l.r) × (l.from ≡ start_of l.ends l.j) × (first_mixed (same_key? l.kw (take l.n l.d)) 1 (vectors_at l.level 0 (take l.r l.ends))
    ≡ first_mixed (same_key? l.kw (take l.n l.d)) (l.j + 1) (vectors_at l.level l.from (drop l.j (take l.r l.ends))))
