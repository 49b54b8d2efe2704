use mathlib.Core.Path.{◌≡◌}
use Prim.Native.Nat.{◌-◌, ◌≤◌}
use Rattle.reducers.specs.tables.Cuts.{start_of, Weighed}
use Rattle.state.proofs.degrees.vectors_carry.Given as goal

abbrev pub invariant-loop-j : goal.invariant-loop-j
invariant-loop-j l = (l.j ≤ l.r) × (l.from ≡ start_of l.ends l.j) × Weighed l.n l.below l.level l.ends l.j l.d
