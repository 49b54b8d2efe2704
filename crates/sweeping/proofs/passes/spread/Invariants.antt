use Rattle.sweeps.specs.Places.{spread_at}
use Rattle.sweeping.specs.Nodes.{edges_in}
use Rattle.sweeping.specs.Sums.{Holds}
use mathlib.Core.Path.{◌≡◌}
use Prim.Native.Nat.{ℕ, ◌+◌, ◌-◌, ◌≤◌}
use lib.ListN.{length}
use Rattle.sweeping.proofs.passes.spread.Given as goal

abbrev pub invariant-loop-k : goal.invariant-loop-k
invariant-loop-k l =
    (l.a ≤ l.k) × (l.k ≤ l.b) × (length l.sums ≡ length l.initial.sums)
    × (spread_at l.c (edges_in l.words l.a (l.b - l.a)) l.initial.sums ≡ spread_at l.c (edges_in l.words l.k (l.b - l.k)) l.sums) × Holds (l.b - l.k) l.sums
    × ((r : ℕ) → Holds ((l.b - l.a) + r) l.initial.sums → Holds ((l.b - l.k) + r) l.sums)
