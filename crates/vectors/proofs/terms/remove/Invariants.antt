use mathlib.Core.Path.{◌≡◌}
use Prim.Native.Nat.{◌-◌, ◌*◌, ◌≤◌}
use lib.ListN.{length}
use Rattle.vectors.specs.terms.Rows.{closed}
use Rattle.definitions.specs.Places.{row_length}
use Rattle.vectors.proofs.terms.remove.Given as goal

abbrev pub invariant-loop-k : goal.invariant-loop-k
invariant-loop-k l =
    (l.end ≡ l.n * row_length - row_length) × (l.i * row_length ≤ l.k) × (l.k ≤ l.end) × (length l.s ≡ length l.initial.s)
    × (l.s ≡ closed l.initial.s (l.i * row_length) l.k)

abbrev pub decreases-loop-k : goal.decreases-loop-k
decreases-loop-k l = l.end - l.k
