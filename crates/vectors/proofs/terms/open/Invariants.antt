use mathlib.Core.Path.{◌≡◌}
use Prim.Native.Nat.{◌*◌, ◌≤◌}
use lib.ListN.{length}
use Rattle.vectors.specs.terms.Rows.{opened}
use Rattle.definitions.specs.Places.{row_length}
use Rattle.vectors.proofs.terms.open.Given as goal

abbrev pub invariant-loop-k : goal.invariant-loop-k
invariant-loop-k l =
    (l.start ≡ l.i * row_length) × (l.start ≤ l.k) × (l.k ≤ l.n * row_length) × (length l.s ≡ length l.initial.s)
    × (l.s ≡ opened l.initial.s l.k (l.n * row_length))

abbrev pub decreases-loop-k : goal.decreases-loop-k
decreases-loop-k l = l.k
