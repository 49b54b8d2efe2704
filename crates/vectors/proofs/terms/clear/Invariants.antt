use mathlib.Core.Path.{◌≡◌}
use Prim.Native.Nat.{◌-◌, ◌≤◌}
use lib.ListN.{length}
use Rattle.vectors.proofs.terms.Moving.{cleared_to}
use mathlib.Core.Logic.{◌⊎◌}
use Rattle.vectors.proofs.terms.clear.Given as goal

abbrev pub invariant-loop-k : goal.invariant-loop-k
invariant-loop-k l = (l.a ≤ l.k) × (length l.s ≡ length l.initial.s) × ((l.k ≡ l.a) ⊎ (l.k ≤ length l.initial.s)) × (l.s ≡ cleared_to l.initial.s l.a l.k)

abbrev pub decreases-loop-k : goal.decreases-loop-k
decreases-loop-k l = length l.initial.s - l.k
