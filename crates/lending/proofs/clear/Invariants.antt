use mathlib.Core.Path.{◌≡◌}
use Prim.Native.Nat.{◌≤◌}
use lib.ListN.{length}
use Rattle.vectors.proofs.terms.Moving.{cleared_to}
use mathlib.Core.Logic.{◌⊎◌}
use Rattle.lending.proofs.clear.Given as goal

abbrev pub invariant-loop-i : goal.invariant-loop-i
invariant-loop-i l = (l.from ≤ l.i) × (length l.out ≡ length l.initial.out) × ((l.i ≡ l.from) ⊎ (l.i ≤ length l.initial.out)) ×
    (l.out ≡ cleared_to l.initial.out l.from l.i)
