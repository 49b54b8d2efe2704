use mathlib.Core.Path.{◌≡◌}
use Prim.Native.Nat.{◌-◌, ◌≤◌}
use lib.ListN.{length}
use lib.Seq.{paste}
use Rattle.definitions.specs.Places.{row_length}
use Rattle.vectors.proofs.terms.store_words.Given as goal

abbrev pub invariant-loop-j : goal.invariant-loop-j
invariant-loop-j l = (l.j ≤ row_length) × (length l.w ≡ row_length) × (length l.s ≡ length l.initial.s) × (l.s ≡ paste l.initial.s l.at l.w l.j)

abbrev pub decreases-loop-j : goal.decreases-loop-j
decreases-loop-j l = row_length - l.j
