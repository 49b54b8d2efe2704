use mathlib.Core.Path.{◌≡◌}
use Prim.Native.Nat.{◌≤◌}
use lib.ListN.{length, replicate}
use Rattle.pages.specs.bytes.Printing.{Printed}
use Rattle.pages.proofs.bytes.spaces.Given as goal

abbrev pub invariant-loop-i : goal.invariant-loop-i
invariant-loop-i l = (l._i ≤ l.n) × (length l.out ≡ length l.initial.out) × Printed l.initial.out l.out l.at l.a (replicate l._i 32)
