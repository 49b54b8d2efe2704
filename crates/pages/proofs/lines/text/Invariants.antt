use mathlib.Core.Path.{◌≡◌}
use Prim.Native.Nat.{◌+◌, ◌≤◌}
use lib.ListN.{length, take}
use Rattle.pages.specs.bytes.Printing.{Printed}
use Rattle.pages.proofs.lines.text.Given as goal

abbrev pub invariant-loop-x : goal.invariant-loop-x
invariant-loop-x l = (l.x-index ≤ 6) × (length l.out ≡ length l.initial.out) × Printed l.initial.out l.out l.at l.a (take l.x-index l.t) × (l.a ≡ l.at + l.x-index)
