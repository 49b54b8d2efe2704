use native.Mathlib.Omega.{arith}
use mathlib.Core.Path.{◌≡◌, refl, ap}
use Prim.Native.Nat.{◌+◌, ◌-◌, ◌*◌, ◌≤◌}
use lib.ListN.{length, take}
use Rattle.pages.specs.bytes.Printing.{Printed}
use Rattle.listing.specs.printing.Lines.{listed}
use Rattle.pages.proofs.bytes.Spelling.{nothing, after, spelled}
use Rattle.listing.proofs.printing.Fields.{listed_more}
use Rattle.listing.proofs.printing.exponents.Given as goal

abbrev pub invariant-loop-j : goal.invariant-loop-j
invariant-loop-j l = (l.j ≤ l.n) × (length l.out ≡ length l.initial.out) × Printed l.initial.out l.out l.at l.a (listed (take l.j l.e)) × (l.a ≤ l.at + l.j * 6)
