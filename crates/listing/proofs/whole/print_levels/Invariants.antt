use borrow.Author.Rules.{rules}
use native.Mathlib.Omega.{arith}
use mathlib.Core.Path.{◌≡◌, refl, ap}
use Prim.Native.Nat.{ℕ, ◌+◌, ◌-◌, ◌*◌, ◌<◌, ◌≤◌}
use lib.ListN.{length, get_or}
use Rattle.state.proofs.soundness.SoundLevels as sounding
use Rattle.pages.specs.bytes.Printing.{Printed}
use Rattle.pages.proofs.bytes.Spelling.{nothing, after, spelled}
use Rattle.listing.specs.whole.Listed.{lines_to}
use Rattle.listing.proofs.whole.Levels.{next_lines}
use Rattle.definitions.specs.Places.{level_lines_length}
use Rattle.listing.proofs.whole.print_levels.Given as goal

abbrev pub invariant-loop-k : goal.invariant-loop-k
invariant-loop-k l = (1 ≤ l.k) × (l.k ≤ l.height) × Printed l.initial.out l.out 0 l.at (lines_to l.state (l.k - 1)) × (l.at ≤ (l.k - 1) * level_lines_length) × (length l.out ≡ length l.initial.out)
