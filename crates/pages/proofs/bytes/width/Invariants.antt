use mathlib.Core.Path.{◌≡◌}
use Prim.Native.Nat.{◌+◌}
use lib.ListN.{length}
use Rattle.definitions.specs.Sheet.{decimal}
use Rattle.pages.proofs.bytes.width.Given as goal

abbrev pub invariant-loop-x : goal.invariant-loop-x
invariant-loop-x l = l.w + length (decimal l.x) ≡ 1 + length (decimal l.v)

abbrev pub decreases-loop-x : goal.decreases-loop-x
decreases-loop-x l = l.x
