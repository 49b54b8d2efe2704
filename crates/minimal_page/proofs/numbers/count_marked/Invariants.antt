use mathlib.Core.Path.{◌≡◌}
use Prim.Native.Nat.{◌*◌, ◌≤◌}
use lib.ListN.{take}
use Rattle.definitions.specs.Lists.{sum}
use Rattle.definitions.specs.Minimal.{of_degree}
use Rattle.minimal_page.proofs.numbers.count_marked.Given as goal

abbrev pub invariant-loop-i : goal.invariant-loop-i
invariant-loop-i l = (l.k ≡ sum (of_degree l.x (take l.i l.ds) (take l.i l.marks))) × (l.k ≤ l.i * 65535)
