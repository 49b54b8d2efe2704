use mathlib.Core.Path.{◌≡◌}
use Prim.Native.Nat.{◌+◌}
use lib.ListN.{drop}
use Rattle.definitions.specs.After.{line_length}
use Rattle.after.proofs.behind_line.Given as goal

abbrev pub invariant-loop-i : goal.invariant-loop-i
invariant-loop-i l = l.at + line_length (drop l.at l.input) ≡ l.i + line_length (drop l.i l.input)
