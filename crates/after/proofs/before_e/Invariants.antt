use mathlib.Core.Path.{◌≡◌}
use mathlib.Core.Bool.{true}
use Prim.Native.Nat.{◌+◌}
use lib.ListN.{drop}
use Rattle.definitions.specs.After.{before_e}
use Rattle.after.proofs.before_e.Given as goal

abbrev pub invariant-loop-i : goal.invariant-loop-i
invariant-loop-i l = before_e true l.input ≡ l.i + before_e l.begins (drop l.i l.input)
