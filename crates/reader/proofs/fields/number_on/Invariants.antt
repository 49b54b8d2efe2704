use mathlib.Core.Path.{◌≡◌}
use Prim.Native.Nat.{◌≤◌}
use lib.ListN.{drop}
use Rattle.reader.specs.fields.Scanning.{number_on}
use Rattle.reader.proofs.fields.number_on.Given as goal

abbrev pub invariant-loop-at : goal.invariant-loop-at
invariant-loop-at l = (l.value ≤ 65535) × (number_on 65535 l.first (drop l.from l.file) ≡ number_on 65535 l.value (drop l.at l.file))
