use mathlib.Core.Path.{◌≡◌}
use Prim.Native.Nat.{◌*◌, ◌≤◌}
use lib.ListN.{take}
use Rattle.definitions.specs.Hilbert.{column_value}
use Rattle.standard_monomials.specs.Table.{most_monomials}
use Rattle.columns.proofs.values.column_value.Given as goal

abbrev pub invariant-loop-g : goal.invariant-loop-g
invariant-loop-g l = (l.sum ≡ column_value l.n l.d (take l.g-index l.ds)) × (l.sum ≤ l.g-index * most_monomials)
