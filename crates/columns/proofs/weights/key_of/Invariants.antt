use mathlib.Core.Path.{◌≡◌}
use Prim.Native.Nat.{◌+◌, ◌*◌, ◌≤◌}
use lib.ListN.{drop}
use Rattle.definitions.specs.Bidegrees.{weighted}
use Rattle.definitions.specs.Places.{exponents_length, most_exponent}
use Rattle.columns.specs.weights.Keys.{most_key_weight}
use Rattle.columns.proofs.weights.key_of.Given as goal

abbrev pub invariant-loop-j : goal.invariant-loop-j
invariant-loop-j l = (l.j ≤ exponents_length) × (weighted l.kw l.e ≡ l.sum + weighted (drop l.j l.kw) (drop l.j l.e))
    × (l.sum ≤ l.j * (most_key_weight * most_exponent))
