use mathlib.Core.Path.{◌≡◌}
use Prim.Native.Nat.{◌≤◌}
use lib.ListN.{length, get_or}
use Rattle.lists.specs.Filling.{Filled}
use Rattle.definitions.specs.Places.{exponents_length}
use Rattle.columns.specs.weights.Keys.{key_weights}
use Rattle.columns.proofs.weights.key_weights.Given as goal

abbrev pub invariant-loop-j : goal.invariant-loop-j
invariant-loop-j l = (l.j ≤ exponents_length) × (length l.r ≡ exponents_length) × Filled (λ k. get_or (key_weights l.n l.ws) k 0) l.j l.r
