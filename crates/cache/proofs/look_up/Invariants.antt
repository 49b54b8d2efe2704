use mathlib.Core.Path.{◌≡◌}
use Prim.Native.Nat.{◌≤◌}
use Rattle.monomial.specs.Values.{monomial_of}
use Rattle.definitions.specs.Tree.{cached}
use Rattle.cache.specs.Entries.{cache_of}
use Rattle.cache.proofs.look_up.Given as goal

abbrev pub invariant-loop-k : goal.invariant-loop-k
invariant-loop-k l = (l.k ≤ l.used) × (cached (monomial_of l.m) (cache_of l.used l.cache) ≡ cached (monomial_of l.m) (cache_of l.k l.cache))

abbrev pub decreases-loop-k : goal.decreases-loop-k
decreases-loop-k l = l.k
