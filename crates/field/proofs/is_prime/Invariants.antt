use Prim.Native.Nat.{◌-◌, ◌≤◌}
use Rattle.field.proofs.Primes.{Clear}
use Rattle.field.proofs.is_prime.Given as goal

abbrev pub invariant-loop-d : goal.invariant-loop-d
invariant-loop-d l = (2 ≤ l.p) × (2 ≤ l.d) × (l.d ≤ 256) × Clear l.p l.d

abbrev pub decreases-loop-d : goal.decreases-loop-d
decreases-loop-d l = 257 - l.d
