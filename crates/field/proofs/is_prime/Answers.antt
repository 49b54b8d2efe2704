use native.Mathlib.Omega.{arith}
use mathlib.Core.Path.{sym}
use Rattle.field.proofs.Primes.{prime_true, prime_false}
use Rattle.field.proofs.is_prime.Goals as goal

pub returns-then-q-d-eq0 : goal.returns-then-q-d-eq0
returns-then-q-d-eq0 c =
    let l = c.loop-d in prime_false c.args.p l.d l.invariant.1
    (omega (arith, c.loop-d-test.true, c.from-q.ensures)) (rw (sym c.from-q.ensures) c.if-q-d-eq0.true)

pub returns : goal.returns
returns c = let l = c.loop-d in prime_true c.args.p l.d l.invariant.0 (omega (arith, c.loop-d-test.false, c.from-q.ensures)) l.invariant.3
