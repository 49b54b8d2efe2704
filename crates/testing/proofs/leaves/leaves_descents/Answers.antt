use native.Mathlib.Omega.{arith}
use mathlib.Core.Path.{◌≡◌, sym, ap, ◌∙◌}
use lib.ListN.{length}
use Rattle.testing.proofs.LeavesCalls.{counted_none}
use Prim.Native.Nat.{◌/◌}
use borrow.Author.Tests.{le-leb, lt-leb}
use Rattle.definitions.specs.Lists.{choose}
use Rattle.definitions.specs.Places.{row_length}
use Rattle.testing.specs.Leaves.{counted, descent}
use Rattle.testing.proofs.LeavesCalls.{counted_step}
use Rattle.testing.proofs.leaves.leaves_descents.Goals as goal

pub returns-then-s-n : goal.returns-then-s-n
returns-then-s-n c =
    let a = c.args in sym (ap (λ b. choose b 0 (counted (descent a.code a.s.now) a.n))
    (le-leb (length a.s.now / row_length) a.n c.if-s-n.true))

pub loop-i-init : goal.loop-i-init
loop-i-init c = let a = c.args in (omega arith, omega arith, counted_none (descent a.code a.s.now))

pub overflow_add-k : goal.overflow_add-k
overflow_add-k c = omega (arith, c.descent_at-k.ensures.1)

pub loop-i-preserved : goal.loop-i-preserved
loop-i-preserved c =
    let a = c.args in let l = c.loop-i in (
      omega (arith, c.descent_at-k.ensures.1),
      omega arith,
      counted_step (descent a.code a.s.now) l.i l.k c.descent_at-k.result
          l.invariant.2 c.descent_at-k.ensures.0,
    )

pub returns : goal.returns
returns c =
    let a = c.args in
    let l = c.loop-i in
    let z : l.i ≡ a.n = omega arith in
    l.invariant.2 ∙ ap (counted (descent a.code a.s.now)) z ∙ sym (ap (λ b. choose b 0 (counted (descent a.code a.s.now) a.n))
    (lt-leb (length a.s.now / row_length) a.n c.if-s-n.false))
