use native.Mathlib.Omega.{arith}
use mathlib.Core.Path.{sym, ap}
use Rattle.definitions.specs.Packed.{pack}
use Rattle.state.specs.soundness.Holding.{exponent_limits as limits_definition}
use Rattle.state.proofs.soundness.RowTests.{limits_all}
use Rattle.state.proofs.soundness.exponent_limits.Goals as goal

pub returns-in-0 : goal.returns-in-0
returns-in-0 c = sym (ap (λ n. pack (limits_definition n)) c.in-0.is)

pub returns-in-1 : goal.returns-in-1
returns-in-1 c = sym (ap (λ n. pack (limits_definition n)) c.in-1.is)

pub returns-in-2 : goal.returns-in-2
returns-in-2 c = sym (ap (λ n. pack (limits_definition n)) c.in-2.is)

pub returns-in-3 : goal.returns-in-3
returns-in-3 c = sym (ap (λ n. pack (limits_definition n)) c.in-3.is)

pub returns-in-4 : goal.returns-in-4
returns-in-4 c = sym (ap (λ n. pack (limits_definition n)) c.in-4.is)

pub returns-in-5 : goal.returns-in-5
returns-in-5 c = sym (ap (λ n. pack (limits_definition n)) c.in-5.is)

pub returns-in-6 : goal.returns-in-6
returns-in-6 c = sym (ap (λ n. pack (limits_definition n)) c.in-6.is)

pub returns-in-7 : goal.returns-in-7
returns-in-7 c = sym (ap (λ n. pack (limits_definition n)) c.in-7.is)

pub returns-in_default : goal.returns-in_default
returns-in_default c = sym (limits_all c.args.n (omega arith))
