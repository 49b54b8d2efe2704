use native.Mathlib.Omega.{arith}
use mathlib.Core.Path.{sym, ap}
use Rattle.lift_call.proofs.Coding.{no_way}
use Rattle.lift_call.specs.Codes.{coded_way}
use Rattle.lift_call.proofs.way_by.Goals as goal

pub returns-in-0 : goal.returns-in-0
returns-in-0 c = sym (ap (λ w. coded_way w c.args.pick) c.in-0.is)

pub returns-in-1 : goal.returns-in-1
returns-in-1 c = sym (ap (λ w. coded_way w c.args.pick) c.in-1.is)

pub returns-in-2 : goal.returns-in-2
returns-in-2 c = sym (ap (λ w. coded_way w c.args.pick) c.in-2.is)

pub returns-in_default : goal.returns-in_default
returns-in_default c = sym (no_way c.args.way c.args.pick (λ e. omega arith) (λ e. omega arith) (λ e. omega arith))
