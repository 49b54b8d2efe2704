use native.Mathlib.Omega.{arith}
use mathlib.Core.Path.{sym, ◌∙◌}
use Prim.Native.Nat.{◌-◌, ◌*◌}
use native.Mathlib.Nat.{mod-lt}
use Prim.Native.Nat.{◌/◌}
use Rattle.field.proofs.Inverses.{inverse_on, inverse_end}
use Rattle.field.proofs.inverse.Goals as goal

pub loop-x-preserved : goal.loop-x-preserved
loop-x-preserved c =
    let l = c.loop-x in
    let a = c.args in (
      rw c.times-r.ensures (mod-lt (l.r * (a.p - a.p / l.x)) (omega arith)),
      rw c.times-r.ensures (inverse_on a.p l.r l.x (omega arith) ∙ l.invariant.1),
    )

pub returns : goal.returns
returns c =
    let l = c.loop-x in
    let a = c.args in
    sym (inverse_end a.p l.r l.x (omega arith) l.invariant.0) ∙ l.invariant.1
