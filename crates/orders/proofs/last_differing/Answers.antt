use native.Mathlib.Omega.{arith}
use mathlib.Core.Path.{◌≡◌, sym, ◌∙◌}
use Prim.Native.Nat.{◌+◌, ◌-◌}
use Rattle.orders.proofs.Comparing.{last_differing_equal, last_differing_decided}
use Rattle.orders.proofs.last_differing.Goals as goal

pub returns-then-is_ne : goal.returns-then-is_ne
returns-then-is_ne c =
    let l = c.loop-j in
    let s : l.j - 1 + 1 ≡ l.j = omega arith in
    last_differing_decided c.args.x c.args.y (l.j - 1) c.cmp-d.result (omega arith) (omega arith) (rw s l.invariant.3) c.cmp-d.ensures
    (sym c.is_ne.ensures ∙ c.if-is_ne.true)

pub returns : goal.returns
returns c = sym (last_differing_equal c.args.x c.args.y (omega arith) (λ k h m. c.loop-j.invariant.3 k (omega arith) m))
