use native.Mathlib.Omega.{arith}
use mathlib.Core.Path.{◌≡◌, sym, subst}
use Prim.Native.Nat.{◌+◌}
use Rattle.state.specs.writing.Zeroed.{CarriedTo}
use Rattle.state.proofs.writing.Settled.{carried_none, room, carried_one}
use Rattle.state.proofs.writing.tidy_carried.Goals as goal

pub loop-k-init : goal.loop-k-init
loop-k-init c = (omega arith, carried_none c.args.state.now)

pub tidy_degrees-requires : goal.tidy_degrees-requires
tidy_degrees-requires c =
    let a = c.args in
    let l = c.loop-k in
    let p = c.requires in (
      omega (arith, p.0, l.invariant.1.long),
      omega arith,
      room a.state.now l.state l.k p.0 (omega arith) (λ j m. p.2 j (omega arith)) l.invariant.1,
    )

pub loop-k-preserved : goal.loop-k-preserved
loop-k-preserved c =
    let a = c.args in
    let p = c.requires in
    let l = c.loop-k in (
      omega arith,
      subst (λ z. CarriedTo a.state.now z (l.k + 1)) (sym c.tidy_degrees.ensures)
          (carried_one a.state.now l.state l.k p.0 (omega arith) (λ j m. p.2 j
          (omega (arith, c.loop-k-test.true))) l.invariant.1),
    )

pub shape_of-state : goal.shape_of-state
shape_of-state c = omega (arith, c.loop-k.invariant.1.long)

pub returns : goal.returns
returns c =
    let a = c.args in
    let l = c.loop-k in
    let z : l.k ≡ a.h = omega arith in
    subst (CarriedTo a.state.now l.state) z l.invariant.1
