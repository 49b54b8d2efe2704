use native.Mathlib.Omega.{arith}
use mathlib.Core.Path.{refl, ap, ◌∙◌}
use lib.ListN.{set, length-set}
use Rattle.vectors.proofs.terms.Moving.{cleared_none, cleared_more, cleared_end}
use mathlib.Core.Logic.{inl, inr}
use Rattle.lending.proofs.clear.Goals as goal

pub loop-i-init : goal.loop-i-init
loop-i-init c = (omega arith, refl, inl refl, cleared_none c.args.out.now c.args.from)

pub loop-i-preserved : goal.loop-i-preserved
loop-i-preserved c =
    let l = c.loop-i in
    let s = c.args.out.now in
    let a = c.args.from in (
      omega arith,
      omega (arith, length-set l.out l.i 0),
      inr (omega arith),
      ap (λ u. set u l.i 0) l.invariant.3
          ∙ cleared_more s a l.i (omega arith) (omega arith),
    )

pub returns : goal.returns
returns c =
    let l = c.loop-i in
    l.invariant.3 ∙ cleared_end c.args.out.now c.args.from l.i (omega arith) (omega arith) l.invariant.2
