use native.Mathlib.Omega.{arith}
use mathlib.Core.Path.{ap, ◌∙◌}
use lib.ListN.{set, length-set}
use Rattle.vectors.proofs.terms.Moving.{cleared_more, cleared_end}
use mathlib.Core.Logic.{inr}
use Rattle.vectors.proofs.terms.clear.Goals as goal

pub loop-k-preserved : goal.loop-k-preserved
loop-k-preserved c =
    let l = c.loop-k in
    let s = c.args.s.now in
    let a = c.args.a in (
      omega arith,
      omega (arith, length-set l.s l.k 0),
      inr (omega arith),
      ap (λ u. set u l.k 0) l.invariant.3
          ∙ cleared_more s a l.k (omega arith) (omega arith),
    )

pub returns : goal.returns
returns c =
    let l = c.loop-k in
    l.invariant.3 ∙ cleared_end c.args.s.now c.args.a l.k (omega arith) (omega arith) l.invariant.2
