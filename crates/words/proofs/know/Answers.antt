use native.Mathlib.Omega.{arith}
use native.Mathlib.Nat.{not-suc-le-zero}
use Rattle.words.proofs.Known.{known_more, known_all}
use Rattle.words.proofs.know.Goals as goal

pub loop-i-init : goal.loop-i-init
loop-i-init c = (omega arith, λ k h. absurd (not-suc-le-zero h))

pub loop-i-preserved : goal.loop-i-preserved
loop-i-preserved c =
    let l = c.loop-i in
    (omega arith, known_more c.args.s.now l.i c.part.result l.invariant.1 c.part.ensures.0 c.part.ensures.1)

pub returns : goal.returns
returns c = known_all c.args.s.now c.loop-i.i (omega arith) c.loop-i.invariant.1
