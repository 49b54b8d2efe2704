use native.Mathlib.Omega.{arith}
use mathlib.Core.Path.{refl}
use lib.Seq.{take_all}
use Rattle.pages.proofs.bytes.Spelling.{nothing, after, spelled}
use Rattle.pages.proofs.lines.Lining.{taken_more}
use Rattle.pages.proofs.lines.text.Goals as goal

pub loop-x-init : goal.loop-x-init
loop-x-init c = (omega arith, refl, nothing _ _, omega arith)

pub byte-a-requires : goal.byte-a-requires
byte-a-requires c = omega (arith, c.loop-x.invariant.3)

pub loop-x-preserved : goal.loop-x-preserved
loop-x-preserved c =
    let l = c.loop-x in
    let a = c.args in
    let b = c.byte-a.ensures in
    (omega arith, omega arith, spelled (taken_more a.t.now l.x-index (omega arith)) (after l.invariant.2 b), omega (arith, l.invariant.3, b.ends))

pub returns : goal.returns
returns c =
    let l = c.loop-x in
    let a = c.args in
    (spelled (take_all l.x-index a.t.now (omega arith)) l.invariant.2, omega (arith, l.invariant.3))
