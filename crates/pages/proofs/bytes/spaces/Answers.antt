use native.Mathlib.Omega.{arith}
use mathlib.Core.Path.{◌≡◌, refl, ap}
use lib.ListN.{replicate}
use Rattle.pages.proofs.bytes.Spelling.{nothing, after, spelled, spaces_more, ends_spaces}
use Rattle.pages.proofs.bytes.spaces.Goals as goal

pub loop-i-init : goal.loop-i-init
loop-i-init c = (omega arith, refl, nothing _ _)

pub byte-a-requires : goal.byte-a-requires
byte-a-requires c =
    let l = c.loop-i in
    omega (arith, ends_spaces l._i 32 l.invariant.2)

pub loop-i-preserved : goal.loop-i-preserved
loop-i-preserved c =
    let l = c.loop-i in
    (omega arith, omega arith, spelled (spaces_more l._i 32) (after l.invariant.2 c.byte-a.ensures))

pub returns : goal.returns
returns c =
    let l = c.loop-i in
    let e : l._i ≡ c.args.n = omega arith in
    spelled (ap (λ i. replicate i 32) e) l.invariant.2
