use borrow.Author.Rules.{rules}
use native.Mathlib.Omega.{arith}
use mathlib.Core.Path.{◌≡◌, refl, ap, ◌∙◌}
use Prim.Native.Nat.{suc, ◌+◌, ◌-◌, ◌≤◌}
use lib.ListN.{length, set, get_or, length-set}
use lib.Seq.{paste, paste-zero, paste-suc}
use Rattle.completing.proofs.whole.copy.Goals as goal

pub loop-i-init : goal.loop-i-init
loop-i-init c = let a = c.args in (omega arith, refl, paste-zero a.out.now 0 a.file.now)

pub bounds-out-i : goal.bounds-out-i
bounds-out-i c = omega (arith, c.requires, c.loop-i.invariant.1)

pub loop-i-preserved : goal.loop-i-preserved
loop-i-preserved c =
    let L = c.loop-i in
    let d = c.args.out.now in
    let s = c.args.file.now in
    let e : suc L.i ≡ L.i + 1 = omega arith in
    let z : L.i ≡ 0 + L.i = omega arith in (
      omega arith,
      omega (arith, length-set L.out L.i (get_or s L.i 0)),
      ap (λ k. set L.out k (get_or s L.i 0)) z ∙ ap (λ u. set u (0 + L.i) (get_or s L.i 0)) L.invariant.2
          ∙ paste-suc d 0 s L.i 0 (omega (arith, c.requires)) (omega arith) ∙ ap (paste d 0 s) e,
    )

pub shape_of-out : goal.shape_of-out
shape_of-out c = omega (arith, c.loop-i.invariant.1)

pub returns : goal.returns
returns c =
    let L = c.loop-i in let a = c.args in
    let e : L.i ≡ length a.file.now = omega arith in L.invariant.2 ∙ ap (paste a.out.now 0 a.file.now) e
