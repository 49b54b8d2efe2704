use native.Mathlib.Omega.{arith}
use mathlib.Core.Path.{◌≡◌, ap, ◌∙◌}
use Prim.Native.Nat.{suc, ◌+◌}
use lib.ListN.{get_or, set, length-set}
use lib.Seq.{paste, paste-suc}
use Rattle.vectors.proofs.terms.copy.Goals as goal

pub loop-j-preserved : goal.loop-j-preserved
loop-j-preserved c =
    let l = c.loop-j in
    let d = c.args.d.now in
    let s = c.args.s.now in
    let at = c.args.at in
    let e : suc l.j ≡ l.j + 1 = omega arith in (
      omega arith,
      omega (arith, length-set l.d (at + l.j) (get_or s l.j 0)),
      ap (λ u. set u (at + l.j) (get_or s l.j 0)) l.invariant.2 ∙ paste-suc d at s l.j 0 (omega arith) (omega arith) ∙ ap (paste d at s) e,
    )
