use native.Mathlib.Omega.{arith}
use mathlib.Core.Path.{◌≡◌, refl, ap, ◌∙◌}
use Prim.Native.Nat.{◌+◌, ◌-◌, ◌*◌}
use lib.ListN.{get_or, set, length-set}
use Rattle.vectors.proofs.terms.Moving.{opened_below, opened_more}
use Rattle.vectors.specs.terms.Rows.{opened}
use Rattle.definitions.specs.Places.{row_length}
use Rattle.vectors.proofs.terms.open.Goals as goal

pub loop-k-preserved : goal.loop-k-preserved
loop-k-preserved c =
    let l = c.loop-k in
    let s = c.args.s.now in
    let b = c.args.n * row_length in
    let m = l.k - 1 in
    let e : l.k ≡ m + 1 = omega arith in (
      refl,
      omega arith,
      omega arith,
      omega (arith, length-set l.s (m + row_length) (get_or l.s m 0)),
      ap (λ u. set u (m + row_length) (get_or u m 0)) (l.invariant.4 ∙ ap (λ k. opened s k b) e)
          ∙ ap (set (opened s (m + 1) b) (m + row_length)) (opened_below s (m + 1) b m (omega arith) (omega arith) (omega arith))
          ∙ opened_more s m b (omega arith) (omega arith),
    )
