use native.Mathlib.Omega.{arith}
use mathlib.Core.Path.{refl, ap, ◌∙◌}
use Prim.Native.Nat.{◌+◌, ◌*◌}
use lib.ListN.{get_or, set, length-set}
use Rattle.vectors.proofs.terms.Moving.{closed_ahead, closed_more}
use Rattle.vectors.specs.terms.Rows.{closed}
use Rattle.definitions.specs.Places.{row_length}
use Rattle.vectors.proofs.terms.remove.Goals as goal

pub loop-k-preserved : goal.loop-k-preserved
loop-k-preserved c =
    let l = c.loop-k in
    let s = c.args.s.now in
    let a = c.args.i * row_length in (
      refl,
      omega arith,
      omega arith,
      omega (arith, length-set l.s l.k (get_or l.s (l.k + row_length) 0)),
      ap (λ u. set u l.k (get_or u (l.k + row_length) 0)) l.invariant.4
          ∙ ap (set (closed s a l.k) l.k) (closed_ahead s a l.k (omega arith) (omega arith))
          ∙ closed_more s a l.k (omega arith) (omega arith),
    )
