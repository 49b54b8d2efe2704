use native.Mathlib.Omega.{arith}
use Prim.Native.Nat.{◌≤◌}
use Rattle.state.proofs.soundness.TablesGrow.{cut_parts, advanced, copied_tabled}
use Rattle.definitions.specs.Places.{most_vectors}
use Rattle.state.proofs.soundness.advance.Goals as goal

pub fill_images-requires : goal.fill_images-requires
fill_images-requires c =
    let a = c.args in
    let s = a.state.now in
    let n = c.count_under-n.result in (
      omega arith,
      omega arith,
      cut_parts s a.k c.count_of-r.result
          c.count_of-r.ensures c.requires.6,
      omega arith,
      copied_tabled s a.k n a.below.now a.above.now c.copy.new.d
          c.count_under-n.ensures (omega arith) (omega arith)
          c.copy.ensures c.requires.7,
    )

pub returns : goal.returns
returns c =
    let a = c.args in
    let n : c.count_under-n.result ≤ most_vectors =
    omega (arith, c.count_under-n.ensures, c.requires.4) in
    advanced a.state.now a.k c.count_under-n.result
    c.count_of-r.result a.below.now a.above.now
    c.copy.new.d c.fill_images.new.d
    c.count_under-n.ensures
    c.count_of-r.ensures (omega (arith, c.requires.2))
    (omega (arith, c.requires.3)) c.copy.ensures c.fill_images.ensures.0
    c.fill_images.ensures.1
