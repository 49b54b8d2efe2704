use native.Mathlib.Omega.{arith}
use mathlib.Core.Path.{◌≡◌, refl}
use Prim.Native.Nat.{◌+◌, ◌-◌}
use Rattle.definitions.specs.Places.{most_vectors, carried_offset}
use Rattle.state.specs.soundness.Places.{count_at}
use Rattle.state.proofs.writing.Parts.{block_by}
use Rattle.state.proofs.writing.tidy_degrees.Goals as goal

pub returns : goal.returns
returns c =
    let a = c.args in
    let s = a.state.now in
    let n : carried_offset a.k + most_vectors - (carried_offset a.k) ≡ most_vectors = omega arith in
    block_by s s c.clear.new.s (carried_offset a.k) most_vectors (carried_offset a.k + most_vectors - (carried_offset a.k))
    (count_at s a.k)
    c.count_of-r.result refl n c.count_of-r.ensures c.clear.ensures
