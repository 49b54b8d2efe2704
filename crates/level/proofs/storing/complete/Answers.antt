use native.Mathlib.Omega.{arith}
use mathlib.Core.Path.{◌≡◌}
use lib.ListN.{length, set, length-set}
use Rattle.definitions.specs.Places.{count_offset}
use Rattle.level.proofs.storing.complete.Goals as goal

pub bounds-state-4 : goal.bounds-state-4
bounds-state-4 c =
    let a = c.args in
    let s = a.state.now in
    let n : length (set s (count_offset a.k) a.count) ≡ length s = length-set s (count_offset a.k) a.count in
    omega (arith, n, c.requires.0)
