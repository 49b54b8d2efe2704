use mathlib.Core.Path.{refl, sym, subst}
use mathlib.Core.List.{◌++◌}
use Prim.Native.Nat.{◌-◌}
use lib.ListN.{take, drop}
use Rattle.definitions.specs.Places.{rows_start, degrees_start, count_offset, rows_offset}
use Rattle.state.specs.writing.LevelSoFar.{block_cleared}
use Rattle.state.specs.writing.Zeroed.{LevelsSettled}
use Rattle.state.proofs.writing.Parts.{block_by}
use Rattle.state.proofs.writing.Settled.{levels_settled}
use Rattle.state.proofs.writing.settle_levels.Goals as goal

pub returns : goal.returns
returns c =
    let a = c.args in
    let p = c.requires in
    let z = c.tidy.new.state in
    let h = a.h in
    let w = c.clear.new.s in
    let v = c.clear-2.new.s in
    let n₁ = rows_start - (count_offset h) in
    let n₂ = degrees_start - (rows_offset h) in
    let b = block_by z z w (count_offset h) n₁ n₁ 0 0 refl refl refl c.clear.ensures in
    let d = block_by (take (count_offset h) z ++ (w ++ drop n₁ (drop (count_offset h) z))) (block_cleared (count_offset h) n₁ 0 z) v (rows_offset h) n₂ n₂ 0 0
    b refl refl c.clear-2.ensures in
    subst (λ y. LevelsSettled a.state.now y h) (sym d) (levels_settled a.state.now z h p.0 p.1 p.2 c.tidy.ensures)
