use native.Mathlib.Omega.{arith}
use mathlib.Core.Path.{◌≡◌, refl, ap, ◌∙◌}
use mathlib.Core.List.{◌++◌}
use Prim.Native.Nat.{◌+◌, ◌-◌, ◌*◌}
use lib.ListN.{take, drop}
use Rattle.reducers.specs.tables.Cuts.{start_of}
use Rattle.state.specs.soundness.Places.{ends_from}
use Rattle.state.specs.soundness.Places.{count_at}
use Rattle.state.specs.writing.LevelSoFar.{block_cleared}
use Rattle.state.proofs.writing.Parts.{block_by}
use Rattle.definitions.specs.Places.{row_length, counts_length, level_length, count_offset, rows_offset}
use Rattle.state.proofs.writing.tidy_level.Goals as goal

pub overflow_mul-used : goal.overflow_mul-used
overflow_mul-used c =
    omega (
      arith,
      c.end_of-used.ensures,
      c.requires.3,
      ap (start_of (ends_from c.args.state.now c.args.k))
          c.count_of-r.ensures,
    )

pub returns : goal.returns
returns c =
    let a = c.args in
    let s = a.state.now in
    let k = a.k in
    let n : count_offset k + counts_length - (count_offset k) ≡ counts_length = omega arith in
    let m : rows_offset k + level_length - (rows_offset k) ≡ level_length = omega arith in
    let b = block_by s s c.clear.new.s (count_offset k) counts_length
    (count_offset k + counts_length - (count_offset k)) (1 + count_at s k) (1 + c.count_of-r.result) refl n
    (ap (λ r. 1 + r) c.count_of-r.ensures) c.clear.ensures in
    block_by (take (count_offset k) s ++ (c.clear.new.s
    ++ drop (count_offset k + counts_length - (count_offset k)) (drop (count_offset k) s)))
    (block_cleared (count_offset k) counts_length (1 + count_at s k) s) c.clear-2.new.s (rows_offset k) level_length
    (rows_offset k + level_length - (rows_offset k)) (start_of (ends_from s k) (count_at s k) * row_length)
    (c.end_of-used.result * row_length) b m
    (ap (λ r. r * row_length) (c.end_of-used.ensures
    ∙ ap (start_of (ends_from s k)) c.count_of-r.ensures)) c.clear-2.ensures
