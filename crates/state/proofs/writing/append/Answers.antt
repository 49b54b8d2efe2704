use native.Mathlib.Omega.{arith}
use mathlib.Core.Path.{◌≡◌, ap, ◌∙◌}
use mathlib.Core.List.{◌++◌}
use Prim.Native.Nat.{◌+◌, ◌-◌, ◌*◌}
use lib.ListN.{take, drop, set}
use lib.Seq.{paste}
use Rattle.definitions.specs.Layout.{rows, rows_of}
use Rattle.definitions.specs.Places.{row_length, level_length, count_offset, rows_offset}
use Rattle.state.proofs.writing.Copying.{length_spelled}
use Rattle.state.proofs.writing.Parts.{paste_part}
use Rattle.state.proofs.writing.append.Goals as goal

pub returns : goal.returns
returns c =
    let a = c.args in
    let s = a.state.now in
    let k = a.k in
    let n : rows_offset k + level_length - (rows_offset k) ≡ level_length = omega arith in
    let w = rows_of (rows a.value.now 0 a.v) in
    let p : take (rows_offset k) s ++ (c.copy_rows.new.d
    ++ drop (rows_offset k + level_length - (rows_offset k)) (drop (rows_offset k) s))
    ≡ paste s (rows_offset k + a.used * row_length) w (a.v * row_length) =
    (λ i. take (rows_offset k) s ++ ((c.copy_rows.ensures
    ∙ (λ j. paste (take (n j) (drop (rows_offset k) s)) (a.used * row_length) w (a.v * row_length))) i ++ drop (n i) (drop (rows_offset k) s)))
    ∙ paste_part s w (rows_offset k) level_length (a.used * row_length) (a.v * row_length)
    (omega (arith, c.requires.0, c.requires.1))
    (omega (arith, c.requires.3)) (omega (arith, length_spelled a.value.now 0 a.v)) in
    ap (λ l. set l (count_offset k + 1 + a.count) (a.used + a.v)) p
