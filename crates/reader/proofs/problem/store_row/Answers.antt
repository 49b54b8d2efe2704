use native.Mathlib.Omega.{arith}
use mathlib.Core.Path.{ap, ◌∙◌}
use mathlib.Core.List.{◌++◌}
use Prim.Native.Nat.{◌-◌, ◌*◌}
use lib.ListN.{length, take, drop}
use Rattle.definitions.specs.Layout.{row_of}
use Rattle.definitions.specs.Places.{row_length, rows_start}
use Rattle.vectors.specs.terms.Rows.{written}
use Rattle.reader.specs.lines.Tests.{term_in}
use Rattle.reader.proofs.problem.LevelWords.{paste_part}
use Rattle.reader.proofs.problem.store_row.Goals as goal

pub returns : goal.returns
returns c =
    let a = c.args in
    let s = a.state.now in
    let t = term_in a.w in
    let part = take (length s - rows_start) (drop rows_start s) in
    (λ i. take rows_start s ++ ((c.put.ensures.0 ∙ ap (written part a.count) c.term_said-t.ensures) i
    ++ drop (length s - rows_start) (drop rows_start s)))
    ∙ paste_part s (row_of t) rows_start (length s - rows_start) (a.count * row_length) row_length (omega arith) (omega arith)
