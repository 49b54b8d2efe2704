use native.Mathlib.Omega.{arith}
use mathlib.Core.Path.{◌≡◌, sym, ap, ◌∙◌}
use Prim.Native.Nat.{◌*◌}
use lib.ListN.{length}
use Rattle.state.proofs.writing.Fetching.{padded_out}
use Rattle.state.proofs.writing.Copying.{length_spelled}
use Rattle.vectors.specs.terms.Rows.{cleared}
use Rattle.definitions.specs.Layout.{rows, rows_of}
use Rattle.definitions.specs.Places.{row_length}
use lib.Seq.{take_all}
use Rattle.level.proofs.by_runs.show.Goals as goal

pub returns : goal.returns
returns c =
    let a = c.args in
    let w = rows_of (rows a.vector.now 0 a.n) in
    let n : length w ≡ a.n * row_length = length_spelled a.vector.now 0 a.n in
    c.clear.ensures ∙ ap (λ z. cleared z (a.n * row_length)) c.copy_rows.ensures
    ∙ padded_out a.work.now w w (a.n * row_length) (omega arith) (omega (arith, n)) (sym (take_all (a.n * row_length) w (omega (arith, n))))
