use native.Mathlib.Omega.{arith}
use mathlib.Core.Path.{◌≡◌, refl, ap, ◌∙◌}
use Prim.Native.Nat.{◌+◌, ◌*◌}
use lib.Seq.{paste}
use Rattle.definitions.specs.Layout.{rows, rows_of}
use Rattle.definitions.specs.Places.{row_length}
use Rattle.vectors.specs.terms.Rows.{term_of, written}
use Rattle.state.proofs.writing.Copying.{copied_none, copied_more}
use Rattle.state.proofs.writing.copy_rows.Goals as goal

pub loop-j-init : goal.loop-j-init
loop-j-init c = (omega arith, refl, copied_none c.args.d.now c.args.value.now c.args.used)

pub loop-j-preserved : goal.loop-j-preserved
loop-j-preserved c =
    let a = c.args in
    let l = c.loop-j in (
      omega arith,
      omega arith,
      c.put.ensures.0 ∙ ap
          (λ s. written s (a.used + l.j) (term_of c.row-t.result)) l.invariant.2
          ∙ copied_more a.d.now a.value.now a.used l.j (term_of c.row-t.result) (omega arith)
          c.row-t.ensures,
    )

pub returns : goal.returns
returns c =
    let l = c.loop-j in
    let z : l.j ≡ c.args.v = omega arith in
    l.invariant.2 ∙ ap (λ n. paste c.args.d.now (c.args.used * row_length)
    (rows_of (rows c.args.value.now 0 n)) (n * row_length)) z
