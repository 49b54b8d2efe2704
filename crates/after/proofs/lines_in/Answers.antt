use native.Mathlib.Omega.{arith}
use mathlib.Core.Path.{sym, ap, ◌∙◌}
use Prim.Native.Nat.{suc}
use lib.ListN.{length, drop}
use Rattle.definitions.specs.Problem.{lines}
use Rattle.after.proofs.Cutting.{line_passes, lines_more, lines_end}
use Rattle.after.proofs.lines_in.Goals as goal

pub loop-at-init : goal.loop-at-init
loop-at-init c = (omega arith, omega arith, omega arith)

pub behind_line-at-requires : goal.behind_line-at-requires
behind_line-at-requires c = c.loop-at.invariant.1

pub overflow_add-count : goal.overflow_add-count
overflow_add-count c =
    let a = c.args in
    let l = c.loop-at in
    omega (arith, l.invariant.0, c.behind_line-at.ensures.0, c.behind_line-at.ensures.1, line_passes a.file.now l.at (omega arith))

pub loop-at-smaller : goal.loop-at-smaller
loop-at-smaller c =
    let a = c.args in
    let l = c.loop-at in
    omega (arith, c.behind_line-at.ensures.0, line_passes a.file.now l.at (omega arith))

pub loop-at-preserved : goal.loop-at-preserved
loop-at-preserved c =
    let a = c.args in
    let l = c.loop-at in
    let d = c.behind_line-at.ensures.0 in
    let e = lines_more a.file.now l.at (omega arith) ∙ ap (λ n. suc (length (lines (drop n a.file.now)))) (sym d) in (
      omega (arith, l.invariant.0, d, line_passes a.file.now l.at (omega arith)),
      c.behind_line-at.ensures.1,
      omega (arith, l.invariant.2, e),
    )

pub returns : goal.returns
returns c =
    let a = c.args in
    let l = c.loop-at in
    (omega (arith, l.invariant.2, lines_end a.file.now l.at (omega arith)), omega arith)
