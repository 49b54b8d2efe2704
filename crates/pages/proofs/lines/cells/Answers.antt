use native.Mathlib.Omega.{arith}
use mathlib.Core.Path.{refl, ap, ◌∙◌}
use mathlib.Core.List.{[], ◌∷◌, ◌++◌}
use lib.Seq.{take_all}
use Rattle.pages.proofs.bytes.Spelling.{nothing, after, spelled}
use Rattle.pages.proofs.lines.Lining.{celled, cells_celled, celled_more}
use Rattle.pages.proofs.lines.cells.Goals as goal

pub loop-count-init : goal.loop-count-init
loop-count-init c = (omega arith, refl, nothing _ _, omega arith)

pub cell-a-requires : goal.cell-a-requires
cell-a-requires c = omega (arith, c.loop-count.invariant.3)

pub loop-count-preserved : goal.loop-count-preserved
loop-count-preserved c =
    let l = c.loop-count in
    let a = c.args in
    let b = c.cell-a.ensures in
    (omega arith, omega arith, spelled (celled_more a.counts l.count-index (omega arith)) (after l.invariant.2 b.0), omega (arith, l.invariant.3, b.1))

pub byte-requires : goal.byte-requires
byte-requires c = omega (arith, c.loop-count.invariant.3)

pub returns : goal.returns
returns c =
    let l = c.loop-count in
    let a = c.args in
    let b = c.byte.ensures in (
      spelled (ap (λ z. celled z ++ 10 ∷ []) (take_all l.count-index a.counts (omega arith)) ∙ cells_celled a.counts) (after l.invariant.2 b),
      omega (arith, l.invariant.3, b.ends),
    )
