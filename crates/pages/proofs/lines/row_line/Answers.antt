use native.Mathlib.Omega.{arith}
use Rattle.pages.proofs.bytes.Spelling.{after}
use Rattle.pages.proofs.lines.row_line.Goals as goal

pub row_label-a-requires : goal.row_label-a-requires
row_label-a-requires c = (omega (arith, c.requires.0), c.requires.1)

pub cells-requires : goal.cells-requires
cells-requires c = omega (arith, c.requires.0, c.row_label-a.ensures.1)

pub returns : goal.returns
returns c =
    let p = c.row_label-a.ensures in
    let q = c.cells.ensures in
    (after p.0 q.0, omega (arith, p.1, q.1))
