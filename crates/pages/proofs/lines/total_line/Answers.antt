use native.Mathlib.Omega.{arith}
use Rattle.pages.proofs.bytes.Spelling.{after}
use Rattle.pages.proofs.lines.total_line.Goals as goal

pub text-a-requires : goal.text-a-requires
text-a-requires c = omega (arith, c.requires)

pub cells-requires : goal.cells-requires
cells-requires c = omega (arith, c.requires, c.text-a.ensures.1)

pub returns : goal.returns
returns c =
    let p = c.text-a.ensures in
    let q = c.cells.ensures in
    (after p.0 q.0, omega (arith, p.1, q.1))
