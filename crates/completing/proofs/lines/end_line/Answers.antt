use borrow.Author.Rules.{rules}
use native.Mathlib.Omega.{arith}
use Rattle.pages.proofs.bytes.Spelling.{after}
use Rattle.completing.proofs.lines.end_line.Goals as goal

pub returns : goal.returns
returns c =
    let b = c.byte-a.ensures in
    let w = c.word-b.ensures in
    let z = c.byte.ensures in
    (after b (after w.0 z), omega (arith, b.ends, w.1, z.ends))
