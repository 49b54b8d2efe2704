use borrow.Author.Rules.{rules}
use native.Mathlib.Omega.{arith}
use Rattle.pages.proofs.bytes.Spelling.{after}
use Rattle.completing.proofs.adding.write.Goals as goal

pub value_lines-a-requires : goal.value_lines-a-requires
value_lines-a-requires c = let P = c.requires in (P.0, P.1, P.2, omega (arith, P.3))

pub end_line-requires : goal.end_line-requires
end_line-requires c =
    let P = c.requires in omega (
      arith,
      P.3,
      c.value_lines-a.ensures.1,
    )

pub returns : goal.returns
returns c =
    let v = c.value_lines-a.ensures in
    let e = c.end_line.ensures in
    (after v.0 e.0, omega (arith, v.1, e.1))
