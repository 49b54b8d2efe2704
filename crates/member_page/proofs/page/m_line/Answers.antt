use native.Mathlib.Omega.{arith}
use Rattle.pages.proofs.bytes.Spelling.{after, few_digits}
use Rattle.member_page.proofs.page.m_line.Goals as goal

pub field-b-requires : goal.field-b-requires
field-b-requires c =
    let asked = c.requires in
    let a = c.args in
    omega (arith, asked.1, c.byte-a.ensures.ends, few_digits 0 a.x (omega (arith, asked.0)))

pub byte-requires : goal.byte-requires
byte-requires c =
    let asked =
    c.requires in
    let a =
    c.args in
    omega (
      arith,
      asked.1,
      c.byte-a.ensures.ends,
      c.field-b.ensures.ends,
      few_digits 0 a.x (omega (arith, asked.0)),
    )

pub returns : goal.returns
returns c =
    let byte-there =
    c.byte-a in
    let field-there = c.field-b in
    let asked =
    c.requires in
    let a = c.args in (
      after byte-there.ensures (after field-there.ensures c.byte.ensures),
      omega (
        arith,
        byte-there.ensures.ends,
        field-there.ensures.ends,
        c.byte.ensures.ends,
        few_digits 0 a.x (omega (arith, asked.0)),
      ),
    )
