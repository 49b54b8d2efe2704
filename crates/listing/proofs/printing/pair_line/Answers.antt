use borrow.Author.Rules.{rules}
use native.Mathlib.Omega.{arith}
use Prim.Native.Nat.{◌-◌}
use Rattle.pages.proofs.bytes.Spelling.{after, few_digits}
use Rattle.listing.proofs.printing.pair_line.Goals as goal

pub field-c-requires : goal.field-c-requires
field-c-requires c =
    omega (
      arith,
      c.requires,
      c.byte-a.ensures.ends,
      c.word-b.ensures.1,
      few_digits 19 c.args.y (omega arith),
    )

pub byte-requires : goal.byte-requires
byte-requires c =
    let asked =
    c.requires in
    let byte-there =
    c.byte-a in
    let args-2 =
    c.args in
    omega (
      arith,
      asked,
      byte-there.ensures.ends,
      c.word-b.ensures.1,
      c.field-c.ensures.ends,
      few_digits 19 args-2.y
          (omega arith),
    )

pub returns : goal.returns
returns c =
    let byte-there =
    c.byte-a in
    let word-there =
    c.word-b in
    let args-2 =
    c.args in (
      after byte-there.ensures
          (after word-there.ensures.0
          (after c.field-c.ensures c.byte.ensures)),
      omega (
        arith,
        byte-there.ensures.ends,
        word-there.ensures.1,
        c.field-c.ensures.ends,
        c.byte.ensures.ends,
        few_digits 19 args-2.y (omega arith),
      ),
    )
