use native.Mathlib.Omega.{arith}
use mathlib.Core.Path.{ap, ◌∙◌}
use Prim.Native.Nat.{◌-◌}
use Rattle.definitions.specs.Sheet.{decimal}
use Rattle.definitions.specs.Pages.{right_aligned}
use Rattle.pages.proofs.bytes.Spelling.{after, spelled, few_digits, ends_spaces}
use Rattle.pages.proofs.lines.Lining.{cell_zero, cell_some, aligned_is}
use Rattle.pages.proofs.lines.cell.Goals as goal

pub byte-requires : goal.byte-requires
byte-requires c =
    omega (
      arith,
      c.requires,
      ends_spaces 5 32
          c.spaces-a.ensures,
    )

pub returns-then-v-eq0 : goal.returns-then-v-eq0
returns-then-v-eq0 c =
    let p = c.spaces-a.ensures in
    let q = c.byte.ensures in
    let v = c.args.v in
    (spelled (cell_zero v (omega arith)) (after p q), omega (arith, ends_spaces 5 32 p, q.ends))

pub overflow_sub-w : goal.overflow_sub-w
overflow_sub-w c = let x = c.from-x in omega (arith, c.width-w.ensures, few_digits 4 x.result (omega (arith, x.ensures)))

pub spaces-a-requires-2 : goal.spaces-a-requires-2
spaces-a-requires-2 c = omega (arith, c.requires)

pub number-requires : goal.number-requires
number-requires c =
    let w = c.width-w in
    let x = c.from-x in
    omega (
      arith,
      c.requires,
      w.ensures,
      few_digits 4
          x.result (omega (arith, x.ensures)),
      ends_spaces (6 - w.result) 32
          c.spaces-a-2.ensures,
    )

pub returns : goal.returns
returns c =
    let w = c.width-w in
    let p = c.spaces-a-2.ensures in
    let q = c.number.ensures in
    let x = c.from-x in
    let n = w.ensures in
    let m = few_digits 4 x.result (omega (arith, x.ensures)) in (
      spelled (aligned_is (6 - w.result) (decimal x.result) (omega (arith, n, m)) ∙ ap (λ v. right_aligned (decimal v)) x.ensures
          ∙ cell_some c.args.v (c.if-v-eq0.false)) (after p q),
      omega (arith, n, m, ends_spaces (6 - w.result) 32 p, q.ends),
    )
