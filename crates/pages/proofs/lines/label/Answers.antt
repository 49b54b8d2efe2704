use native.Mathlib.Omega.{arith}
use mathlib.Core.List.{[], ◌∷◌, ◌++◌}
use Prim.Native.Nat.{◌-◌}
use Rattle.definitions.specs.Sheet.{decimal}
use Rattle.pages.proofs.bytes.Spelling.{after, spelled, few_digits, ends_spaces}
use Rattle.pages.proofs.lines.Lining.{aligned_is}
use lib.ListN.{length-append}
use Rattle.pages.proofs.lines.label.Goals as goal

pub overflow_sub-w : goal.overflow_sub-w
overflow_sub-w c = omega (arith, c.width-w.ensures, few_digits 4 c.args.y (omega arith))

pub spaces-a-requires : goal.spaces-a-requires
spaces-a-requires c = omega (arith, c.requires.0)

pub number-b-requires : goal.number-b-requires
number-b-requires c =
    let w = c.width-w in
    omega (
      arith,
      c.requires.0,
      w.ensures,
      few_digits 4
          c.args.y (omega arith),
      ends_spaces (5 - w.result) 32
          c.spaces-a.ensures,
    )

pub byte-requires : goal.byte-requires
byte-requires c =
    let w = c.width-w in
    let P = c.requires in
    let y = c.args.y in
    let p = c.spaces-a.ensures in
    omega (arith, P.0, w.ensures, few_digits 4 y (omega (arith, P.1)), ends_spaces (5 - w.result) 32 p, c.number-b.ensures.ends)

pub returns : goal.returns
returns c =
    let w = c.width-w in
    let P = c.requires in
    let y = c.args.y in
    let p = c.spaces-a.ensures in
    let q = c.number-b.ensures in
    let b = c.byte.ensures in
    let n = w.ensures in
    let m = few_digits 4 y (omega (arith, P.1)) in
    let l = length-append (decimal y) (58 ∷ []) in (
      spelled (aligned_is (5 - w.result) (decimal y ++ 58 ∷ []) (omega (arith, n, m, l))) (after p (after q b)),
      omega (arith, n, m, ends_spaces (5 - w.result) 32 p, q.ends, b.ends),
    )
