use borrow.Author.Rules.{rules}
use native.Mathlib.Omega.{arith}
use mathlib.Core.Path.{ap, ◌∙◌}
use lib.ListN.{length, take}
use Rattle.completing.proofs.whole.Tries.{too_long_printed, copied, prints_alike}
use Rattle.completing.proofs.whole.print.Goals as goal

pub x_line-requires : goal.x_line-requires
x_line-requires c = omega (arith, c.requires.2)

pub returns-then-size-gt-FILE_LENGTH : goal.returns-then-size-gt-FILE_LENGTH
returns-then-size-gt-FILE_LENGTH c =
    let a = c.args in
    let q = c.x_line.ensures in
    (too_long_printed a.file.now a.out.now _ _ (omega arith) q.0, omega (arith, q.1))

pub copy-requires : goal.copy-requires
copy-requires c = omega (arith, c.requires.2)

pub complete-requires : goal.complete-requires
complete-requires c =
    let P = c.requires in
    (P.0, omega arith, P.1, omega (arith, P.2, c.copy.auto.out))

pub returns : goal.returns
returns c =
    let a = c.args in
    let P = c.requires in
    let k = c.copy in
    let x = c.complete in
    let file = a.file.now in (
      prints_alike (take (length file) k.new.out) file a.out.now k.new.out _ _
          (ap (take (length file)) k.ensures ∙ copied a.out.now file (omega (arith, P.2))) x.ensures.0,
      x.ensures.1,
    )
