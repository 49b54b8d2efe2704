use native.Mathlib.Omega.{arith}
use mathlib.Core.Path.{sym, ◌∙◌}
use Prim.Native.Nat.{◌+◌, ◌*◌}
use lib.ListN.{drop}
use Rattle.reader.proofs.fields.Positions.{on_more}
use Rattle.reader.proofs.fields.Digits.{number_over}
use Rattle.reader.proofs.fields.number_on.Goals as goal

pub returns-then-value-gt65535 : goal.returns-then-value-gt65535
returns-then-value-gt65535 c =
    let a = c.args in let l = c.loop-at in
    sym (l.invariant.1 ∙ on_more a.file.now l.at (omega arith) c.in-Some.d c.in-Some.ensures l.value ∙ number_over 65535 (l.value * 10 + c.in-Some.d)
    (drop (l.at + 1) a.file.now) (omega arith))
