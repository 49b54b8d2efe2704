use Rattle.std.proofs.Common.{◌∙◌, arith}
use borrow.Author.Tests.{lt-leb}
use Rattle.laws.proofs.Packing.{bytes_of}
use Rattle.monomial.proofs.Carries.{sum_wrapped, sum_uncarried}
use Rattle.monomial.proofs.uncarried.Goals as goal

pub returns-then-q-s : goal.returns-then-q-s
returns-then-q-s c =
    let a = c.args in
    sum_uncarried a.q a.e a.s (bytes_of a.q (omega arith)) (bytes_of a.e (omega arith)) (bytes_of a.s (omega arith)) (omega arith)
    (omega arith) c.requires c.if-q-s.true

pub returns-else-q-s : goal.returns-else-q-s
returns-else-q-s c =
    let a = c.args in
    lt-leb a.q a.s c.if-q-s.false
    ∙ sum_wrapped a.q a.e a.s (bytes_of a.q (omega arith)) (bytes_of a.e (omega arith)) (bytes_of a.s (omega arith)) c.requires c.if-q-s.false
