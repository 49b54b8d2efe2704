use mathlib.Core.Path.{sym, ap, ◌∙◌, subst}
use lib.ListN.{length}
use Rattle.std.specs.Prelude.{unwrap_or}
use Rattle.definitions.specs.Monomial.{same_exponents?}
use Rattle.definitions.specs.Packed.{unpack}
use Rattle.monomial.specs.Values.{monomial_of}
use Rattle.monomial.proofs.Bytewise.{unpack_zero}
use Rattle.constants.specs.filling.Entries.{Enters}
use Rattle.constants.proofs.filling.Entering.{one_is, enters_variable}
use Rattle.constants.proofs.filling.constant_column.Goals as goal

pub returns-then-same_exponents : goal.returns-then-same_exponents
returns-then-same_exponents c =
    let a = c.args in
    let g = c.generator_column in
    let e = sym c.same_exponents.ensures ∙ c.if-same_exponents.true in (
      g.ensures.0,
      subst (λ m. Enters a.below.now a.d m (unwrap_or g.result (length a.below.now)))
          (one_is a.m.exponents c.place.result a.m.component e c.place.ensures.0) g.ensures.1,
    )

pub returns : goal.returns
returns c =
    let a = c.args in
    let e = ap (same_exponents? (unpack a.m.exponents)) (sym unpack_zero) ∙ sym c.same_exponents.ensures ∙ c.if-same_exponents.false in
    (tt, enters_variable a.below.now a.d (monomial_of a.m) e)
