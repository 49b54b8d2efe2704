use Rattle.sweeping.proofs.Made.{says_lower, says_reducer}
use Rattle.runs.proofs.run.Stepping.{reducer_number}
use Rattle.runs.specs.reduction.Grounds.{reduction_of}
use Rattle.reducers.specs.search.Search.{answer_of}
use Rattle.monomial.specs.Values.{monomial_of}
use Rattle.laws.proofs.Rows.{length_rows}
use Rattle.definitions.specs.Layout.{rows}
use Rattle.definitions.specs.Packed.{unpack}
use Rattle.definitions.specs.Reducer.{answer}
use native.Mathlib.Omega.{arith}
use mathlib.Core.Path.{refl, sym, ap, ◌∙◌}
use Rattle.sweeping.proofs.nodes.record_of.Goals as goal

pub returns-in_default : goal.returns-in_default
returns-in_default c =
    λ d h. let a = c.args in let y = c.reducer_of in
    says_lower (reduction_of a.g a.tables.now) d (monomial_of a.m) (0, (unpack 0, 0)) (sym (ap answer_of c.in_default.is) ∙ y.ensures) h refl

pub overflow_cast-result : goal.overflow_cast-result
overflow_cast-result c =
    let a = c.args in let r = c.in-Some.reducer in
    let b = reducer_number a.g.p (rows a.tables.now 0 a.g.r) (1, monomial_of a.m) r.number r.coefficient (unpack r.quotient)
    (sym (ap answer_of c.in-Some.is) ∙ c.reducer_of.ensures) in
    omega (arith, b.1, length_rows a.tables.now 0 a.g.r, c.requires.few)

pub returns : goal.returns
returns c =
    λ d h. let a = c.args in let r = c.in-Some.reducer in
    says_reducer a.g.p d (answer a.g.p (rows a.tables.now 0 a.g.r) (1, monomial_of a.m)) r.number r.coefficient (unpack r.quotient)
    (c.negative.result, (unpack r.quotient, r.number)) (sym (ap answer_of c.in-Some.is) ∙ c.reducer_of.ensures)
    (λ i. (c.negative.ensures i, (unpack r.quotient, r.number)))
