use native.Mathlib.Omega.{arith}
use mathlib.Core.Path.{◌≡◌, refl, sym, ap, ◌∙◌}
use lib.ListN.{get_or}
use Rattle.laws.proofs.Rows.{length_rows}
use Rattle.definitions.specs.Packed.{unpack}
use Rattle.definitions.specs.Reducer.{answer, reducer, lower_order}
use Rattle.definitions.specs.Monomial.{no_term}
use Rattle.definitions.specs.Layout.{rows}
use Rattle.definitions.specs.Membership.{moved}
use Rattle.vectors.specs.terms.Rows.{term_of}
use Rattle.vectors.proofs.sums.Rowwise.{at_row}
use Rattle.reducers.specs.search.Search.{answer_of}
use Rattle.runs.specs.run.Stages.{order_of, stage_of}
use Rattle.runs.proofs.run.Stepping.{reducer_number, inside}
use Rattle.dividing.specs.steps.Divisions.{division_of, stepped}
use Rattle.dividing.proofs.steps.Stepping.{step_at}
use Rattle.dividing.proofs.steps.one_step.Goals as goal

pub pick-i-requires : goal.pick-i-requires
pick-i-requires c = (
  omega arith,
  omega (
    arith,
    c.requires.3.value_fits,
    c.requires.5,
  ),
  omega (arith, c.requires.0.long),
  c.requires.2.fits,
  c.requires.2.tabled,
)

pub row-t-requires : goal.row-t-requires
row-t-requires c =
    let a = c.args in
    let asked = c.requires in
    omega (
      arith,
      asked.3.value_fits,
      asked.5,
      inside a.value.now a.n (order_of a.g a.tables.now) 1 c.pick-i.result c.pick-i.ensures,
    )

pub moved-requires : goal.moved-requires
moved-requires c =
    let a =
    c.args in
    let asked =
    c.requires in
    let pick-there = c.pick-i in (
      inside a.value.now a.n (order_of a.g a.tables.now) 1 pick-there.result pick-there.ensures,
      asked.5,
      asked.6,
      asked.7,
      asked.3.value_fits,
      asked.3.remainder_fits,
    )

pub returns-in_default : goal.returns-in_default
returns-in_default c =
    let a = c.args in
    let g = a.g in
    let n = a.n in
    let i = c.pick-i.result in
    let l = inside a.value.now n (order_of g a.tables.now) 1 i c.pick-i.ensures in
    let m = c.moved in
    let there : term_of c.row-t.result ≡ get_or (rows a.value.now 0 n) i no_term = c.row-t.ensures ∙ sym (at_row a.value.now n i l) in
    let told : lower_order ≡ answer g.p (rows a.tables.now 0 g.r) (get_or (rows a.value.now 0 n) i no_term) =
    sym (ap answer_of c.in_default.is) ∙ c.reducer_of.ensures ∙ ap (answer g.p (rows a.tables.now 0 g.r)) there in (
      λ above.
          let S = stage_of g a.level.now a.tables.now above in
          let d = division_of a.value.now n a.quotients.now a.v a.remainder.now a.r in
          m.ensures.0 S refl a.quotients.now ∙ ap (moved S d i) there ∙ step_at S d i lower_order told ∙ ap (stepped S d) c.pick-i.ensures,
      m.ensures.1,
    )

pub taken_away-requires : goal.taken_away-requires
taken_away-requires c =
    let a = c.args in
    let P = c.requires in
    let g = a.g in
    let x = c.in-Some.x in
    let b = reducer_number g.p (rows a.tables.now 0 g.r) (term_of c.row-t.result) x.number x.coefficient (unpack x.quotient) c.in-Some.ensures in
    (P.0, P.1, P.3.value_fits, P.3.quotients_fit, P.5, P.6, P.7, b.0, omega (arith, b.1, length_rows a.tables.now 0 g.r))

pub returns : goal.returns
returns c =
    let a = c.args in
    let g = a.g in
    let n = a.n in
    let i = c.pick-i.result in
    let l = inside a.value.now n (order_of g a.tables.now) 1 i c.pick-i.ensures in
    let m = c.taken_away in
    let x = c.in-Some.x in
    let found = reducer x.number x.coefficient (unpack x.quotient) in
    let told : found ≡ answer g.p (rows a.tables.now 0 g.r) (get_or (rows a.value.now 0 n) i no_term) =
    c.in-Some.ensures ∙ ap (answer g.p (rows a.tables.now 0 g.r)) (c.row-t.ensures ∙ sym (at_row a.value.now n i l)) in (
      λ above.
          let S = stage_of g a.level.now a.tables.now above in
          let d = division_of a.value.now n a.quotients.now a.v a.remainder.now a.r in
          m.ensures.0 above a.remainder.now ∙ step_at S d i found told ∙ ap (stepped S d) c.pick-i.ensures,
      m.ensures.1,
    )
