use native.Mathlib.Omega.{arith}
use mathlib.Core.Path.{◌≡◌, sym, ap, ◌∙◌, subst}
use lib.ListN.{get_or}
use Rattle.std.specs.Prelude.{Ok}
use Rattle.vectors.specs.terms.Rows.{term_of}
use Rattle.vectors.proofs.sums.Rowwise.{at_row}
use Rattle.laws.proofs.Rows.{length_rows}
use Rattle.definitions.specs.Packed.{unpack}
use Rattle.definitions.specs.Reducer.{answer, reducer, lower_order}
use Rattle.definitions.specs.Monomial.{no_term}
use Rattle.definitions.specs.Run.{by_answer}
use Rattle.definitions.specs.Layout.{rows}
use Rattle.runs.specs.reduction.Grounds.{reduction_of, family_of, ends_in}
use Rattle.runs.specs.run.Stages.{order_of, stage_of, strategy_of, run_of, reduced_by, step_of, Room}
use Rattle.runs.proofs.run.Stepping.{reducer_number, left_out, without_room}
use Rattle.runs.proofs.run.step_at.Goals as goal

pub row-t-requires : goal.row-t-requires
row-t-requires c =
    let asked = c.requires in
    omega (arith, asked.2.value_fits, asked.3, asked.4)

pub without_reducer-requires : goal.without_reducer-requires
without_reducer-requires c =
    let asked = c.requires in
    (asked.3, omega (arith, asked.2.value_fits, asked.4))

pub returns-in_default : goal.returns-in_default
returns-in_default c =
    let a = c.args in
    let asked = c.requires in
    let g = a.g in
    let n = a.n in
    let W = strategy_of g a.tables.now a.w in
    let r = run_of a.value.now n a.vector.now a.v in
    let i = a.i in
    let w = c.without_reducer in
    let told : lower_order ≡ answer g.p (rows a.tables.now 0 g.r) (get_or (rows a.value.now 0 n) i no_term) =
    c.in_default.ensures ∙ ap (answer g.p (rows a.tables.now 0 g.r)) (c.row-t.ensures ∙ sym (at_row a.value.now n i asked.3)) in (
      λ above. (λ k. step_of (order_of g a.tables.now) g.p (Ok (w.ensures.0 k)) (w.ensures.1 k) a.vector.now)
          ∙ left_out (stage_of g a.level.now a.tables.now above) a.value.now n a.vector.now a.v i asked.3
          (omega (arith, asked.2.value_fits, asked.4)) a.w.stops
          ∙ ap (by_answer (stage_of g a.level.now a.tables.now above) W r i) told,
      subst (λ x. Room g (Ok x)) (sym w.ensures.0) (without_room g n a.v a.w.stops asked.4 asked.5),
    )

pub reduced-requires : goal.reduced-requires
reduced-requires c =
    let a = c.args in
    let asked = c.requires in
    let hs = rows a.tables.now 0 a.g.r in
    let x = c.in-Some.x in
    let b = reducer_number a.g.p hs (term_of c.row-t.result) x.number x.coefficient (unpack x.quotient) c.in-Some.ensures in (
      asked.0,
      asked.1,
      asked.2,
      asked.4,
      asked.5,
      b.0,
      omega (arith, b.1, length_rows a.tables.now 0 a.g.r),
    )

pub returns : goal.returns
returns c =
    let a = c.args in
    let g = a.g in
    let n = a.n in
    let W = strategy_of g a.tables.now a.w in
    let r = run_of a.value.now n a.vector.now a.v in
    let i = a.i in
    let d = c.reduced in
    let x = c.in-Some.x in
    let q = unpack x.quotient in
    let f = family_of g a.level.now (ends_in a.tables.now) in
    let R = reduction_of g a.tables.now in
    let told : reducer x.number x.coefficient q ≡ answer g.p (rows a.tables.now 0 g.r) (get_or (rows a.value.now 0 n) i no_term) =
    c.in-Some.ensures ∙ ap (answer g.p (rows a.tables.now 0 g.r)) (c.row-t.ensures ∙ sym (at_row a.value.now n i c.requires.3)) in (
      λ above. d.ensures.0 (order_of g a.tables.now)
          ∙ ap (λ y. reduced_by R f a.w.drops r x.number y q) c.negative-c.ensures
          ∙ ap (by_answer (stage_of g a.level.now a.tables.now above) W r i) told,
      d.ensures.1,
    )
