use mathlib.Core.Path.{sym, ap, ◌∙◌, subst}
use mathlib.Core.Bool.{false}
use Rattle.definitions.specs.Monomial.{vector_of}
use Rattle.definitions.specs.Run.{add_products}
use Rattle.definitions.specs.Packed.{unpack}
use Rattle.definitions.specs.Layout.{rows}
use Rattle.std.specs.Prelude.{Err}
use Rattle.std.proofs.lemmas.Result.{err_from_is_err_and}
use Rattle.words.specs.refusals.Numbers.{number_of}
use Rattle.runs.specs.reduction.Grounds.{reduction_of, family_of, ends_in}
use Rattle.runs.specs.run.Stages.{stage_of}
use Rattle.dividing.specs.steps.Divisions.{division_of, step_as, Room}
use Rattle.dividing.proofs.steps.Stepping.{record_refused, products_refused, both_added}
use Rattle.dividing.proofs.steps.taken_away.Goals as goal

pub returns-in_err-k : goal.returns-in_err-k
returns-in_err-k c =
    let a = c.args in
    let g = a.g in
    let p = err_from_is_err_and c.from_residual.result c.from_residual.ensures.1 in
    let left = p.1 ∙ ap Err p.2 in (
      λ above w. ap (λ y. step_as y a.value.now c.store_term.new.s w) left
          ∙ record_refused (stage_of g a.level.now a.tables.now above) (division_of a.value.now a.n a.quotients.now a.v w a.r) a.j a.c (unpack a.q)
          (number_of c.in_err-k.field-0.0) c.in_err-k.ensures.0,
      subst (Room g) (sym left) tt,
    )

pub returns-in_err-m : goal.returns-in_err-m
returns-in_err-m c =
    let a = c.args in
    let g = a.g in
    let s = c.store_term in
    let p = err_from_is_err_and c.from_residual-in_err-m.result c.from_residual-in_err-m.ensures.1 in
    let left = p.1 ∙ ap Err p.2 in (
      λ above w. ap (λ y. step_as y c.add_multiple.new.value s.new.s w) left
          ∙ products_refused (stage_of g a.level.now a.tables.now above) (division_of a.value.now a.n a.quotients.now a.v w a.r) a.j a.c (unpack a.q)
          (rows s.new.s 0 c.in_ok-k.k) (number_of c.in_err-m.field-0.0) c.in_ok-k.ensures.0
          (c.in_err-m.ensures.0 ∙ ap (λ d. add_products (reduction_of g a.tables.now) false d (unpack a.q)
          (vector_of (family_of g a.level.now (ends_in a.tables.now)) a.j) (rows a.value.now 0 a.n)) c.negative-d.ensures),
      subst (Room g) (sym left) tt,
    )

pub returns : goal.returns
returns c =
    let a = c.args in
    let g = a.g in
    let s = c.store_term in
    let t = c.add_multiple in (
      λ above w. both_added (stage_of g a.level.now a.tables.now above) (division_of a.value.now a.n a.quotients.now a.v w a.r) a.j a.c (unpack a.q)
          (rows s.new.s 0 c.in_ok-k.k) (rows t.new.value 0 c.in_ok-m.m) c.in_ok-k.ensures.0
          (c.in_ok-m.ensures.0 ∙ ap (λ d. add_products (reduction_of g a.tables.now) false d (unpack a.q)
          (vector_of (family_of g a.level.now (ends_in a.tables.now)) a.j) (rows a.value.now 0 a.n)) c.negative-d.ensures),
      (c.in_ok-m.ensures.1, c.in_ok-k.ensures.1, c.requires.6),
    )
