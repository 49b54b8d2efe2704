use native.Mathlib.Omega.{arith}
use Rattle.std.proofs.lemmas.Result.{err_from_is_err_and}
use Rattle.definitions.specs.Packed.{unpack}
use Rattle.runs.specs.run.Stages.{run_of}
use Rattle.runs.specs.reduction.Grounds.{reduction_of, family_of, ends_in}
use Rattle.runs.proofs.run.Stepping.{record_refused, products_refused, both_added}
use Rattle.runs.proofs.run.reduced.Goals as goal

pub store_term-requires : goal.store_term-requires
store_term-requires c = (
  c.requires.0.prime,
  omega arith,
  c.requires.2.vector_fits,
)

pub add_multiple-requires : goal.add_multiple-requires
add_multiple-requires c = (
  c.requires.0,
  c.requires.1,
  omega arith,
  c.requires.2.value_fits,
  omega arith,
  omega arith,
)

pub returns-in_err-v : goal.returns-in_err-v
returns-in_err-v c =
    let a = c.args in
    let g = a.g in
    let R = reduction_of g a.tables.now in
    let f = family_of g a.level.now (ends_in a.tables.now) in
    let r = run_of a.value.now a.n a.vector.now a.v in
    let p = err_from_is_err_and c.from_residual.result c.from_residual.ensures.1 in
    rw (p.1, p.2) (λ order. record_refused R f a.drops r a.j a.c (unpack a.q) _ c.in_err-v.ensures.0, tt)

pub returns-in_err-n : goal.returns-in_err-n
returns-in_err-n c =
    let a = c.args in
    let g = a.g in
    let R = reduction_of g a.tables.now in
    let f = family_of g a.level.now (ends_in a.tables.now) in
    let r = run_of a.value.now a.n a.vector.now a.v in
    let p = err_from_is_err_and c.from_residual-in_err-n.result c.from_residual-in_err-n.ensures.1 in
    rw (p.1, p.2) (λ order. products_refused R f a.drops r a.j a.c (unpack a.q) _ _ c.in_ok-v.ensures.0 c.in_err-n.ensures.0, tt)

pub returns : goal.returns
returns c =
    let a = c.args in
    let g = a.g in
    let R = reduction_of g a.tables.now in
    let f = family_of g a.level.now (ends_in a.tables.now) in
    let r = run_of a.value.now a.n a.vector.now a.v in (
      λ order. both_added R f a.drops r a.j a.c (unpack a.q) _ _ c.in_ok-v.ensures.0 c.in_ok-n.ensures.0,
      (c.in_ok-n.ensures.1, c.in_ok-v.ensures.1),
    )
