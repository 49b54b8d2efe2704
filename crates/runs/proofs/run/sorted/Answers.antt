use Rattle.std.specs.Prelude.{Ok}
use native.Mathlib.Omega.{arith}
use mathlib.Core.Path.{sym, ap, ◌∙◌, subst}
use Rattle.definitions.specs.Result.{done, refused}
use Rattle.orders.specs.Images.{table_of, table_order}
use Rattle.runs.specs.run.Stages.{order_of, ended_of, Ended}
use Rattle.runs.specs.reduction.Grounds.{above_in}
use Rattle.runs.proofs.run.Sorting.{sorted_rows}
use Rattle.runs.proofs.run.sorted.Goals as goal

pub sort_in_place-k-requires : goal.sort_in_place-k-requires
sort_in_place-k-requires c = (
  c.requires.0.prime,
  omega (
    arith,
    c.requires.3.vector_fits,
    subst (λ x. Ended c.args.g (Ok x)) c.in-Finished.is c.requires.4,
  ),
  c.requires.2.fits,
  c.requires.2.tabled,
)

pub sort-k-requires : goal.sort-k-requires
sort-k-requires c = (
  c.requires.0.prime,
  omega (
    arith,
    c.requires.3.value_fits,
    subst (λ x. Ended c.args.g (Ok x)) c.in-Stopped.is
        c.requires.4,
  ),
  omega (
    arith,
    c.requires.3.left_fits,
    subst (λ x. Ended c.args.g (Ok x)) c.in-Stopped.is
        c.requires.4,
  ),
  c.requires.1.fits,
  c.requires.1.tabled,
)

pub returns-in-Finished : goal.returns-in-Finished
returns-in-Finished c =
    let a = c.args in
    let g = a.g in
    let order = order_of g a.tables.now in
    let above = table_order g.code (table_of g.r (above_in a.tables.now)) in
    let s = c.sort_in_place-k in (
      ap done s.ensures ∙ sym (ap (λ y. ended_of order above g.p (Ok y) a.value.now a.vector.now) c.in-Finished.is),
      omega (
        arith,
        sorted_rows above g.p s.new.s s.result a.vector.now c.in-Finished.v s.ensures,
        subst (λ x. Ended g (Ok x)) c.in-Finished.is c.requires.4,
      ),
    )

pub returns-in-Stopped : goal.returns-in-Stopped
returns-in-Stopped c =
    let a = c.args in
    let g = a.g in
    let order = order_of g a.tables.now in
    let above = table_order g.code (table_of g.r (above_in a.tables.now)) in
    let s = c.sort-k in (
      ap (refused 9 0) s.ensures ∙ sym (ap (λ y. ended_of order above g.p (Ok y) a.value.now a.vector.now)
          c.in-Stopped.is),
      omega (
        arith,
        sorted_rows order g.p s.new.d s.result a.value.now
            c.in-Stopped.n s.ensures,
        subst (λ x. Ended g (Ok x)) c.in-Stopped.is
            c.requires.4,
      ),
    )
