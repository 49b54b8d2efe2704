use native.Mathlib.Omega.{arith}
use mathlib.Core.Path.{ap}
use Rattle.definitions.specs.Monomial.{Vector}
use Rattle.definitions.specs.Result.{done}
use Rattle.definitions.specs.Layout.{rows}
use Rattle.orders.specs.Images.{table_of, table_order}
use Rattle.runs.specs.reduction.Grounds.{above_in}
use Rattle.runs.proofs.run.Sorting.{sorted_rows}
use Rattle.dividing.proofs.over.sorted.Goals as goal

pub sort_in_place-k-requires : goal.sort_in_place-k-requires
sort_in_place-k-requires c = let P = c.requires in (P.0.prime, omega (arith, P.2, P.3.0), P.1.fits, P.1.tabled)

pub returns : goal.returns
returns c =
    let a = c.args in
    let P = c.requires in
    let s = c.sort_in_place-k in
    let g = a.g in
    let order = table_order g.code (table_of g.r (above_in a.tables.now)) in (
      λ w. ap (λ (q : Vector). done (q, rows w 0 a.x.remainder)) s.ensures,
      (omega (arith, sorted_rows order g.p s.new.s s.result a.quotients.now a.x.quotients s.ensures, P.3.0), P.3.1),
    )
