use native.Mathlib.Omega.{arith}
use mathlib.Core.Path.{◌≡◌, ap, ◌∙◌}
use Prim.Native.Nat.{◌-◌, ◌*◌, ◌≤◌}
use lib.ListN.{length}
use Rattle.vectors.specs.sums.Places.{inserted_within}
use Rattle.vectors.specs.terms.Rows.{term_of}
use Rattle.orders.specs.Images.{table_of, table_order}
use Rattle.definitions.specs.Layout.{rows}
use Rattle.definitions.specs.Places.{row_length}
use Rattle.cache.proofs.BoundedSums.{grown_in}
use Rattle.cache.proofs.Parts.{part_rows, length_part, back, back_inside, back_keeps, back_leaves}
use Rattle.cache.proofs.insert_row.Goals as goal

pub returns : goal.returns
returns c =
    let a = c.args in
    let P = c.requires in
    let x = c.insert in
    let O = table_order a.code (table_of a.r a.table.now) in
    let W = a.work.now in
    let N = a.top * row_length - a.a * row_length in
    let under : a.a ≤ a.top = omega (arith, P.1) in
    let long : length x.new.s ≡ a.top * row_length - a.a * row_length = x.auto.s
    ∙ length_part W (a.a * row_length) (a.top * row_length - a.a * row_length) (omega (arith, P.2)) in
    let g = grown_in O a.p a.a a.top (term_of a.t) (rows W a.a a.n) under x.new.s
    (back W x.new.s a.a a.top P.2 under long) x.result
    (back_inside W x.new.s a.a a.top P.2 under long)
    (x.ensures ∙ ap (inserted_within O a.p (a.top - a.a) (term_of a.t))
    (part_rows W a.a (a.top * row_length - a.a * row_length) a.n (omega (arith, P.1)))) in
    (g.0, g.1, back_keeps W x.new.s a.a a.top P.2 under long, back_leaves W x.new.s a.a a.top P.2 under long)
