use native.Mathlib.Omega.{arith}
use mathlib.Core.Path.{sym, ◌∙◌}
use Rattle.orders.specs.Images.{table_of, table_order}
use Rattle.runs.proofs.reduction.Picking.{picks_greatest, picks_newest, picks_oldest}
use Rattle.runs.specs.reduction.Grounds.{below_in}
use Rattle.definitions.specs.Layout.{rows}
use Rattle.runs.proofs.reduction.pick.Goals as goal

pub greatest-requires : goal.greatest-requires
greatest-requires c = (omega arith, omega arith, c.requires.3, c.requires.4)

pub returns-in-1 : goal.returns-in-1
returns-in-1 c =
    let a = c.args in
    c.greatest.ensures ∙ sym (picks_greatest (table_order a.g.code (table_of a.g.images (below_in a.tables.now))) a.pick
    (rows a.value.now 0 a.n) c.in-1.is)

pub returns-in-2 : goal.returns-in-2
returns-in-2 c =
    let a = c.args in
    picks_newest (table_order a.g.code (table_of a.g.images (below_in a.tables.now))) a.pick a.value.now a.n (omega arith)
    c.in-2.is

pub returns-in_default : goal.returns-in_default
returns-in_default c =
    let a = c.args in
    picks_oldest (table_order a.g.code (table_of a.g.images (below_in a.tables.now))) a.pick a.value.now a.n (omega arith)
    (λ e. omega arith) (λ e. omega arith)
