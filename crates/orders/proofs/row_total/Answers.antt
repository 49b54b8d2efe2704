use native.Mathlib.Omega.{arith}
use mathlib.Core.Path.{◌∙◌}
use Rattle.laws.proofs.Packing.{bytes_of}
use Rattle.orders.proofs.RowImages.{row_fits, row_room, row_degree}
use Rattle.orders.proofs.row_total.Goals as goal

pub overflow_add-paired : goal.overflow_add-paired
overflow_add-paired c =
    let a = c.args in
    let f = row_fits a.e (bytes_of a.e (omega arith)) a.table.now a.to c.requires.1 _ _ _
    c.paired.ensures c.long-l.ensures c.long-h.ensures in
    omega (arith, f)

pub overflow_add-paired-2 : goal.overflow_add-paired-2
overflow_add-paired-2 c =
    let a = c.args in
    let f = row_fits a.e (bytes_of a.e (omega arith)) a.table.now a.to c.requires.1 _ _ _
    c.paired.ensures c.long-l.ensures c.long-h.ensures in
    omega (arith, f)

pub added_lanes-requires : goal.added_lanes-requires
added_lanes-requires c =
    let a = c.args in
    row_room a.e (bytes_of a.e (omega arith)) a.table.now a.to c.requires.1 _ _ _ c.paired.ensures
    c.long-l.ensures c.long-h.ensures

pub returns : goal.returns
returns c =
    let a = c.args in
    c.added_lanes.ensures ∙ row_degree a.e (bytes_of a.e (omega arith)) a.table.now a.to
    c.requires.1 _ _ _ c.paired.ensures
    c.long-l.ensures c.long-h.ensures
