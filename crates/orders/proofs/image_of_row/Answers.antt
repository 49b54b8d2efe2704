use mathlib.Core.Path.{sym, ap, ◌∙◌}
use Prim.Native.Nat.{◌+◌, ◌*◌}
use lib.ListN.{get_or}
use Rattle.definitions.specs.Packed.{unpack}
use Rattle.definitions.specs.Places.{row_length, component_offset}
use Rattle.laws.proofs.Rows.{row_is}
use Rattle.orders.specs.Images.{table_of, key}
use Rattle.orders.proofs.image_of_row.Goals as goal

pub returns : goal.returns
returns c =
    let a = c.args in
    c.image_of.ensures ∙ ap (key (table_of a.r a.table.now))
    ((λ j. (unpack (c.long.ensures j), get_or a.s.now (a.i * row_length + component_offset) 0))
    ∙ sym (ap (λ t. t.1) (row_is a.s.now a.i)))
