use mathlib.Core.Path.{sym, ◌∙◌}
use Prim.Native.Nat.{◌+◌, ◌*◌}
use lib.ListN.{get_or}
use Rattle.definitions.specs.Packed.{unpack}
use Rattle.definitions.specs.Places.{row_length, component_offset}
use Rattle.laws.proofs.Rows.{row_is}
use Rattle.vectors.proofs.terms.row.Goals as goal

pub returns : goal.returns
returns c =
    let a = c.args in
    (λ i. (get_or a.s.now (a.i * row_length) 0, (unpack (c.long.ensures i), get_or a.s.now (a.i * row_length + component_offset) 0)))
    ∙ sym (row_is a.s.now a.i)
