use mathlib.Core.Path.{sym, ap, ◌∙◌}
use Prim.Native.Nat.{◌+◌}
use lib.ListN.{get_or}
use Rattle.orders.specs.Images.{comparison_of, key_of, row_image}
use Rattle.orders.proofs.Comparing.{keys_compared}
use Rattle.orders.proofs.against_tabled.Goals as goal

pub returns : goal.returns
returns c =
    let a = c.args in
    ap comparison_of c.then.ensures
    ∙ keys_compared a.code (key_of a.a) (row_image a.e a.table.now (a.to + 2), (get_or a.table.now (a.to + 1) 0, a.component)) c.row_by_code-d.result
    c.cmp.result c.cmp-2.result c.row_by_code-d.ensures (sym c.is_ne.ensures ∙ c.if-is_ne.false) c.cmp.ensures c.cmp-2.ensures
