use mathlib.Core.Path.{sym, ap, ◌∙◌}
use Rattle.orders.specs.Images.{comparison_of, key_of}
use Rattle.orders.proofs.Comparing.{keys_compared}
use Rattle.orders.proofs.compare_images.Goals as goal

pub returns : goal.returns
returns c =
    let a = c.args in
    ap comparison_of c.then.ensures
    ∙ keys_compared a.code (key_of a.a) (key_of a.b) c.by_code-d.result c.cmp.result c.cmp-2.result c.by_code-d.ensures (sym c.is_ne.ensures ∙ c.if-is_ne.false)
    c.cmp.ensures c.cmp-2.ensures
