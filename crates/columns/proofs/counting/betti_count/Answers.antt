use mathlib.Core.Path.{ap, ◌∙◌}
use Prim.Native.Nat.{◌+◌}
use lib.Dec.{eqb}
use Rattle.definitions.specs.Lists.{count}
use Rattle.definitions.specs.Places.{row_shift}
use Rattle.columns.proofs.counting.betti_count.Goals as goal

pub returns : goal.returns
returns c =
    let a = c.args in
    c.count_degrees.ensures ∙ ap (count (λ d. eqb (d + row_shift) (a.r + a.c))) c.column.ensures.0
