use Rattle.sweeping.proofs.Tests.{truth}
use Rattle.laws.proofs.Products.{same_monomial_says}
use Rattle.monomial.specs.Values.{monomial_of}
use Rattle.definitions.specs.Layout.{row_at}
use native.Mathlib.Omega.{arith}
use mathlib.Core.Path.{sym, ◌∙◌}
use Prim.Native.Nat.{◌-◌, ◌*◌}
use Rattle.sweeping.proofs.nodes.find.Goals as goal

pub returns-then-same_row : goal.returns-then-same_row
returns-then-same_row c =
    let a = c.args
    in let x = c.place-x.result in (
      omega arith,
      sym (same_monomial_says (monomial_of a.m) (row_at a.nodes.now ((x - 1) * 2)).1 (truth (sym c.same_row.ensures ∙ c.if-same_row.true))),
    )
