use native.Mathlib.Omega.{arith}
use mathlib.Core.Path.{ap}
use mathlib.Core.List.{◌∷◌}
use Rattle.member_page.proofs.brought.VLines.{first_fifteen}
use Rattle.member_page.proofs.brought.with_element.Goals as goal

pub returns : goal.returns
returns c = ap (λ z. 0 ∷ z) (first_fifteen c.args.v (omega arith))
