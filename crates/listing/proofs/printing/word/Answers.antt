use borrow.Author.Rules.{rules}
use native.Mathlib.Omega.{arith}
use Prim.Native.Nat.{◌-◌}
use mathlib.Core.Path.{ap}
use mathlib.Core.List.{◌∷◌}
use Rattle.definitions.specs.Problem.{comma}
use Rattle.definitions.specs.Sheet.{decimal}
use Rattle.pages.proofs.bytes.Spelling.{few_digits, spelled}
use Rattle.listing.proofs.printing.word.Goals as goal

pub field-requires : goal.field-requires
field-requires c = let v = c.from.ensures in omega (arith, c.requires, v, few_digits 4 c.from.result (omega (arith, v)))

pub returns : goal.returns
returns c =
    let v = c.from.ensures in (
      spelled (ap (λ n. comma ∷ decimal n) v) c.field.ensures,
      omega (arith, c.field.ensures.ends, few_digits 4 c.from.result (omega (arith, v))),
    )
