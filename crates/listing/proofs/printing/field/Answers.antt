use borrow.Author.Rules.{rules}
use native.Mathlib.Omega.{arith}
use Prim.Native.Nat.{◌-◌}
use Rattle.pages.proofs.bytes.Spelling.{after}
use Rattle.listing.proofs.printing.field.Goals as goal

pub number-requires : goal.number-requires
number-requires c = omega (arith, c.requires, c.byte-a.ensures.ends)

pub returns : goal.returns
returns c = after c.byte-a.ensures c.number.ensures
