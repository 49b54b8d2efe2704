-- A code that names no way.
use mathlib.Core.Path.{◌≡◌}
use Prim.Native.Nat.{ℕ}
use borrow.Author.Tests.{ne_eqb}
use Rattle.definitions.specs.Lists.{choose}
use Rattle.definitions.specs.Layout.{division, hybrid, tree}
use Rattle.lift_call.specs.Codes.{coded_way}

pub no_way : (way pick : ℕ) → (way ≡ 0 → ⊥) → (way ≡ 1 → ⊥) → (way ≡ 2 → ⊥) → coded_way way pick ≡ hybrid 0
no_way way pick n m o = λ i. choose (ne_eqb way 0 n i) division (choose (ne_eqb way 1 m i) (hybrid pick) (choose (ne_eqb way 2 o i) tree (hybrid 0)))
