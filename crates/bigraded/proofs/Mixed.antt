-- "25 .., its place the first such element, when some element has terms of two bidegrees".
use mathlib.Core.Path.{◌≡◌}
use mathlib.Core.Bool.{Bool}
use mathlib.Core.List.{List}
use Prim.Native.Nat.{ℕ}
use lib.Dec.{T}
use Rattle.definitions.specs.Monomial.{Monomial, Level}
use Rattle.definitions.specs.Betti.{first_mixed}
use Rattle.definitions.specs.Bidegrees.{bidegree, same_bidegree?}
use Rattle.betti.proofs.Mixed.{FirstOf, first_is}
use Rattle.bigraded.proofs.Occurring.{same_says, same_shows}

module _ (ws : List (ℕ × ℕ)) (d : List ℕ) where
  -- 25's test
  abbrev pub same? : Monomial → Monomial → Bool
  same? m m' = same_bidegree? (bidegree ws d m) (bidegree ws d m')

  pub first_by_bidegree : (f : Level) → FirstOf (bidegree ws d) f (first_mixed same? 1 f)
  first_by_bidegree =
      first_is (bidegree ws d) same? (λ m m'. same_says (bidegree ws d m) (bidegree ws d m')) (λ m m'. same_shows (bidegree ws d m) (bidegree ws d m'))
