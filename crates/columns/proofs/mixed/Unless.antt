-- What the first element with terms of two degrees says: none that the test passes, any that it refuses there.
use mathlib.Core.Path.{◌≡◌, sym, ap, ◌∙◌}
use mathlib.Core.Bool.{Bool}
use mathlib.Core.Option.{Option, none, some}
use mathlib.Core.List.{[]}
use Prim.Native.Nat.{ℕ}
use lib.ListN.{get_or}
use Rattle.definitions.specs.Limits.{document_01}
use Rattle.definitions.specs.Monomial.{Monomial}
use Rattle.definitions.specs.Result.{done, refused}
use Rattle.definitions.specs.Stage.{highest}
use Rattle.definitions.specs.Layout.{Words, decode, level_at, levels_at}
use Rattle.definitions.specs.Betti.{first_mixed, unless_mixed}

-- a state with nothing above its elements, tested by any degree, with any number for the refusal
module _ (same? : Monomial → Monomial → Bool) (number : ℕ) (s : Words) (alone : get_or s 4 0 ≡ 1) where
  test_is : (o : Option ℕ) → o ≡ first_mixed same? 1 (level_at document_01 s 0)
      → unless_mixed (first_mixed same? 1 (highest (decode document_01 s).levels)) number ≡ unless_mixed o number
  test_is o e =
      ap (λ k. unless_mixed (first_mixed same? 1 (highest (levels_at document_01 s k))) number) alone
      ∙ ap (λ p. unless_mixed p number) (sym e)

  pub unmixed_passes : none ≡ first_mixed same? 1 (level_at document_01 s 0)
      → unless_mixed (first_mixed same? 1 (highest (decode document_01 s).levels)) number ≡ done tt
  unmixed_passes e = test_is none e

  pub mixed_refuses : (place : ℕ) → some place ≡ first_mixed same? 1 (level_at document_01 s 0)
      → unless_mixed (first_mixed same? 1 (highest (decode document_01 s).levels)) number ≡ refused number place []
  mixed_refuses place e = test_is (some place) e
