-- Every pick code picks a place inside the value.
use mathlib.Core.Path.{subst}
use mathlib.Core.Bool.{Bool, true, false}
use mathlib.Core.Option.{Option, none, some}
use mathlib.Core.List.{[], ◌∷◌}
use Prim.Native.Nat.{ℕ, suc, ◌+◌, ◌<◌}
use native.Mathlib.Omega.{arith}
use lib.Dec.{eqb}
use lib.ListN.{length}
use Rattle.definitions.specs.Monomial.{Monomial, Vector}
use Rattle.definitions.specs.Order.{Comparison, greater, equal, smaller}
use Rattle.definitions.specs.Run.{Best, better, greatest_from, greatest, newest, oldest, by_code}
use Rattle.ending.specs.Well.{Picks}

-- the place, if there is one, is inside
abbrev Inside : Vector → Option ℕ → Type 0
Inside v none = Unit {0}
Inside v (some i) = i < length v

greatest_inside : (order : Monomial → Monomial → Comparison) (i : ℕ) (best : Best) (v : Vector) → best.0 < i
    → greatest_from order i best v < i + length v
greatest_inside order i best [] l = omega arith
greatest_inside order i best (t ∷ v) l = go (order t.1 best.1) (λ b k. greatest_inside order (suc i) b v k)
  where
    go : (c : Comparison) → ((b : Best) → b.0 < suc i → greatest_from order (suc i) b v < suc i + length v)
        → greatest_from order (suc i) (better c i t.1 best) v < i + suc (length v)
    go greater later = omega (arith, later (i, t.1) (omega arith))
    go equal later = omega (arith, later best (omega arith))
    go smaller later = omega (arith, later best (omega arith))

by_code_inside : (order : Monomial → Monomial → Comparison) (code : ℕ) (v : Vector) → Inside v (by_code order code v)
by_code_inside order code [] = go (eqb code 1) (eqb code 2)
  where
    go : (one two : Bool) → Inside [] (elim one [ true ↦ none | false ↦ elim two [ true ↦ none | false ↦ none ] ])
    go true two = tt
    go false true = tt
    go false false = tt
by_code_inside order code (t ∷ v) = go (eqb code 1) (eqb code 2)
  where
    go : (one two : Bool)
        → Inside (t ∷ v) (elim one [ true ↦ greatest order (t ∷ v) | false ↦ elim two [ true ↦ newest (t ∷ v) | false ↦ oldest (t ∷ v) ] ])
    go true two = omega (arith, greatest_inside order 1 (0, t.1) v (omega arith))
    go false true = omega arith
    go false false = omega arith

pub picks_by_code : (order : Monomial → Monomial → Comparison) (code : ℕ) → Picks (by_code order code)
picks_by_code order code v i e = subst (Inside v) e (by_code_inside order code v)
