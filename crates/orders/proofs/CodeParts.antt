-- The order codes' comparison in two parts: degrees, then places.
use mathlib.Core.Path.{◌≡◌, refl, ap, ◌∙◌}
use mathlib.Core.Bool.{Bool, true, false}
use Prim.Native.Nat.{ℕ, ◌<◌, ◌≤◌}
use native.Mathlib.Omega.{arith}
use native.Mathlib.Decide.{ℕ_discrete}
use lib.Dec.{eqb}
use borrow.Author.Tests.{eq-eqb, ne_eqb}
use Rattle.definitions.specs.Lists.{choose}
use Rattle.definitions.specs.Monomial.{Exponents, degree}
use Rattle.definitions.specs.Order.{Comparison, equal, or_at_tie, lexicographic, last_differing, degrees, exponents_by}
use Rattle.orders.specs.Images.{degrees_by, places_by}

pub code_parts : (code : ℕ) (x y : Exponents) (d : ℕ) → d ≡ degree x → or_at_tie (degrees_by code d (degree y)) (places_by code x y)
    ≡ exponents_by code x y
code_parts code x y d e = ap (λ n. or_at_tie (degrees_by code n (degree y)) (places_by code x y)) e ∙ go (eqb code 1) (eqb code 2)
  where
    go : (a b : Bool) → ◌≡◌ {A = Comparison}
        (or_at_tie (choose a equal (degrees x y)) (choose a (lexicographic x y) (choose b (lexicographic x y) (last_differing x y))))
        (elim a [
          | true ↦ lexicographic x y
          | false ↦ elim b [
            | true ↦ or_at_tie (degrees x y) (lexicographic x y)
            | false ↦ or_at_tie (degrees x y)
                (last_differing x y)
          ]
        ])
    go true b = refl
    go false true = refl
    go false false = refl

pub places_first : (code : ℕ) (x y : Exponents) → 1 ≤ code → code < 3 → places_by code x y ≡ lexicographic x y
places_first code x y h k = go (ℕ_discrete code 1)
  where
    go : Dec (code ≡ 1) → places_by code x y ≡ lexicographic x y
    go (yes q) = ap (λ b. choose b (lexicographic x y) (choose (eqb code 2) (lexicographic x y) (last_differing x y))) (eq-eqb code 1 q)
    go (no n) =
        ap (λ b. choose b (lexicographic x y) (choose (eqb code 2) (lexicographic x y) (last_differing x y))) (ne_eqb code 1 n)
        ∙ ap (λ b. choose b (lexicographic x y) (last_differing x y)) (eq-eqb code 2 (omega arith))

pub places_last : (code : ℕ) (x y : Exponents) → (code ≡ 1 → ⊥) → (code ≡ 2 → ⊥) → places_by code x y ≡ last_differing x y
places_last code x y n m =
    ap (λ b. choose b (lexicographic x y) (choose (eqb code 2) (lexicographic x y) (last_differing x y))) (ne_eqb code 1 n)
    ∙ ap (λ b. choose b (lexicographic x y) (last_differing x y)) (ne_eqb code 2 m)
