-- The matrix of all degrees of a level: zero where degrees differ, and in each degree that degree's constants.
use mathlib.Core.Path.{◌≡◌, refl, ap, ap₂, ◌∙◌, subst}
use mathlib.Core.Bool.{Bool, true, false}
use mathlib.Core.List.{List, [], ◌∷◌}
use Prim.Native.Nat.{ℕ, suc, ◌+◌, ◌%◌}
use native.Mathlib.Nat.{zero-mod}
use native.Mathlib.Omega.{arith}
use lib.Dec.{T, eqb, eqb→eq, eqb_refl}
use lib.ListN.{length}
use Rattle.definitions.specs.Lists.{map, from}
use Rattle.definitions.specs.Places.{row_shift}
use Rattle.definitions.specs.Monomial.{Vector, Level}
use Rattle.definitions.specs.Rank.{Row, Matrix}
use Rattle.definitions.specs.Minimal.{constant, of_degree, constants}
use Rattle.laws.proofs.Tests.{true_is}
use Rattle.ranks.specs.Elimination.{marks}
use Rattle.ranks.specs.Blocks.{kept, row_from, whole}
use Rattle.ranks.proofs.Apart.{Apart, Aparts}
use Rattle.ranks.proofs.Blocks.{marks_degree}

-- ## Zero where degrees differ

module _ (p : ℕ) where
  kept_other : (e d x : ℕ) → ¬ (e ≡ d) → kept e d x % p ≡ 0
  kept_other e d x n = go (eqb e d) (eqb→eq e d)
    where
      go : (b : Bool) → (T b → e ≡ d) → (elim b [ true ↦ x | false ↦ 0 ]) % p ≡ 0
      go true h = absurd (n (h tt))
      go false h = zero-mod p

  row_apart : (j : ℕ) (es : List ℕ) (d : ℕ) (v : Vector) → Apart p es d (row_from j es d v)
  row_apart j [] d v = tt
  row_apart j (e ∷ es) d v = (kept_other e d (constant v j), row_apart (suc j) es d v)

  whole_apart : (es ds : List ℕ) (f : Level) → length ds ≡ length f → Aparts p es ds (whole es ds f)
  whole_apart es [] f h = tt
  whole_apart es (d ∷ ds) [] h = absurd (omega arith)
  whole_apart es (d ∷ ds) (v ∷ f) h = (row_apart 1 es d v, whole_apart es ds f (omega arith))

-- ## A degree's rows and columns

kept_same : (e d x : ℕ) → e ≡ d → kept e d x ≡ x
kept_same e d x q = ap (λ (b : Bool). elim b [ true ↦ x | false ↦ 0 ]) (true_is (eqb e d) (subst (λ z. T (eqb e z)) q (eqb_refl e)))

row_part : (j : ℕ) (es : List ℕ) (d : ℕ) (v : Vector)
    → of_degree (d + row_shift) es (row_from j es d v) ≡ map (constant v) (of_degree (d + row_shift) es (from j (length es)))
row_part j [] d v = refl
row_part j (e ∷ es) d v = go (eqb (e + row_shift) t) (eqb→eq (e + row_shift) t) (row_part (suc j) es d v)
  where
    t : ℕ
    t = d + row_shift

    go : (b : Bool) → (T b → e + row_shift ≡ d + row_shift)
        → of_degree (d + row_shift) es (row_from (suc j) es d v) ≡ map (constant v) (of_degree (d + row_shift) es (from (suc j) (length es)))
        → ◌≡◌ {A = Row} (elim b [
          | true ↦ kept e d (constant v j) ∷ of_degree (d + row_shift) es (row_from (suc j) es d v)
          | false ↦ of_degree (d + row_shift) es (row_from (suc j) es d v)
        ])
        (map (constant v) (elim b [
          | true ↦ j ∷ of_degree (d + row_shift) es (from (suc j) (length es))
          | false ↦ of_degree (d + row_shift) es (from (suc j) (length es))
        ]))
    go true h r = let q : e + row_shift ≡ d + row_shift = h tt in
        ap₂ {C = Row} (λ x l. x ∷ l) (kept_same e d (constant v j) (omega arith)) r
    go false h r = r

pub whole_degree : (t : ℕ) (es ds : List ℕ) (f : Level) → map (of_degree t es) (of_degree t ds (whole es ds f)) ≡ constants t es ds f
whole_degree t es [] f = refl
whole_degree t es (d ∷ ds) [] = refl
whole_degree t es (d ∷ ds) (v ∷ f) = go (eqb (d + row_shift) t) (eqb→eq (d + row_shift) t) (whole_degree t es ds f)
  where
    go : (b : Bool) → (T b → d + row_shift ≡ t) → map (of_degree t es) (of_degree t ds (whole es ds f)) ≡ constants t es ds f
        → ◌≡◌ {A = Matrix}
        (map (of_degree t es) (elim b [ true ↦ row_from 1 es d v ∷ of_degree t ds (whole es ds f) | false ↦ of_degree t ds (whole es ds f) ]))
        (map (λ u. map (constant u) (of_degree t es (from 1 (length es)))) (elim b [ true ↦ v ∷ of_degree t ds f | false ↦ of_degree t ds f ]))
    go true h r = ap₂ {C = Matrix} (λ x l. x ∷ l)
        (subst (λ z. of_degree z es (row_from 1 es d v) ≡ map (constant v) (of_degree z es (from 1 (length es)))) (h tt) (row_part 1 es d v)) r
    go false h r = r

pub marks_constants : (p t : ℕ) (es ds : List ℕ) (f : Level) → length ds ≡ length f → of_degree t ds (marks p (whole es ds f)) ≡ marks p (constants t es ds f)
marks_constants p t es ds f h = marks_degree p t es ds (whole es ds f) (whole_apart p es ds f h) ∙ ap (marks p) (whole_degree t es ds f)
