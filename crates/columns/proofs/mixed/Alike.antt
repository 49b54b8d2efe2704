-- Terms of a state's rows have the same key exactly where they have the same bidegree, or the same degree.
use mathlib.Core.Path.{◌≡◌, refl, ◌∙◌}
use mathlib.Core.Bool.{Bool, true, false, not}
use mathlib.Core.Option.{some}
use mathlib.Core.List.{List, [], ◌∷◌}
use Prim.Native.Nat.{ℕ, zero, suc, ◌+◌, ◌-◌, ◌*◌, ◌<◌, ◌≤◌}
use native.Mathlib.Omega.{arith}
use borrow.Author.Tests.{eqb-true, eqb-false, eq-eqb, ne_eqb}
use lib.Dec.{T, eqb}
use lib.ListN.{length, drop, replicate}
use Rattle.definitions.specs.Limits.{document_01}
use Rattle.definitions.specs.Lists.{any}
use Rattle.definitions.specs.Monomial.{Exponents, Monomial, Term, Vector, Level, degree, fits?}
use Rattle.definitions.specs.Degrees.{degree_by}
use Rattle.definitions.specs.Betti.{mixed?, first_mixed, same_degree?}
use Rattle.definitions.specs.Bidegrees.{weighted, degree_weighted, seconds, bidegree}
use Rattle.definitions.specs.Layout.{Words, row_at, rows, long_at, rows_place, vectors_at, ends_at, level_at}
use Rattle.definitions.specs.Places.{exponents_length, most_exponent, most_weight, row_length, exponents_offset, second_base}
use Rattle.laws.proofs.Members.{All, all_append}
use Rattle.laws.proofs.Packing.{unpack_long, degree_small}
use Rattle.bigraded.proofs.Weighted.{small_seconds, weighted_most}
use Rattle.columns.specs.mixed.Placed.{same_key?, same_bidegrees?}
use Rattle.columns.specs.weights.Keys.{weights_of, key_weights, key_degrees, AtMost, most_key_weight}
use Rattle.columns.proofs.weights.Keying.{key_same, key_is, component_scaled}
use Rattle.columns.proofs.weights.Summing.{small_weights}

-- ## Rows

-- eight exponents of eight bits
pub record Eight (t : Term) : Type 0 where
  pub long : length t.1.0 ≡ exponents_length
  pub low : degree t.1.0 ≤ exponents_length * most_exponent

row_eight : (s : Words) (i : ℕ) → Eight (row_at s i)
unfolding row_at
row_eight s i =
    let x = long_at s (i * row_length + exponents_offset) in
    record { long = unpack_long x; low = degree_small x }

rows_eight : (s : Words) (a n : ℕ) → All Eight (rows s a n)
unfolding rows
rows_eight s a zero = tt
rows_eight s a (suc n) = all_append Eight (rows s a n) (row_at s (a + n) ∷ []) (rows_eight s a n) (row_eight s (a + n), tt)

vectors_eight : (s : Words) (a : ℕ) (es : Words) → All (All Eight) (vectors_at s a es)
vectors_eight s a [] = tt
vectors_eight s a (e ∷ es) = (rows_eight s a (e - a), vectors_eight s e es)

-- ## Tests that agree on such terms

module _ (P Q : Monomial → Monomial → Bool) (agree : (t u : Term) → Eight t → Eight u → P t.1 u.1 ≡ Q t.1 u.1) where
  any_alike : (t : Term) → Eight t → (v : Vector) → All Eight v → any (λ u. not (P t.1 u.1)) v ≡ any (λ u. not (Q t.1 u.1)) v
  any_alike t h [] k = refl
  any_alike t h (u ∷ v) k = λ i. elim (not (agree t u h k.0 i)) [ true ↦ true | false ↦ any_alike t h v k.1 i ]

  mixed_alike : (v : Vector) → All Eight v → mixed? P v ≡ mixed? Q v
  mixed_alike [] h = refl
  mixed_alike (t ∷ v) h = any_alike t h.0 v h.1

  first_alike : (f : Level) (n : ℕ) → All (All Eight) f → first_mixed P n f ≡ first_mixed Q n f
  first_alike [] n h = refl
  first_alike (v ∷ f) n h = λ i. elim (mixed_alike v h.0 i) [ true ↦ some n | false ↦ first_alike f (suc n) h.1 i ]

  level_alike : (s : Words) (k : ℕ) → first_mixed P 1 (level_at document_01 s k) ≡ first_mixed Q 1 (level_at document_01 s k)
  level_alike s k = first_alike (level_at document_01 s k) 1 (vectors_eight (drop (rows_place document_01 k) s) 0 (ends_at document_01 s k))

-- ## Bidegrees

pub bidegrees_alike : (s : Words) (k n : ℕ) (ws d : List ℕ) → T (fits? most_weight ws)
    → first_mixed (same_key? (key_weights n ws) (key_degrees d)) 1 (level_at document_01 s k)
    ≡ first_mixed (same_bidegrees? (weights_of n ws) d) 1 (level_at document_01 s k)
bidegrees_alike s k n ws d small = level_alike (same_key? (key_weights n ws) (key_degrees d)) (same_bidegrees? (weights_of n ws) d) agree s k
  where
    low : (t : Term) → Eight t → weighted (seconds (weights_of n ws)) t.1.0 < second_base
    low t h =
        let a = weighted_most (seconds (weights_of n ws)) (small_seconds (weights_of n ws) (small_weights n ws small)) t.1.0 in
        let b = h.low in
        omega (arith, a, b)

    agree : (t u : Term) → Eight t → Eight u → same_key? (key_weights n ws) (key_degrees d) t.1 u.1 ≡ same_bidegrees? (weights_of n ws) d t.1 u.1
    agree t u h k =
        (λ i. eqb (key_is n ws d t.1 i) (key_is n ws d u.1 i))
        ∙ key_same (bidegree (weights_of n ws) d t.1) (bidegree (weights_of n ws) d u.1) (low t h) (low u k)

-- ## Degrees

-- the weights 1 and 0 of all variables as keys
abbrev pub plain : List ℕ
plain = replicate exponents_length second_base

plain_is : (n : ℕ) (e : Exponents) → length e ≡ n → weighted (replicate n second_base) e ≡ degree e * second_base
plain_is zero [] h = refl
plain_is zero (x ∷ e) h = absurd (omega arith)
plain_is (suc n) [] h = absurd (omega arith)
plain_is (suc n) (x ∷ e) h = let r = plain_is n e (omega arith) in omega (arith, r)

pub plain_low : AtMost most_key_weight plain
plain_low = go exponents_length
  where
    go : (n : ℕ) → AtMost most_key_weight (replicate n second_base)
    go zero zero = omega arith
    go zero (suc i) = omega arith
    go (suc n) zero = omega arith
    go (suc n) (suc i) = go n i

same_scaled : (x y : ℕ) → eqb (x * second_base) (y * second_base) ≡ eqb x y
same_scaled x y = go (eqb x y) refl
  where
    go : (b : Bool) → eqb x y ≡ b → eqb (x * second_base) (y * second_base) ≡ b
    go true e = let a = eqb-true x y e in eq-eqb (x * second_base) (y * second_base) (omega (arith, a))
    go false e = ne_eqb (x * second_base) (y * second_base) (λ z. eqb-false x y e (omega (arith, z)))

pub degrees_alike : (s : Words) (k : ℕ) (d : List ℕ) → first_mixed (same_key? plain (key_degrees d)) 1 (level_at document_01 s k)
    ≡ first_mixed (same_degree? d) 1 (level_at document_01 s k)
degrees_alike s k d = level_alike (same_key? plain (key_degrees d)) (same_degree? d) agree s k
  where
    is : (t : Term) → Eight t → degree_weighted plain (key_degrees d) t.1 ≡ degree_by d t.1 * second_base
    is t h =
        let a = plain_is exponents_length t.1.0 h.long in
        let b = component_scaled d t.1.1 in
        omega (arith, a, b)

    agree : (t u : Term) → Eight t → Eight u → same_key? plain (key_degrees d) t.1 u.1 ≡ same_degree? d t.1 u.1
    agree t u h k = (λ i. eqb (is t h i) (is u k i)) ∙ same_scaled (degree_by d t.1) (degree_by d u.1)
