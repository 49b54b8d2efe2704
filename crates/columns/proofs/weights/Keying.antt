-- Keys: a bidegree's two numbers are found in its key, keys are ordered as bidegrees are, and a monomial's key is the weighted sum of its exponents.
use mathlib.Core.Path.{◌≡◌, refl, sym, ap, ◌∙◌}
use mathlib.Core.Bool.{Bool, true, false}
use mathlib.Core.List.{List, [], ◌∷◌}
use Prim.Native.Nat.{ℕ, zero, suc, ◌+◌, ◌-◌, ◌*◌, ◌/◌, ◌%◌, ◌<◌}
use native.Mathlib.Nat.{mul_assoc, mul_comm, add-mul}
use native.Mathlib.Omega.{arith}
use borrow.Author.Tests.{eqb-true, eqb-false, eq-eqb, ne_eqb}
use lib.Dec.{eqb}
use lib.ListN.{get_or}
use Rattle.definitions.specs.Lists.{◌and◌, map}
use Rattle.definitions.specs.Monomial.{Exponents, Monomial}
use Rattle.definitions.specs.Order.{Comparison, greater, equal, smaller, or_at_tie, numbers}
use Rattle.definitions.specs.Degrees.{component_degree}
use Rattle.definitions.specs.Bidegrees.{weighted, degree_weighted, Bidegree, firsts, seconds, bidegree, same_bidegree?, compare_bidegrees}
use Rattle.definitions.specs.Places.{exponents_length, second_base}
use Rattle.laws.proofs.Comparisons.{Says, numbers_say, numbers_are}
use Rattle.bigraded.proofs.Weighted.{weighted_padded}
use Rattle.columns.specs.weights.Keys.{key, weights_of, key_weights, key_degrees}

-- ## The two numbers

pub key_first : (x : Bidegree) → x.1 < second_base → key x / second_base ≡ x.0
key_first x h = omega arith

pub key_second : (x : Bidegree) → x.1 < second_base → key x % second_base ≡ x.1
key_second x h = omega arith

-- ## Order

module _ (x y : Bidegree) (h : x.1 < second_base) (k : y.1 < second_base) where
  by_second : (c : Comparison) → x.0 ≡ y.0 → Says c x.1 y.1 → numbers (key x) (key y) ≡ c
  by_second greater e s = numbers_are (key x) (key y) greater (omega arith)
  by_second equal e s = numbers_are (key x) (key y) equal (omega arith)
  by_second smaller e s = numbers_are (key x) (key y) smaller (omega arith)

  by_first : (c : Comparison) → Says c x.0 y.0 → numbers (key x) (key y) ≡ or_at_tie c (numbers x.1 y.1)
  by_first greater s = numbers_are (key x) (key y) greater (omega arith)
  by_first equal s = by_second (numbers x.1 y.1) s (numbers_say x.1 y.1)
  by_first smaller s = numbers_are (key x) (key y) smaller (omega arith)

  pub key_order : numbers (key x) (key y) ≡ compare_bidegrees x y
  key_order = by_first (numbers x.0 y.0) (numbers_say x.0 y.0)

  same_by : (b c : Bool) → eqb x.0 y.0 ≡ b → eqb x.1 y.1 ≡ c → eqb (key x) (key y) ≡ (b and c)
  same_by true true p q = let a = eqb-true x.0 y.0 p in let b = eqb-true x.1 y.1 q in eq-eqb (key x) (key y) (omega (arith, a, b))
  same_by true false p q = let a = eqb-true x.0 y.0 p in ne_eqb (key x) (key y) (λ e. eqb-false x.1 y.1 q (omega (arith, a, e)))
  same_by false c p q = ne_eqb (key x) (key y) (λ e. eqb-false x.0 y.0 p (omega (arith, e, h, k)))

  -- the same key exactly for the same bidegree
  pub key_same : eqb (key x) (key y) ≡ same_bidegree? x y
  key_same = same_by (eqb x.0 y.0) (eqb x.1 y.1) refl refl

-- ## Monomials

-- (a · base + b) · x is a · x · base + b · x
key_times : (w : Bidegree) (x : ℕ) → key w * x ≡ (w.0 * x) * second_base + w.1 * x
key_times w x =
    add-mul (w.0 * second_base) w.1 x
    ∙ ap (λ n. n + w.1 * x) (mul_assoc w.0 second_base x ∙ ap (λ n. w.0 * n) (mul_comm second_base x) ∙ sym (mul_assoc w.0 x second_base))

weighted_keys : (ws : List Bidegree) (e : Exponents) → weighted (map key ws) e ≡ key (weighted (firsts ws) e, weighted (seconds ws) e)
weighted_keys [] e = refl
weighted_keys (w ∷ ws) [] = refl
weighted_keys (w ∷ ws) (x ∷ e) = let r = weighted_keys ws e in let p = key_times w x in omega (arith, r, p)

pub getD_scaled : (d : List ℕ) (i : ℕ) → get_or (key_degrees d) i 0 ≡ get_or d i 0 * second_base
getD_scaled [] zero = refl
getD_scaled [] (suc i) = refl
getD_scaled (x ∷ d) zero = refl
getD_scaled (x ∷ d) (suc i) = getD_scaled d i

pub component_scaled : (d : List ℕ) (i : ℕ) → component_degree (key_degrees d) i ≡ component_degree d i * second_base
component_scaled d zero = refl
component_scaled d (suc i) = getD_scaled d i

-- a monomial's key is that of its bidegree
pub key_is : (n : ℕ) (ws d : List ℕ) (m : Monomial) → degree_weighted (key_weights n ws) (key_degrees d) m ≡ key (bidegree (weights_of n ws) d m)
key_is n ws d m =
    let a = weighted_padded (map key (weights_of n ws)) (exponents_length - n) m.0 ∙ weighted_keys (weights_of n ws) m.0 in
    let b = component_scaled d m.1 in
    omega (arith, a, b)
