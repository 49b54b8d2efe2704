-- Of the monomials of a degree in n variables, those that a divides are a times the monomials of the degree left.
use mathlib.Core.Path.{◌≡◌, refl, sym, ap, ap₂, ◌∙◌}
use mathlib.Core.Bool.{Bool, false}
use mathlib.Core.List.{List, [], ◌∷◌}
use Prim.Native.Nat.{ℕ, zero, suc, ◌+◌, ◌-◌, ◌<◌, ◌≤◌}
use native.Mathlib.Omega.{arith}
use lib.Dec.{leb-zero, leb-suc-zero, leb-suc-suc}
use Rattle.definitions.specs.Lists.{◌and◌, count, map}
use Rattle.definitions.specs.Monomial.{Exponents, divides?, quotient, degree}
use Rattle.definitions.specs.Standard.{of_degree_in}
use Rattle.laws.proofs.Members.{All}
use Rattle.standard_monomials.proofs.Counts.{count_append, count_same, count_none, count_map}
use Rattle.standard_monomials.proofs.Ways.{raised, Long, zero_first, ways_long, ways_next}

-- ## The degree left

-- the monomials of the degree left of d after g, none where g is higher
abbrev pub ways_left : ℕ → ℕ → ℕ → List Exponents
ways_left n zero d = of_degree_in n d
ways_left n (suc g) zero = []
ways_left n (suc g) (suc d) = ways_left n g d

pub left_reached : (n g d : ℕ) → g ≤ d → ways_left n g d ≡ of_degree_in n (d - g)
left_reached n zero d l = ap (of_degree_in n) (let e : d ≡ d - 0 = omega arith in e)
left_reached n (suc g) zero l = absurd (omega (arith, l))
left_reached n (suc g) (suc d) l = left_reached n g d (omega (arith, l)) ∙ ap (of_degree_in n) (let e : d - g ≡ suc d - suc g = omega arith in e)

pub left_passed : (n g d : ℕ) → d < g → ways_left n g d ≡ []
left_passed n zero d l = absurd (omega (arith, l))
left_passed n (suc g) zero l = refl
left_passed n (suc g) (suc d) l = left_passed n g d (omega (arith, l))

pub left_long : (n g d : ℕ) → All (Long n) (ways_left n g d)
left_long n zero d = ways_long n d
left_long n (suc g) zero = tt
left_long n (suc g) (suc d) = left_long n g d

-- .. by the first exponent
count_next : (n : ℕ) (P : Exponents → Bool) (d : ℕ)
    → count P (of_degree_in (suc n) (suc d)) ≡ count (λ m. P (0 ∷ m)) (of_degree_in n (suc d)) + count (λ m. P (raised m)) (of_degree_in (suc n) d)
count_next n P d =
    ap (count P) (ways_next n d) ∙ count_append P (map zero_first (of_degree_in n (suc d))) (map raised (of_degree_in (suc n) d))
    ∙ ap₂ (λ x y. x + y) (count_map P zero_first (of_degree_in n (suc d))) (count_map P raised (of_degree_in (suc n) d))

left_zero : (n : ℕ) (P : Exponents → Bool) (g : ℕ) → count P (ways_left (suc n) g zero) ≡ count (λ m. P (0 ∷ m)) (ways_left n g zero)
left_zero n P zero = count_map P zero_first (of_degree_in n zero)
left_zero n P (suc g) = refl

left_suc : (n : ℕ) (P : Exponents → Bool) (g d : ℕ)
    → count P (ways_left (suc n) g (suc d)) ≡ count (λ m. P (0 ∷ m)) (ways_left n g (suc d)) + count (λ m. P (raised m)) (ways_left (suc n) g d)
left_suc n P zero d = count_next n P d
left_suc n P (suc g) zero = let e = left_zero n P g in omega (arith, e)
left_suc n P (suc g) (suc d) = left_suc n P g d

-- ## The shift

-- a divides m, and the quotient passes the test
abbrev pub quotient_passes? : (Exponents → Bool) → Exponents → Exponents → Bool
quotient_passes? P a m = divides? a m and P (quotient m a)

-- by the first exponent of a and of m
suc_zero : (P : Exponents → Bool) (x : ℕ) (a m : Exponents) → quotient_passes? P (suc x ∷ a) (0 ∷ m) ≡ false
suc_zero P x a m = ap (λ b. (b and divides? a m) and P (quotient (0 ∷ m) (suc x ∷ a))) (leb-suc-zero x)

zero_raised : (P : Exponents → Bool) (a m : Exponents) → quotient_passes? P (0 ∷ a) (raised m) ≡ quotient_passes? (λ m. P (raised m)) (0 ∷ a) m
zero_raised P a [] = refl
zero_raised P a (y ∷ m) =
    let e : suc y - 0 ≡ suc (y - 0) = omega arith in
    ap₂ (λ b z. (b and divides? a m) and P (z ∷ quotient m a)) (leb-zero (suc y) ∙ sym (leb-zero y)) e

suc_raised : (P : Exponents → Bool) (x : ℕ) (a m : Exponents) → quotient_passes? P (suc x ∷ a) (raised m) ≡ quotient_passes? P (x ∷ a) m
suc_raised P x a [] = refl
suc_raised P x a (y ∷ m) =
    let e : suc y - suc x ≡ y - x = omega arith in
    ap₂ (λ b z. (b and divides? a m) and P (z ∷ quotient m a)) (leb-suc-suc x y) e

abbrev Shifts : ℕ → Exponents → Type 0
Shifts n a = (P : Exponents → Bool) (d : ℕ) → count (quotient_passes? P a) (of_degree_in n d) ≡ count P (ways_left n (degree a) d)

-- one variable more
module _ (n : ℕ) (a : Exponents) (s : Shifts n a) where
  front_none : (P : Exponents → Bool) (x d : ℕ) → count (λ m. quotient_passes? P (suc x ∷ a) (0 ∷ m)) (of_degree_in n d) ≡ 0
  front_none P x d =
      count_same (λ m. quotient_passes? P (suc x ∷ a) (0 ∷ m)) (λ m. false) (of_degree_in n d) (suc_zero P x a) ∙ count_none (of_degree_in n d)

  shift_first : (d : ℕ) (P : Exponents → Bool) (x : ℕ)
      → count (quotient_passes? P (x ∷ a)) (of_degree_in (suc n) d) ≡ count P (ways_left (suc n) (x + degree a) d)
  shift_first zero P zero =
      let z : degree a ≡ 0 + degree a = omega arith in
      count_map (quotient_passes? P (0 ∷ a)) zero_first (of_degree_in n zero) ∙ s (λ m. P (0 ∷ m)) zero ∙ sym (left_zero n P (degree a))
      ∙ ap (λ g. count P (ways_left (suc n) g zero)) z
  shift_first zero P (suc x) =
      let z : suc (x + degree a) ≡ suc x + degree a = omega arith in
      count_map (quotient_passes? P (suc x ∷ a)) zero_first (of_degree_in n zero) ∙ front_none P x zero
      ∙ ap (λ g. count P (ways_left (suc n) g zero)) z
  shift_first (suc d) P zero =
      let z : degree a ≡ 0 + degree a = omega arith in
      count_next n (quotient_passes? P (0 ∷ a)) d
      ∙ ap₂ (λ x y. x + y) (s (λ m. P (0 ∷ m)) (suc d))
      (count_same (λ m. quotient_passes? P (0 ∷ a) (raised m)) (quotient_passes? (λ m. P (raised m)) (0 ∷ a)) (of_degree_in (suc n) d) (zero_raised P a)
      ∙ shift_first d (λ m. P (raised m)) zero ∙ ap (λ g. count (λ m. P (raised m)) (ways_left (suc n) g d)) (sym z))
      ∙ sym (left_suc n P (degree a) d) ∙ ap (λ g. count P (ways_left (suc n) g (suc d))) z
  shift_first (suc d) P (suc x) =
      let z : suc (x + degree a) ≡ suc x + degree a = omega arith in
      count_next n (quotient_passes? P (suc x ∷ a)) d
      ∙ ap₂ (λ x y. x + y) (front_none P x (suc d))
      (count_same (λ m. quotient_passes? P (suc x ∷ a) (raised m)) (quotient_passes? P (x ∷ a)) (of_degree_in (suc n) d) (suc_raised P x a)
      ∙ shift_first d P x)
      ∙ (let e : 0 + count P (ways_left (suc n) (x + degree a) d) ≡ count P (ways_left (suc n) (x + degree a) d) = omega arith in e)
      ∙ ap (λ g. count P (ways_left (suc n) g (suc d))) z

shifts : (n : ℕ) (a : Exponents) → Long n a → Shifts n a
shifts zero [] h P zero = refl
shifts zero [] h P (suc d) = refl
shifts zero (x ∷ a) h P d = absurd (omega (arith, h))
shifts (suc n) [] h P d = absurd (omega (arith, h))
shifts (suc n) (x ∷ a) h P d = shift_first n a (shifts n a (omega (arith, h))) d P x

-- of the degree left after g
pub shift_left : (n : ℕ) (a : Exponents) → Long n a → (P : Exponents → Bool) (g d : ℕ)
    → count (quotient_passes? P a) (ways_left n g d) ≡ count P (ways_left n (degree a + g) d)
shift_left n a h P zero d = let z : degree a ≡ degree a + 0 = omega arith in shifts n a h P d ∙ ap (λ g. count P (ways_left n g d)) z
shift_left n a h P (suc g) zero =
    let z : suc (degree a + g) ≡ degree a + suc g = omega arith in ap (λ x. count P (ways_left n x zero)) z
shift_left n a h P (suc g) (suc d) =
    let z : suc (degree a + g) ≡ degree a + suc g = omega arith in
    shift_left n a h P g d ∙ ap (λ x. count P (ways_left n x (suc d))) z
