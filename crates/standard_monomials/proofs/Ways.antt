-- The ways to write d as a sum of n exponents: each once, and how many there are.
use mathlib.Core.Path.{◌≡◌, refl, sym, ap, ap₂, ◌∙◌, subst}
use mathlib.Core.Logic.{inl}
use mathlib.Core.List.{List, [], ◌∷◌, ◌++◌, head-eq_of_cons-eq, tail-eq_of_cons-eq}
use Prim.Native.Nat.{ℕ, zero, suc, ◌+◌}
use native.Mathlib.Omega.{arith}
use lib.ListN.{length, length-append}
use Rattle.definitions.specs.Lists.{map}
use Rattle.definitions.specs.Monomial.{Exponents, degree}
use Rattle.definitions.specs.Standard.{one_more, of_degree_in}
use Rattle.laws.proofs.Members.{All, all_append, all_map, all_map₂}
use Rattle.demands.specs.Notions.{Member}
use Rattle.demands.proofs.Members.{member_left, member_right}
use Rattle.standard_monomials.specs.Notions.{Distinct, ListsEach}
use Rattle.standard_monomials.proofs.Counts.{length_map, all_mapped}
use Rattle.standard_monomials.proofs.Each.{all_member, map_shown, map_says, distinct_append, distinct_map}

-- the first exponent raised by one
abbrev pub raised : Exponents → Exponents
raised [] = []
raised (x ∷ e) = suc x ∷ e

-- so many exponents
abbrev pub Long : ℕ → Exponents → Type 0
Long n e = length e ≡ n

-- with 0 in front
abbrev pub zero_first : Exponents → Exponents
zero_first e = 0 ∷ e

more_raised : (n : ℕ) (l : List Exponents) → All (Long (suc n)) l → one_more l ≡ map raised l
more_raised n [] h = refl
more_raised n ([] ∷ l) h = absurd (let z : 0 ≡ suc n = h.0 in omega (arith, z))
more_raised n ((x ∷ e) ∷ l) h = ap (λ y. (suc x ∷ e) ∷ y) (more_raised n l h.1)

-- ## How many exponents

raised_long : (n : ℕ) (e : Exponents) → Long n e → Long n (raised e)
raised_long n [] h = h
raised_long n (x ∷ e) h = h

first_long : (n : ℕ) → ((d : ℕ) → All (Long n) (of_degree_in n d)) → (d : ℕ) → All (Long (suc n)) (of_degree_in (suc n) d)
first_long n h zero =
    all_mapped (Long (suc n)) zero_first (of_degree_in n zero) (all_map (Long n) (λ e. Long (suc n) (0 ∷ e)) (λ e z. ap suc z) (of_degree_in n zero) (h zero))
first_long n h (suc d) =
    let l = of_degree_in (suc n) d in
    let k = first_long n h d in
    all_append (Long (suc n)) (map zero_first (of_degree_in n (suc d))) (one_more l)
    (all_mapped (Long (suc n)) zero_first (of_degree_in n (suc d))
    (all_map (Long n) (λ e. Long (suc n) (0 ∷ e)) (λ e z. ap suc z) (of_degree_in n (suc d)) (h (suc d))))
    (subst (All (Long (suc n))) (sym (more_raised n l k))
    (all_mapped (Long (suc n)) raised l (all_map (Long (suc n)) (λ e. Long (suc n) (raised e)) (raised_long (suc n)) l k)))

pub ways_long : (n d : ℕ) → All (Long n) (of_degree_in n d)
ways_long zero zero = (refl, tt)
ways_long zero (suc d) = tt
ways_long (suc n) d = first_long n (ways_long n) d

-- the first exponent 0, or raised
pub ways_next : (n d : ℕ) → of_degree_in (suc n) (suc d) ≡ map zero_first (of_degree_in n (suc d)) ++ map raised (of_degree_in (suc n) d)
ways_next n d = ap (λ l. map zero_first (of_degree_in n (suc d)) ++ l) (more_raised n (of_degree_in (suc n) d) (ways_long (suc n) d))

-- ## How many

pub length_next : (n d : ℕ) → length (of_degree_in (suc n) (suc d)) ≡ length (of_degree_in n (suc d)) + length (of_degree_in (suc n) d)
length_next n d =
    ap length (ways_next n d) ∙ length-append (map zero_first (of_degree_in n (suc d))) (map raised (of_degree_in (suc n) d))
    ∙ ap₂ (λ x y. x + y) (length_map zero_first (of_degree_in n (suc d))) (length_map raised (of_degree_in (suc n) d))

-- of degree 0
pub length_unit : (n : ℕ) → length (of_degree_in n zero) ≡ 1
length_unit zero = refl
length_unit (suc n) = length_map zero_first (of_degree_in n zero) ∙ length_unit n

-- in one variable
pub length_power : (d : ℕ) → length (of_degree_in 1 d) ≡ 1
length_power zero = refl
length_power (suc d) = let e = length_next 0 d in let r = length_power d in omega (arith, e, r)

-- ## Which sum

first_degrees : (n : ℕ) → ((d : ℕ) → All (λ e. degree e ≡ d) (of_degree_in n d)) → (d : ℕ) → All (λ e. degree e ≡ d) (of_degree_in (suc n) d)
first_degrees n h zero =
    all_mapped (λ e. degree e ≡ 0) zero_first (of_degree_in n zero)
    (all_map (λ e. degree e ≡ 0) (λ e. degree (0 ∷ e) ≡ 0) (λ e z. let y : 0 + degree e ≡ 0 = omega (arith, z) in y) (of_degree_in n zero) (h zero))
first_degrees n h (suc d) =
    let l = of_degree_in (suc n) d in
    subst (All (λ e. degree e ≡ suc d)) (sym (ways_next n d))
    (all_append (λ e. degree e ≡ suc d) (map zero_first (of_degree_in n (suc d))) (map raised l)
    (all_mapped (λ e. degree e ≡ suc d) zero_first (of_degree_in n (suc d))
    (all_map (λ e. degree e ≡ suc d) (λ e. degree (0 ∷ e) ≡ suc d) (λ e z. let y : 0 + degree e ≡ suc d = omega (arith, z) in y) (of_degree_in n (suc d))
    (h (suc d))))
    (all_mapped (λ e. degree e ≡ suc d) raised l
    (all_map₂ (Long (suc n)) (λ e. degree e ≡ d) (λ e. degree (raised e) ≡ suc d) up l (ways_long (suc n) d) (first_degrees n h d))))
  where
    up : (e : Exponents) → Long (suc n) e → degree e ≡ d → degree (raised e) ≡ suc d
    up [] k z = absurd (omega (arith, k))
    up (x ∷ e) k z = let y : suc x + degree e ≡ suc d = omega (arith, z) in y

pub ways_degrees : (n d : ℕ) → All (λ e. degree e ≡ d) (of_degree_in n d)
ways_degrees zero zero = (refl, tt)
ways_degrees zero (suc d) = tt
ways_degrees (suc n) d = first_degrees n (ways_degrees n) d

-- ## Each once

first_all : (n : ℕ) → ((d : ℕ) (e : Exponents) → Long n e → degree e ≡ d → Member e (of_degree_in n d))
    → (d : ℕ) (e : Exponents) → Long (suc n) e → degree e ≡ d → Member e (of_degree_in (suc n) d)
first_all n h d [] k z = absurd (omega (arith, k))
first_all n h zero (zero ∷ e) k z = map_shown zero_first (of_degree_in n zero) e (h zero e (omega (arith, k)) (omega (arith, z)))
first_all n h zero (suc x ∷ e) k z = absurd (omega (arith, z))
first_all n h (suc d) (zero ∷ e) k z =
    member_left (0 ∷ e) (map zero_first (of_degree_in n (suc d))) (one_more (of_degree_in (suc n) d))
    (map_shown zero_first (of_degree_in n (suc d)) e (h (suc d) e (omega (arith, k)) (omega (arith, z))))
first_all n h (suc d) (suc x ∷ e) k z =
    subst (Member (suc x ∷ e)) (sym (ways_next n d))
    (member_right (suc x ∷ e) (map zero_first (of_degree_in n (suc d))) (map raised (of_degree_in (suc n) d))
    (map_shown raised (of_degree_in (suc n) d) (x ∷ e) (first_all n h d (x ∷ e) k (omega (arith, z)))))

pub ways_all : (n d : ℕ) (e : Exponents) → Long n e → degree e ≡ d → Member e (of_degree_in n d)
ways_all zero zero [] k z = inl refl
ways_all zero (suc d) [] k z = absurd (omega (arith, z))
ways_all zero d (x ∷ e) k z = absurd (omega (arith, k))
ways_all (suc n) d e k z = first_all n (ways_all n) d e k z

raised_apart : (n : ℕ) (a b : Exponents) → Long (suc n) a → Long (suc n) b → raised a ≡ raised b → a ≡ b
raised_apart n [] b h k e = absurd (omega (arith, h))
raised_apart n (x ∷ a) [] h k e = absurd (omega (arith, k))
raised_apart n (x ∷ a) (y ∷ b) h k e =
    let z : suc x ≡ suc y = head-eq_of_cons-eq e in
    let same : x ≡ y = omega (arith, z) in
    ap₂ (λ u v. u ∷ v) same (tail-eq_of_cons-eq e)

zero_apart : (a b : Exponents) → Unit {0} → Unit {0} → zero_first a ≡ zero_first b → a ≡ b
zero_apart a b h k e = tail-eq_of_cons-eq e

no_matter : (l : List Exponents) → All (λ e. Unit {0}) l
no_matter [] = tt
no_matter (e ∷ l) = (tt, no_matter l)

first_distinct : (n : ℕ) → ((d : ℕ) → Distinct (of_degree_in n d)) → (d : ℕ) → Distinct (of_degree_in (suc n) d)
first_distinct n h zero = distinct_map (λ e. Unit {0}) zero_first zero_apart (of_degree_in n zero) (no_matter (of_degree_in n zero)) (h zero)
first_distinct n h (suc d) =
    let l = of_degree_in (suc n) d in
    subst Distinct (sym (ways_next n d))
    (distinct_append (map zero_first (of_degree_in n (suc d))) (map raised l)
    (distinct_map (λ e. Unit {0}) zero_first zero_apart (of_degree_in n (suc d)) (no_matter (of_degree_in n (suc d))) (h (suc d)))
    (distinct_map (Long (suc n)) raised (raised_apart n) l (ways_long (suc n) d) (first_distinct n h d)) apart)
  where
    differ : (a e : Exponents) → Long (suc n) e → 0 ∷ a ≡ raised e → ⊥
    differ a [] k z = omega (arith, k)
    differ a (x ∷ e) k z = let y : 0 ≡ suc x = head-eq_of_cons-eq z in omega (arith, y)

    apart : (e : Exponents) → Member e (map zero_first (of_degree_in n (suc d))) → ¬ (Member e (map raised (of_degree_in (suc n) d)))
    apart e i j =
        let (a, u, x) = map_says zero_first (of_degree_in n (suc d)) e i in
        let (b, v, y) = map_says raised (of_degree_in (suc n) d) e j in
        differ a b (all_member (Long (suc n)) (of_degree_in (suc n) d) (ways_long (suc n) d) b v) (sym x ∙ y)

pub ways_distinct : (n d : ℕ) → Distinct (of_degree_in n d)
ways_distinct zero zero = (λ m. m, tt)
ways_distinct zero (suc d) = tt
ways_distinct (suc n) d = first_distinct n (ways_distinct n) d

-- exactly the lists of n exponents with the sum d, each once
pub ways_right : (n d : ℕ) → ListsEach (λ e. Long n e × (degree e ≡ d)) (of_degree_in n d)
ways_right n d = record {
  all = λ e h. ways_all n d e h.0 h.1;
  only = λ e m. (all_member (Long n) (of_degree_in n d) (ways_long n d) e m, all_member (λ e. degree e ≡ d) (of_degree_in n d) (ways_degrees n d) e m);
  once = ways_distinct n d;
}
