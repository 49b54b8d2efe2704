-- Exponents: the definitions' lists of eight, zero past n, are the theory's exponents of n variables.
use mathlib.Core.Path.{◌≡◌, refl, sym, ap, ap₂, ◌∙◌, subst}
use mathlib.Core.Bool.{Bool}
use mathlib.Core.List.{[], ◌∷◌}
use Prim.Native.Nat.{ℕ, zero, suc, ◌+◌, ◌-◌, ◌≤◌, max}
use native.Mathlib.Omega.{arith}
use lib.Dec.{T, leb, eqb, leb→le, le→leb, eqb→eq, eqb_refl}
use lib.ListN.{length, drop, replicate, length-replicate}
use Rattle.theory.specs.Orders.{ExpM, deg}
use Rattle.definitions.specs.Lists.{sum, every}
use Rattle.definitions.specs.Monomial.{Exponents, product, quotient, lcm, divides?, fits?, same_exponents?}
use Rattle.laws.proofs.Tests.{and_left, and_right, and_both}

abbrev pub E : ℕ → Type 0
E n = (ExpM n).E

abbrev pub zeros : ℕ → Exponents
zeros k = replicate k 0

-- the exponents in front of z
abbrev pub onto : (n : ℕ) → E n → Exponents → Exponents
onto zero a z = z
onto (suc n) a z = a.0 ∷ onto n a.1 z

-- the list of eight
abbrev pub out : (n : ℕ) → E n → Exponents
out n a = onto n a (zeros (8 - n))

-- ## Product, quotient and degree

zeros_product : (k : ℕ) → product (zeros k) (zeros k) ≡ zeros k
zeros_product zero = refl
zeros_product (suc k) = ap (λ z. 0 ∷ z) (zeros_product k)

onto_product : (n : ℕ) (a b : E n) (z : Exponents) → product (onto n a z) (onto n b z) ≡ onto n ((ExpM n).mulE a b) (product z z)
onto_product zero a b z = refl
onto_product (suc n) a b z = ap (λ y. (a.0 + b.0) ∷ y) (onto_product n a.1 b.1 z)

pub product_out : (n : ℕ) (a b : E n) → product (out n a) (out n b) ≡ out n ((ExpM n).mulE a b)
product_out n a b = onto_product n a b (zeros (8 - n)) ∙ ap (onto n ((ExpM n).mulE a b)) (zeros_product (8 - n))

-- b / a, where a divides b
abbrev pub over : (n : ℕ) → E n → E n → E n
over zero b a = tt
over (suc n) b a = (b.0 - a.0, over n b.1 a.1)

zeros_quotient : (k : ℕ) → quotient (zeros k) (zeros k) ≡ zeros k
zeros_quotient zero = refl
zeros_quotient (suc k) = ap (λ z. 0 ∷ z) (zeros_quotient k)

onto_quotient : (n : ℕ) (b a : E n) (z : Exponents) → quotient (onto n b z) (onto n a z) ≡ onto n (over n b a) (quotient z z)
onto_quotient zero b a z = refl
onto_quotient (suc n) b a z = ap (λ y. (b.0 - a.0) ∷ y) (onto_quotient n b.1 a.1 z)

pub quotient_out : (n : ℕ) (b a : E n) → quotient (out n b) (out n a) ≡ out n (over n b a)
quotient_out n b a = onto_quotient n b a (zeros (8 - n)) ∙ ap (onto n (over n b a)) (zeros_quotient (8 - n))

zeros_sum : (k : ℕ) → sum (zeros k) ≡ 0
zeros_sum zero = refl
zeros_sum (suc k) = ap (λ z. 0 + z) (zeros_sum k)

onto_degree : (n : ℕ) (a : E n) (z : Exponents) → sum z ≡ 0 → sum (onto n a z) ≡ deg n a
onto_degree zero a z e = e
onto_degree (suc n) a z e = ap (λ y. a.0 + y) (onto_degree n a.1 z e)

pub degree_out : (n : ℕ) (a : E n) → sum (out n a) ≡ deg n a
degree_out n a = onto_degree n a (zeros (8 - n)) (zeros_sum (8 - n))

-- ## Divisibility

pub divides_refl : (z : Exponents) → T (divides? z z)
divides_refl [] = tt
divides_refl (x ∷ z) = and_both (leb x x) (divides? z z) (le→leb x x (omega arith)) (divides_refl z)

onto_divides : (n : ℕ) (a b : E n) (z : Exponents) → T (divides? (onto n a z) (onto n b z)) → (ExpM n).mulE (over n b a) a ≡ b
onto_divides zero a b z t = refl
onto_divides (suc n) a b z t =
    let l : a.0 ≤ b.0 = leb→le a.0 b.0 (and_left (leb a.0 b.0) (divides? (onto n a.1 z) (onto n b.1 z)) t) in
    let e : b.0 - a.0 + a.0 ≡ b.0 = omega arith in
    λ i. (e i, onto_divides n a.1 b.1 z (and_right (leb a.0 b.0) (divides? (onto n a.1 z) (onto n b.1 z)) t) i)

-- where a divides b, b / a times a is b
pub divides_out : (n : ℕ) (a b : E n) → T (divides? (out n a) (out n b)) → (ExpM n).mulE (over n b a) a ≡ b
divides_out n a b t = onto_divides n a b (zeros (8 - n)) t

onto_multiple : (n : ℕ) (q a : E n) (z : Exponents) → T (divides? (onto n a z) (onto n ((ExpM n).mulE q a) z))
onto_multiple zero q a z = divides_refl z
onto_multiple (suc n) q a z =
    and_both (leb a.0 (q.0 + a.0)) (divides? (onto n a.1 z) (onto n ((ExpM n).mulE q.1 a.1) z)) (le→leb a.0 (q.0 + a.0) (omega arith))
    (onto_multiple n q.1 a.1 z)

-- a divides its multiples
pub multiple_out : (n : ℕ) (q a b : E n) → (ExpM n).mulE q a ≡ b → T (divides? (out n a) (out n b))
multiple_out n q a b e = subst (λ z. T (divides? (out n a) (out n z))) e (onto_multiple n q a (zeros (8 - n)))

-- ## The limit

onto_fits : (limit n : ℕ) (q a : E n) (z : Exponents) → T (fits? limit (onto n ((ExpM n).mulE q a) z)) → T (fits? limit (onto n q z))
onto_fits limit zero q a z t = t
onto_fits limit (suc n) q a z t =
    let rest : Bool = fits? limit (onto n ((ExpM n).mulE q.1 a.1) z) in
    let l : q.0 + a.0 ≤ limit = leb→le (q.0 + a.0) limit (and_left (leb (q.0 + a.0) limit) rest t) in
    and_both (leb q.0 limit) (fits? limit (onto n q.1 z)) (le→leb q.0 limit (omega arith))
    (onto_fits limit n q.1 a.1 z (and_right (leb (q.0 + a.0) limit) rest t))

-- a factor of what fits fits
pub factor_fits : (limit n : ℕ) (q a : E n) → T (fits? limit (out n ((ExpM n).mulE q a))) → T (fits? limit (out n q))
factor_fits limit n q a t = onto_fits limit n q a (zeros (8 - n)) t

-- lcm(a, b) / b
abbrev pub colon : (n : ℕ) → E n → E n → E n
colon zero a b = tt
colon (suc n) a b = (max a.0 b.0 - b.0, colon n a.1 b.1)

zeros_colon : (k : ℕ) → quotient (lcm (zeros k) (zeros k)) (zeros k) ≡ zeros k
zeros_colon zero = refl
zeros_colon (suc k) = ap (λ z. 0 ∷ z) (zeros_colon k)

onto_colon : (n : ℕ) (a b : E n) (z : Exponents) → quotient (lcm (onto n a z) (onto n b z)) (onto n b z) ≡ onto n (colon n a b) (quotient (lcm z z) z)
onto_colon zero a b z = refl
onto_colon (suc n) a b z = ap (λ y. (max a.0 b.0 - b.0) ∷ y) (onto_colon n a.1 b.1 z)

pub colon_out : (n : ℕ) (a b : E n) → quotient (lcm (out n a) (out n b)) (out n b) ≡ out n (colon n a b)
colon_out n a b = onto_colon n a b (zeros (8 - n)) ∙ ap (onto n (colon n a b)) (zeros_colon (8 - n))

onto_colon_fits : (limit n : ℕ) (a b : E n) (z : Exponents) → T (fits? limit (onto n a z)) → T (fits? limit (onto n (colon n a b) z))
onto_colon_fits limit zero a b z t = t
onto_colon_fits limit (suc n) a b z t =
    let l : a.0 ≤ limit = leb→le a.0 limit (and_left (leb a.0 limit) (fits? limit (onto n a.1 z)) t) in
    and_both (leb (max a.0 b.0 - b.0) limit) (fits? limit (onto n (colon n a.1 b.1) z))
    (le→leb (max a.0 b.0 - b.0) limit (omega arith))
    (onto_colon_fits limit n a.1 b.1 z (and_right (leb a.0 limit) (fits? limit (onto n a.1 z)) t))

pub colon_fits : (limit n : ℕ) (a b : E n) → T (fits? limit (out n a)) → T (fits? limit (out n (colon n a b)))
colon_fits limit n a b t = onto_colon_fits limit n a b (zeros (8 - n)) t

-- ## Equality

pub same_refl : (z : Exponents) → T (same_exponents? z z)
same_refl [] = tt
same_refl (x ∷ z) = and_both (eqb x x) (same_exponents? z z) (eqb_refl x) (same_refl z)

pub same_is : (a b : Exponents) → T (same_exponents? a b) → a ≡ b
same_is [] [] t = refl
same_is [] (y ∷ b) t = absurd t
same_is (x ∷ a) [] t = absurd t
same_is (x ∷ a) (y ∷ b) t =
    ap₂ (λ u v. u ∷ v) (eqb→eq x y (and_left (eqb x y) (same_exponents? a b) t)) (same_is a b (and_right (eqb x y) (same_exponents? a b) t))

-- ## There and back

abbrev pub into : (n : ℕ) → Exponents → E n
into zero l = tt
into (suc n) [] = (0, into n [])
into (suc n) (x ∷ l) = (x, into n l)

into_onto : (n : ℕ) (a : E n) (z : Exponents) → into n (onto n a z) ≡ a
into_onto zero a z = refl
into_onto (suc n) a z = λ i. (a.0, into_onto n a.1 z i)

pub into_out : (n : ℕ) (a : E n) → into n (out n a) ≡ a
into_out n a = into_onto n a (zeros (8 - n))

pub out_injective : (n : ℕ) (a b : E n) → out n a ≡ out n b → a ≡ b
out_injective n a b e = sym (into_out n a) ∙ ap (into n) e ∙ into_out n b

-- all zero
abbrev pub none : Exponents → Bool
none e = every (λ x. eqb x 0) e

none_zeros : (l : Exponents) → T (none l) → l ≡ zeros (length l)
none_zeros [] t = refl
none_zeros (x ∷ l) t = ap₂ (λ u v. u ∷ v) (eqb→eq x 0 (and_left (eqb x 0) (none l) t)) (none_zeros l (and_right (eqb x 0) (none l) t))

zeros_none : (k : ℕ) → T (none (zeros k))
zeros_none zero = tt
zeros_none (suc k) = zeros_none k

onto_into : (n k : ℕ) (l : Exponents) → length l ≡ n + k → T (none (drop n l)) → onto n (into n l) (zeros k) ≡ l
onto_into zero k l h t = let e : k ≡ length l = omega arith in ap zeros e ∙ sym (none_zeros l t)
onto_into (suc n) k [] h t = absurd (omega arith)
onto_into (suc n) k (x ∷ l) h t = ap (λ z. x ∷ z) (onto_into n k l (omega arith) t)

-- eight exponents, zero past n
pub out_into : (n : ℕ) → n ≤ 8 → (l : Exponents) → length l ≡ 8 → T (none (drop n l)) → out n (into n l) ≡ l
out_into n b l h t = onto_into n (8 - n) l (omega arith) t

onto_length : (n : ℕ) (a : E n) (z : Exponents) → length (onto n a z) ≡ n + length z
onto_length zero a z = omega arith
onto_length (suc n) a z = let e : length (onto n a.1 z) ≡ n + length z = onto_length n a.1 z in omega arith

pub out_length : (n : ℕ) → n ≤ 8 → (a : E n) → length (out n a) ≡ 8
out_length n b a = let e : length (zeros (8 - n)) ≡ 8 - n = length-replicate (8 - n) 0 in omega (arith, onto_length n a (zeros (8 - n)))

onto_past : (n : ℕ) (a : E n) (z : Exponents) → drop n (onto n a z) ≡ z
onto_past zero a z = refl
onto_past (suc n) a z = onto_past n a.1 z

pub out_past : (n : ℕ) (a : E n) → T (none (drop n (out n a)))
out_past n a = subst (λ z. T (none z)) (sym (onto_past n a (zeros (8 - n)))) (zeros_none (8 - n))
