-- "Terms and orders" as relations, sentence by sentence: nothing here compares by a function.
use Rattle.std.specs.Prelude.{◌≡◌, ◌⊎◌, List, [], ◌∷◌, ℕ, ◌<◌, get_or}
use Rattle.definitions.specs.Monomial.{Exponents, Monomial, Vector, Level, degree, product}
use Rattle.definitions.specs.Order.{image}

-- exponent j, counted from 0; behind the last there are zeros
abbrev pub exponent : Exponents → ℕ → ℕ
exponent a j = get_or a j 0

-- "lexicographic", "x1 is the greatest variable": the first differing exponent is larger
pub record FirstLarger (a b : Exponents) : Type 0 where
  pub place : ℕ
  pub before : (j : ℕ) → j < place → exponent a j ≡ exponent b j
  pub larger : exponent b place < exponent a place

-- "the last differing exponent decides and the smaller one there is greater"
pub record LastSmaller (a b : Exponents) : Type 0 where
  pub place : ℕ
  pub behind : (j : ℕ) → place < j → exponent a j ≡ exponent b j
  pub less : exponent a place < exponent b place

-- "higher total degree is greater; at equal degree, .."
abbrev pub ByDegree : (Exponents → Exponents → Type 0) → Exponents → Exponents → Type 0
ByDegree Over a b = (degree b < degree a) ⊎ ((degree a ≡ degree b) × Over a b)

-- "The order code is 1 for lexicographic, 2 for degree then lexicographic, 3 for degree reverse lexicographic."
abbrev pub ExponentsAbove : ℕ → Exponents → Exponents → Type 0
ExponentsAbove code a b = ((code ≡ 1) × FirstLarger a b) ⊎ (((code ≡ 2) × ByDegree FirstLarger a b) ⊎ ((code ≡ 3) × ByDegree LastSmaller a b))

-- m is above m' in the module over the levels below it, the highest of them first.
-- No level below: "On level 0's free module monomials are compared first; at a tie the larger component is greater."
-- Else "m·e_i is above m'·e_j if the leading monomial of m·f_i is above that of m'·f_j, or they are equal and i > j."
abbrev pub Above : ℕ → List Level → Monomial → Monomial → Type 0
Above code [] m m' = ExponentsAbove code m.0 m'.0 ⊎ ((m.0 ≡ m'.0) × (m'.1 < m.1))
Above code (f ∷ below) m m' = Above code below (image f m) (image f m') ⊎ ((image f m ≡ image f m') × (m'.1 < m.1))

-- ## "the leading monomial of m·f_i"

abbrev pub Member : Monomial → List Monomial → Type 0
Member x [] = ⊥
Member x (y ∷ ms) = (x ≡ y) ⊎ Member x ms

-- the monomials of m·v
abbrev pub multiplied : Exponents → Vector → List Monomial
multiplied e [] = []
multiplied e (t ∷ v) = (product e t.1.0, t.1.1) ∷ multiplied e v

-- x is one of the monomials, and above all others
pub record GreatestOf (code : ℕ) (below : List Level) (ms : List Monomial) (x : Monomial) : Type 0 where
  pub one : Member x ms
  pub above : (y : Monomial) → Member y ms → (y ≡ x) ⊎ Above code below x y
