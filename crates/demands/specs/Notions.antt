-- The plain notions in which the demands are told: combinations with polynomial coefficients, their sums, leading monomials, Gröbner bases.
-- Nothing here has a bound on exponents or on the number of terms.
use Rattle.std.specs.Prelude.{◌≡◌, ◌⊎◌, Bool, true, false, List, [], ◌∷◌, ◌++◌, ℕ, T, eqb, length, drop}
use Rattle.definitions.specs.Lists.{◌and◌, every, between}
use Rattle.definitions.specs.Field.{plus}
use Rattle.definitions.specs.Monomial.{Exponents, Monomial, Term, Vector, Level, same_monomial?, divides_monomial?, leading, vector_of}
use Rattle.definitions.specs.Order.{Comparison, smaller, compare_over}
use Rattle.definitions.specs.Run.{multiple}
use Rattle.definitions.specs.Problem.{Parameters}

-- ## Combinations

-- "Coefficients of combinations in demands 2 and 3 are polynomials without a degree limit": a combination of f_1 .. f_r is written as a list
-- of terms over e_1 .. e_r, in any order, equal monomials as often as one likes, the coefficients any numbers. Each term has eight exponents,
-- zero past n, and a component from 1 to r.
abbrev pub proper_term? : Parameters → ℕ → Term → Bool
proper_term? q r t = eqb (length t.1.0) 8 and every (λ x. eqb x 0) (drop q.n t.1.0) and between 1 t.1.1 r

abbrev pub proper? : Parameters → ℕ → Vector → Bool
proper? q r c = every (proper_term? q r) c

-- c·q·f, term by term
abbrev pub multiples : ℕ → ℕ → Exponents → Vector → Vector
multiples p c q [] = []
multiples p c q (t ∷ f) = multiple p c q t ∷ multiples p c q f

-- "with f_j put for each e_j": the combination, equal monomials not yet collected
abbrev pub put_for : ℕ → Level → Vector → Vector
put_for p f [] = []
put_for p f (t ∷ c) = multiples p t.0 t.1.0 (vector_of f t.1.1) ++ put_for p f c

-- ## Equality

-- the coefficient at a monomial, equal monomials collected, modulo p
abbrev pub coefficient : ℕ → Monomial → Vector → ℕ
coefficient p m [] = 0
coefficient p m (t ∷ v) = elim (same_monomial? t.1 m) [ true ↦ plus p t.0 (coefficient p m v) | false ↦ coefficient p m v ]

-- equal vectors: equal coefficients at every monomial
abbrev pub Equal : ℕ → Vector → Vector → Type 0
Equal p v w = (m : Monomial) → coefficient p m v ≡ coefficient p m w

-- "sums to zero"
abbrev pub Zero : ℕ → Vector → Type 0
Zero p v = Equal p v []

-- c is a combination of the vectors of the level s
pub record Combination (q : Parameters) (s : Level) (c : Vector) : Type 0 where
  pub by : Vector
  pub proper : T (proper? q (length s) by)
  pub is : Equal q.p c (put_for q.p s by)

-- "A syzygy .. sums to zero with f_j put for each e_j"
abbrev pub Syzygy : Parameters → Level → Vector → Type 0
Syzygy q f c = T (proper? q (length f) c) × Zero q.p (put_for q.p f c)

-- ## Leading monomials and Gröbner bases

-- m is the leading monomial of v: its coefficient is not zero, and each other monomial whose coefficient is not zero is smaller
pub record Leads (order : Monomial → Monomial → Comparison) (p : ℕ) (m : Monomial) (v : Vector) : Type 0 where
  pub there : ¬ (coefficient p m v ≡ 0)
  pub others : (m' : Monomial) → ¬ (coefficient p m' v ≡ 0) → (order m' m ≡ smaller) ⊎ (m' ≡ m)

-- some LM f_i divides m
pub record Divided (f : Level) (m : Monomial) : Type 0 where
  pub i : ℕ
  pub in_range : T (between 1 i (length f))
  pub divides : T (divides_monomial? (leading (vector_of f i)) m)

-- m is the leading monomial of a combination of f, in the order over the levels below f (none for the file's basis)
pub record LedBy (q : Parameters) (below : List Level) (f : Level) (m : Monomial) : Type 0 where
  pub by : Vector
  pub proper : T (proper? q (length f) by)
  pub leads : Leads (compare_over q.code below) q.p m (put_for q.p f by)

-- "A Gröbner basis is one where the leading monomial of every non-zero combination of f_1..f_r is divisible by some LM f_i"
abbrev pub GröbnerBasis : Parameters → List Level → Level → Type 0
GröbnerBasis q below f = (m : Monomial) → LedBy q below f m → Divided f m

-- Doc 000's words: the leading module is spanned by the leading monomials of all non-zero combinations of f ..
abbrev pub AllLed : Parameters → List Level → Level → Level → Type 0
AllLed q below f [] = Unit {0}
AllLed q below f (v ∷ s) = ((m : Monomial) × LedBy q below f m × (v ≡ (1, m) ∷ [])) × AllLed q below f s

-- LM f_1 .. LM f_r, each as a vector
abbrev pub leading_vectors : Level → Level
leading_vectors [] = []
leading_vectors (v ∷ f) = ((1, leading v) ∷ []) ∷ leading_vectors f

-- .. and LM f_1 .. LM f_r generate it
abbrev pub LeadingGenerated : Parameters → List Level → Level → Type 0
LeadingGenerated q below f = (s : Level) → AllLed q below f s → (v : Vector) → Combination q s v → Combination q (leading_vectors f) v

-- ## Lists

-- a is one of the list
abbrev pub Member : {A : Type 0} → A → List A → Type 0
Member a [] = ⊥
Member a (b ∷ l) = (a ≡ b) ⊎ Member a l
