-- A number of a run's working value that falls with every step: for the measures of loops. It is never computed, and stays shut.
use Rattle.std.specs.Prelude.{Bool, true, false, List, [], ◌∷◌, ◌++◌, map, ℕ, zero, suc, ◌+◌, length}
use Rattle.definitions.specs.Lists.{rest}
use Rattle.definitions.specs.Monomial.{Exponents, Monomial, Vector, Level, product, fits?, vector_of}
use Rattle.definitions.specs.Reducer.{Answer, reducer, lower_order, answer}

-- ## Monomials, as many as matter

-- x before each of the lists, for x = 0 .. b − 1
unfoldable pub with_first : ℕ → List Exponents → List Exponents
with_first zero l = []
with_first (suc b) l = map (λ e. b ∷ e) l ++ with_first b l

-- all lists of n exponents of 0 .. b
unfoldable pub exponents_to : ℕ → ℕ → List Exponents
exponents_to b zero = [] ∷ []
exponents_to b (suc n) = with_first (suc b) (exponents_to b n)

unfoldable pub all_exponents : List Exponents
all_exponents = exponents_to 255 8

-- eight exponents up to 255, with each component that a term of the vector has
unfoldable pub all_of : Vector → List Monomial
all_of [] = []
all_of (t ∷ v) = map (λ e. (e, t.1.1)) all_exponents ++ all_of v

-- .. that a term of the level has
unfoldable pub all_monomials : Level → List Monomial
all_monomials [] = []
all_monomials (v ∷ f) = all_of v ++ all_monomials f

-- ## The cost of a monomial

-- h of the terms of v, summed
abbrev pub total : (Monomial → ℕ) → Vector → ℕ
total h [] = 0
total h (t ∷ v) = h t.1 + total h v

-- h of the products of q and the terms of f, summed
abbrev pub total_products : (Monomial → ℕ) → Exponents → Vector → ℕ
total_products h q [] = 0
total_products h q (t ∷ f) = h (product q t.1.0, t.1.1) + total_products h q f

-- one more than the reducer's other products; 1 where there is no reducer. A monomial with an exponent above 255 costs nothing: its product
-- is refused with 13
abbrev pub worth : (Monomial → ℕ) → Level → Bool → Answer → ℕ
worth h f false a = 0
worth h f true (reducer j c q) = suc (total_products h q (rest (vector_of f j)))
worth h f true lower_order = 1

-- the steps that a term with this monomial can cost; the first argument bounds the depth
unfoldable pub cost : ℕ → ℕ → Vector → Level → Monomial → ℕ
cost zero p heads f m = 0
cost (suc k) p heads f m = worth (cost k p heads f) f (fits? 255 m.0) (answer p heads (1, m))

-- a depth that suffices
unfoldable pub many : Level → ℕ
many f = suc (length (all_monomials f))

-- the steps that a working value can cost: p, the heads and the family of the reduction, the value
unfoldable pub spent : ℕ → Vector → Level → Vector → ℕ
spent p heads f v = total (cost (many f) p heads f) v
