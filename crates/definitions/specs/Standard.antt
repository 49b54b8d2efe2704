-- What A13's theorem counts: "the number of monomials of that degree, components' degrees included, that no leading monomial of the basis divides"
use Rattle.std.specs.Prelude.{true, false, not, List, [], ◌∷◌, ◌++◌, ℕ, zero, suc, ◌-◌, leb, replicate}
use Rattle.definitions.specs.Lists.{any, those, map, from}
use Rattle.definitions.specs.Monomial.{Exponents, Monomial, Level, divides_monomial?, leading_monomials}
use Rattle.definitions.specs.Problem.{Parameters}
use Rattle.definitions.specs.Degrees.{component_degree}
use Rattle.definitions.specs.Places.{exponents_length}

-- the first exponent raised by one
abbrev pub one_more : List Exponents → List Exponents
one_more [] = []
one_more ([] ∷ l) = one_more l
one_more ((x ∷ e) ∷ l) = (suc x ∷ e) ∷ one_more l

-- all ways to write d as a sum of n exponents: the first one 0, or one more than in a way to write d − 1
abbrev pub of_degree_in : ℕ → ℕ → List Exponents
of_degree_in zero zero = [] ∷ []
of_degree_in zero (suc d) = []
of_degree_in (suc n) zero = map (λ e. 0 ∷ e) (of_degree_in n zero)
of_degree_in (suc n) (suc d) = map (λ e. 0 ∷ e) (of_degree_in n (suc d)) ++ one_more (of_degree_in (suc n) d)

-- the monomials of component i and of degree d, the component's own counted in
abbrev pub in_component : ℕ → List ℕ → ℕ → ℕ → List Monomial
in_component n degrees d i = elim (leb (component_degree degrees i) d) [
  | true ↦ map (λ e. (e ++ replicate (exponents_length - n) 0, i)) (of_degree_in n (d - component_degree degrees i))
  | false ↦ []
]

abbrev pub in_components : ℕ → List ℕ → ℕ → List ℕ → List Monomial
in_components n degrees d [] = []
in_components n degrees d (i ∷ is) = in_component n degrees d i ++ in_components n degrees d is

-- the monomials of degree d that no leading monomial of the elements divides
abbrev pub standard : Parameters → Level → ℕ → List Monomial
standard q f d = those (λ m. not (any (λ l. divides_monomial? l m) (leading_monomials f))) (in_components q.n q.degrees d (from 1 q.s))
