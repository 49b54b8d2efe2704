-- Degrees of elements and vectors (request A5), the components' included.
use Rattle.std.specs.Prelude.{List, [], ◌∷◌, ℕ, zero, suc, ◌+◌, get_or}
use Rattle.definitions.specs.Monomial.{Monomial, Vector, Level, degree, leading}
use Rattle.definitions.specs.Order.{image}

-- d_i of d_1, d_2, ..
abbrev pub component_degree : List ℕ → ℕ → ℕ
component_degree d zero = 0
component_degree d (suc i) = get_or d i 0

-- "A term's degree is then its monomial's total degree plus its component's"
abbrev pub degree_by : List ℕ → Monomial → ℕ
degree_by d m = degree m.0 + component_degree d m.1

-- the image in level 0's free module of a monomial over the levels below it, the highest first
abbrev pub image_over : List Level → Monomial → Monomial
image_over [] m = m
image_over (f ∷ below) m = image_over below (image f m)

-- "at every level the carried degree is the degree of its leading term's image"
abbrev pub degree_of : List ℕ → List Level → Vector → ℕ
degree_of d below v = degree_by d (image_over below (leading v))

abbrev pub degrees_of : List ℕ → List Level → Level → List ℕ
degrees_of d below [] = []
degrees_of d below (v ∷ f) = degree_of d below v ∷ degrees_of d below f

-- "Each element and vector carries its degree in its record from the reading on": level by level, the highest first
abbrev pub carried : List ℕ → List Level → List (List ℕ)
carried d [] = []
carried d (f ∷ below) = degrees_of d below f ∷ carried d below
