-- The state between calls.
use Rattle.std.specs.Prelude.{Bool, false, List, [], ◌∷◌, ℕ, suc, ◌-◌, leb, ltb, eqb, length, drop}
use Rattle.definitions.specs.Limits.{Limits}
use Rattle.definitions.specs.Lists.{◌and◌, every, sum, between}
use Rattle.definitions.specs.Monomial.{Exponents, Term, Vector, Level, fits?}
use Rattle.definitions.specs.Order.{compare_over}
use Rattle.definitions.specs.Vectors.{strictly_descending?}
use Rattle.definitions.specs.Places.{most_degree}
use Rattle.definitions.specs.Problem.{Parameters, in_ranges?, prime_in_range?}

pub record State : Type 0 where
  pub parameters : Parameters
  -- the complete levels, the highest first; none: no basis
  pub levels : List Level

-- "the state is empty"
abbrev pub empty : State
empty = record { parameters = record { p = 0; n = 0; code = 0; s = 0; degrees = [] }; levels = [] }

-- level k is complete
abbrev pub has_level? : State → ℕ → Bool
has_level? X k = ltb k (length X.levels)

-- levels 0 to k, of a state that has level k
abbrev pub up_to : State → ℕ → List Level
up_to X k = drop (length X.levels - suc k) X.levels

-- eight exponents in range, "exponents past n are zero"
abbrev pub exponents_sound? : Limits → ℕ → Exponents → Bool
exponents_sound? lim n e = eqb (length e) 8 and fits? lim.exponent e and every (λ x. eqb x 0) (drop n e)

-- a term of a module with so many components
abbrev pub term_sound? : Limits → Parameters → ℕ → Term → Bool
term_sound? lim q components t = between 1 t.0 (q.p - 1) and between 1 t.1.1 components and exponents_sound? lim q.n t.1.0

-- a vector of at most so many terms, not "empty or not strictly descending", over the levels below
abbrev pub vector_sound? : Limits → Parameters → ℕ → ℕ → List Level → Vector → Bool
vector_sound? lim q components most below v =
    between 1 (length v) most and every (term_sound? lim q components) v and strictly_descending? (compare_over q.code below) v

abbrev pub lengths : Level → List ℕ
lengths [] = []
lengths (v ∷ f) = length v ∷ lengths f

-- how many terms a level has
abbrev pub terms_of : Level → ℕ
terms_of f = sum (lengths f)

-- "r elements, 1 to 64", "2,048 T lines"; "128 vectors and 2,048 terms in a level above 0"
abbrev pub levels_sound? : Limits → Parameters → List Level → Bool
levels_sound? lim q [] = false
levels_sound? lim q (f ∷ []) = between 1 (length f) lim.elements and leb (terms_of f) lim.t_lines
    and every (vector_sound? lim q q.s lim.t_lines []) f
levels_sound? lim q (f ∷ g ∷ below) =
    levels_sound? lim q (g ∷ below) and leb (length f) lim.vectors and leb (terms_of f) lim.level_terms and
    every (vector_sound? lim q (length g) lim.vector (g ∷ below)) f

-- a degree for each component, "each 0 to 255" (A5)
abbrev pub degrees_sound? : Parameters → Bool
degrees_sound? q = eqb (length q.degrees) q.s and fits? most_degree q.degrees

-- "A state with a number out of its range, or with an element or vector that is empty or not strictly descending, counts as no accepted basis (11)"
abbrev pub sound? : Limits → State → Bool
sound? lim X =
    prime_in_range? lim X.parameters.p and in_ranges? lim X.parameters and degrees_sound? X.parameters and
    leb (length X.levels) (suc lim.levels) and levels_sound? lim X.parameters X.levels
