-- The constants of all degrees of a level in one matrix, and the marks of a column's generators by degree.
use Rattle.std.specs.Prelude.{true, false, List, [], ◌∷◌, ℕ, zero, suc, eqb, length, get_or, replicate}
use Rattle.definitions.specs.Lists.{sum}
use Rattle.definitions.specs.Monomial.{Vector, Level}
use Rattle.definitions.specs.State.{State}
use Rattle.definitions.specs.Rank.{Row, Matrix}
use Rattle.definitions.specs.Minimal.{constant, of_degree, vectors_at}
use Rattle.ranks.specs.Elimination.{marks}

-- the coefficient of 1·e_j where e_j has the vector's degree, else 0
abbrev pub kept : ℕ → ℕ → ℕ → ℕ
kept e d x = elim (eqb e d) [ true ↦ x | false ↦ 0 ]

-- the row of a vector of degree d: a number for each generator of the column below, of degrees es, the first being the j-th
abbrev pub row_from : ℕ → List ℕ → ℕ → Vector → Row
row_from j [] d v = []
row_from j (e ∷ es) d v = kept e d (constant v j) ∷ row_from (suc j) es d v

-- the matrix of a level's vectors, of degrees ds
abbrev pub whole : List ℕ → List ℕ → Level → Matrix
whole es [] f = []
whole es (d ∷ ds) [] = []
whole es (d ∷ ds) (v ∷ f) = row_from 1 es d v ∷ whole es ds f

-- the marks of column c's generators: those of the rows of the matrix that leaves it; none leaves column 0
abbrev pub column_marks : State → List (List ℕ) → ℕ → List ℕ
column_marks X degrees zero = replicate (length (get_or degrees 0 [])) 0
column_marks X degrees (suc c) = marks X.parameters.p (whole (get_or degrees c []) (get_or degrees (suc c) []) (vectors_at X c))

-- how many of column c are marked of those whose degrees, each row-shift more, are t
abbrev pub marked : State → List (List ℕ) → ℕ → ℕ → ℕ
marked X degrees t c = sum (of_degree t (get_or degrees c []) (column_marks X degrees c))
