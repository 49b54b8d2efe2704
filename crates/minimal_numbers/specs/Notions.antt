-- Plain notions for request A7: the generators of one degree of a column, and the matrices of constants between neighbouring columns.
use Rattle.std.specs.Prelude.{List, [], ℕ, zero, suc, eqb}
use Rattle.definitions.specs.Lists.{those, map, from}
use Rattle.definitions.specs.Monomial.{Level, unit, vector_of}
use Rattle.definitions.specs.Problem.{Parameters}
use Rattle.definitions.specs.Degrees.{component_degree, degree_of}
use Rattle.definitions.specs.Rank.{Matrix}
use Rattle.demands.specs.Notions.{coefficient}
use Rattle.degrees.specs.Notions.{levels_below}
use Rattle.betti.specs.Notions.{listed_level, all_generators}

-- the degree of generator i of column c, counted from 1; levels are held highest first
abbrev pub degree_in : Parameters → List Level → ℕ → ℕ → ℕ
degree_in q levels zero i = component_degree q.degrees i
degree_in q levels (suc k) i = degree_of q.degrees (levels_below levels k) (vector_of (listed_level levels k) i)

-- the numbers of those of degree x
abbrev pub numbers_of : Parameters → List Level → ℕ → ℕ → List ℕ
numbers_of q levels c x = those (λ i. eqb (degree_in q levels c i) x) (from 1 (all_generators q levels c))

-- "For each degree, take the matrix of constant coefficients between generators of that degree in neighbouring columns": the one between columns c + 1
-- and c. It has a row for each generator of column c + 1, which is a vector of level c; there, for each e_j of column c, its coefficient at 1·e_j
abbrev pub entering : Parameters → List Level → ℕ → ℕ → Matrix
entering q levels c x =
    map (λ i. map (λ j. coefficient q.p (unit, j) (vector_of (listed_level levels c) i)) (numbers_of q levels c x)) (numbers_of q levels (suc c) x)

-- it leaves column c + 1; none leaves column 0
abbrev pub leaving : Parameters → List Level → ℕ → ℕ → Matrix
leaving q levels zero x = []
leaving q levels (suc c) x = entering q levels c x
