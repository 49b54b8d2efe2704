-- The generators of each column of A1's page, as monomials of level 0's free module.
use Rattle.std.specs.Prelude.{List, [], ◌∷◌, reverse, replicate}
use Rattle.definitions.specs.Lists.{map, from}
use Rattle.definitions.specs.Monomial.{Monomial, Level, leading}
use Rattle.definitions.specs.State.{State}
use Rattle.definitions.specs.Degrees.{image_over}
use Rattle.definitions.specs.Places.{exponents_length}

-- the image of each vector's leading term, level by level, the highest first
abbrev pub images : List Level → List (List Monomial)
images [] = []
images (f ∷ below) = map (λ v. image_over below (leading v)) f ∷ images below

-- "Column 0 counts components, column 1 the elements, column k + 1 the vectors of level k."
abbrev pub columns : State → List (List Monomial)
columns X = map (λ i. (replicate exponents_length 0, i)) (from 1 X.parameters.s) ∷ reverse (images X.levels)
