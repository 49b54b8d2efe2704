-- An element's number, if there is one; terms compared by one number each.
use Rattle.std.specs.Prelude.{Bool, List, ℕ, eqb, Option as CodeOption, Some, None}
use Rattle.std.proofs.Math.Option.{Option, none, some}
use Rattle.definitions.specs.Monomial.{Monomial}
use Rattle.definitions.specs.Bidegrees.{degree_weighted, bidegree, same_bidegree?}

-- an optional number of the code as one of the definitions
abbrev pub place_of : CodeOption ℕ → Option ℕ
place_of None = none
place_of (Some i) = some i

-- the same number for both
abbrev pub same_by : (Monomial → ℕ) → Monomial → Monomial → Bool
same_by g m m' = eqb (g m) (g m')

-- the same key
abbrev pub same_key? : List ℕ → List ℕ → Monomial → Monomial → Bool
same_key? kw d = same_by (degree_weighted kw d)

-- the same bidegree
abbrev pub same_bidegrees? : List (ℕ × ℕ) → List ℕ → Monomial → Monomial → Bool
same_bidegrees? ws d m m' = same_bidegree? (bidegree ws d m) (bidegree ws d m')
