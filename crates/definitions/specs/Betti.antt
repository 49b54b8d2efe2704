-- "A1. Betti page."
use Rattle.std.specs.Prelude.{Bool, true, false, not, List, [], ◌∷◌, ◌++◌, reverse, ℕ, suc, ◌+◌, ◌-◌, max, min, eqb, get_or}
use Rattle.std.proofs.Math.Option.{Option, none, some}
use Rattle.definitions.specs.Limits.{Limits}
use Rattle.definitions.specs.Lists.{any, count, map, from}
use Rattle.definitions.specs.Monomial.{Monomial, Vector, Level}
use Rattle.definitions.specs.Result.{Result, done, refused, ◌>>=◌}
use Rattle.definitions.specs.Problem.{Bytes}
use Rattle.definitions.specs.State.{State}
use Rattle.definitions.specs.Stage.{highest}
use Rattle.definitions.specs.Degrees.{degree_by, carried}
use Rattle.definitions.specs.Places.{row_shift}
use Rattle.definitions.specs.Program.{lifted, program}
use Rattle.definitions.specs.Pages.{page}

-- ## Homogeneous

-- "some element has terms of two degrees": a term's differs from the first one's
abbrev pub mixed? : (Monomial → Monomial → Bool) → Vector → Bool
mixed? same? [] = false
mixed? same? (t ∷ v) = any (λ u. not (same? t.1 u.1)) v

-- the number of the first such element, from element i on
abbrev pub first_mixed : (Monomial → Monomial → Bool) → ℕ → Level → Option ℕ
first_mixed same? i [] = none
first_mixed same? i (f ∷ fs) = elim (mixed? same? f) [ true ↦ some i | false ↦ first_mixed same? (suc i) fs ]

-- "with the first such element as place"
abbrev pub unless_mixed : Option ℕ → ℕ → Result (Unit {0})
unless_mixed none number = done tt
unless_mixed (some i) number = refused number i []

abbrev pub same_degree? : List ℕ → Monomial → Monomial → Bool
same_degree? d m m' = eqb (degree_by d m) (degree_by d m')

-- 17: "when some element has terms of two degrees"
abbrev pub homogeneous : State → Result (Unit {0})
homogeneous X = unless_mixed (first_mixed (same_degree? X.parameters.degrees) 1 (highest X.levels)) 17

-- ## The counts

-- "Column 0 counts components, column 1 the elements, column k + 1 the vectors of level k.": the degrees of each
abbrev pub column_degrees : State → List (List ℕ)
column_degrees X = X.parameters.degrees ∷ reverse (carried X.parameters.degrees X.levels)

-- the row of each, of the columns from c on: "The row is the degree minus the column", counted from −10
abbrev pub rows_in_use : ℕ → List (List ℕ) → List ℕ
rows_in_use c [] = []
rows_in_use c (ds ∷ columns) = map (λ d. d + row_shift - c) ds ++ rows_in_use (suc c) columns

abbrev pub smallest : ℕ → List ℕ → ℕ
smallest a [] = a
smallest a (b ∷ l) = smallest (min a b) l

abbrev pub largest : ℕ → List ℕ → ℕ
largest a [] = a
largest a (b ∷ l) = largest (max a b) l

-- "Every row from the smallest to the largest in use is printed"
abbrev pub all_rows : List ℕ → List ℕ
all_rows [] = []
all_rows (r ∷ rs) = from (smallest r rs) (suc (largest r rs) - smallest r rs)

-- "Each count must equal the number of listed vectors of that degree."
abbrev pub betti_count : List (List ℕ) → ℕ → ℕ → ℕ
betti_count degrees r c = count (λ d. eqb (d + row_shift) (r + c)) (get_or degrees c [])

abbrev pub betti_page : State → Bytes
betti_page X = let degrees = column_degrees X in page (betti_count degrees) (all_rows (rows_in_use 0 degrees))

-- ## The program

-- "17, .., tested after acceptance", before lifting
abbrev pub betti_of : Limits → ℕ → State → Result Bytes
betti_of lim n X = homogeneous X >>= λ u. lifted lim n X >>= λ Y. done (betti_page Y)

-- the page printed for a file's bytes
abbrev pub betti : Limits → ℕ → Bytes → Option Bytes
betti lim n bytes = program (betti_of lim n) lim n bytes
