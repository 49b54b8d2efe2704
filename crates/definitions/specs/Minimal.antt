-- "A7. Minimal Betti numbers."
use Rattle.std.specs.Prelude.{true, false, List, [], ◌∷◌, reverse, ℕ, zero, suc, ◌+◌, ◌-◌, eqb, length, get_or}
use Rattle.std.proofs.Math.Option.{Option}
use Rattle.definitions.specs.Limits.{Limits}
use Rattle.definitions.specs.Lists.{map, from, empty?}
use Rattle.definitions.specs.Monomial.{Vector, Level, unit, same_monomial?}
use Rattle.definitions.specs.Result.{Result, done, unless_refused, ◌>>=◌}
use Rattle.definitions.specs.Problem.{Bytes}
use Rattle.definitions.specs.State.{State}
use Rattle.definitions.specs.Program.{lifted, program}
use Rattle.definitions.specs.Pages.{page}
use Rattle.definitions.specs.Betti.{homogeneous, column_degrees, rows_in_use, all_rows, betti_count}
use Rattle.definitions.specs.Rank.{Matrix, rank}
use Rattle.definitions.specs.Places.{row_shift}

-- ## Constants

-- the coefficient of 1·e_j
abbrev pub constant : Vector → ℕ → ℕ
constant [] j = 0
constant (t ∷ v) j = elim (same_monomial? t.1 (unit, j)) [ true ↦ t.0 | false ↦ constant v j ]

-- those whose degrees, each row-shift more, are t
abbrev pub of_degree : {A : Type 0} → ℕ → List ℕ → List A → List A
of_degree t [] l = []
of_degree t (d ∷ ds) [] = []
of_degree t (d ∷ ds) (a ∷ l) = elim (eqb (d + row_shift) t) [ true ↦ a ∷ of_degree t ds l | false ↦ of_degree t ds l ]

-- the vectors of level k, which are column k + 1; none where there is no such level
abbrev pub vectors_at : State → ℕ → Level
vectors_at X k = get_or (reverse X.levels) k []

-- "For each degree, take the matrix of constant coefficients between generators of that degree in neighbouring columns": a row for each of degree ds and of
-- vectors f, in it the coefficient of each e_j of degree es
abbrev pub constants : ℕ → List ℕ → List ℕ → Level → Matrix
constants t es ds f = map (λ v. map (constant v) (of_degree t es (from 1 (length es)))) (of_degree t ds f)

-- ## The numbers

-- "and its rank modulo p": of the matrix between columns c + 1 and c, which enters column c
abbrev pub rank_entering : State → List (List ℕ) → ℕ → ℕ → ℕ
rank_entering X degrees t c = rank X.parameters.p (constants t (get_or degrees c []) (get_or degrees (suc c) []) (vectors_at X c))

-- .. of the one that leaves it; none leaves column 0
abbrev pub rank_leaving : State → List (List ℕ) → ℕ → ℕ → ℕ
rank_leaving X degrees t zero = 0
rank_leaving X degrees t (suc c) = rank_entering X degrees t c

-- "The minimal number is the count less the rank of the matrix leaving that column and less the rank of the one entering it."; that nothing is cut off is
-- part of the theorem
abbrev pub minimal_number : State → List (List ℕ) → ℕ → ℕ → ℕ
minimal_number X degrees r c = betti_count degrees r c - (rank_leaving X degrees (r + c) c + rank_entering X degrees (r + c) c)

-- "prints the numbers as a page in the same layout and rows"
abbrev pub minimal_page : State → Bytes
minimal_page X = let degrees = column_degrees X in page (minimal_number X degrees) (all_rows (rows_in_use 0 degrees))

-- ## The program

-- "20 (place 9) when level 9 is not empty, tested after all lifting"
abbrev pub last_empty : Limits → State → Result (Unit {0})
last_empty lim X = unless_refused (empty? (vectors_at X lim.levels)) 20 lim.levels

-- "17 applies as before."
abbrev pub minimal_of : Limits → ℕ → State → Result Bytes
minimal_of lim n X = homogeneous X >>= λ u. lifted lim n X >>= λ Y. last_empty lim Y >>= λ u'. done (minimal_page Y)

-- the page printed for a file's bytes
abbrev pub minimal : Limits → ℕ → Bytes → Option Bytes
minimal lim n bytes = program (minimal_of lim n) lim n bytes
