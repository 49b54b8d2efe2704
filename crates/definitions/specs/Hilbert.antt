-- "A13. Hilbert function."
use Rattle.std.specs.Prelude.{true, false, List, [], ◌∷◌, ◌++◌, ℕ, ◌+◌, ◌-◌, leb}
use Rattle.std.proofs.Math.Option.{Option}
use Rattle.definitions.specs.Limits.{Limits}
use Rattle.definitions.specs.Lists.{map, from, sum}
use Rattle.definitions.specs.Result.{Result, done, ◌>>=◌}
use Rattle.definitions.specs.Problem.{Bytes}
use Rattle.definitions.specs.State.{State}
use Rattle.definitions.specs.Sheet.{printed}
use Rattle.definitions.specs.Program.{lifted, program}
use Rattle.definitions.specs.Betti.{column_degrees}
use Rattle.definitions.specs.Pascal.{monomials}
use Rattle.definitions.specs.Places.{hilbert_degrees}

-- ## The value

-- "the number of monomials of the degree left after the generator's own; a generator of higher degree counts nothing": degree d, a generator of degree g
abbrev pub left_over : ℕ → ℕ → ℕ → ℕ
left_over n d g = elim (leb g d) [ true ↦ monomials n (d - g) | false ↦ 0 ]

-- what a column counts, by the degrees of its generators
abbrev pub column_value : ℕ → ℕ → List ℕ → ℕ
column_value n d degrees = sum (map (left_over n d) degrees)

-- the sums over columns 0, 2, .. and over columns 1, 3, ..
abbrev pub both_sums : ℕ → ℕ → List (List ℕ) → ℕ × ℕ
both_sums n d [] = (0, 0)
both_sums n d (degrees ∷ columns) = let s = both_sums n d columns in (column_value n d degrees + s.1, s.0)

-- "the alternating sum over the columns, column 0 positive"; that nothing is cut off is part of the theorem
abbrev pub hilbert_value : ℕ → List (List ℕ) → ℕ → ℕ
hilbert_value n columns d = let s = both_sums n d columns in s.0 - s.1

-- ## The lines

abbrev pub letter_H : ℕ
letter_H = 72

-- `H,degree,value`
abbrev pub h_lines : (ℕ → ℕ) → List ℕ → Bytes
h_lines value [] = []
h_lines value (d ∷ ds) = printed letter_H (d ∷ value d ∷ []) ++ h_lines value ds

-- "For degrees 0 to 32"
abbrev pub hilbert_lines : State → Bytes
hilbert_lines X = h_lines (hilbert_value X.parameters.n (column_degrees X)) (from 0 hilbert_degrees)

-- ## The program

-- "17 is not tested, nor 20"
abbrev pub hilbert_of : Limits → ℕ → State → Result Bytes
hilbert_of lim n X = lifted lim n X >>= λ Y. done (hilbert_lines Y)

-- the lines printed for a file's bytes
abbrev pub hilbert : Limits → ℕ → Bytes → Option Bytes
hilbert lim n bytes = program (hilbert_of lim n) lim n bytes
