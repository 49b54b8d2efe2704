-- Numbers after commas, lines of terms, and vectors that fit.
use Rattle.std.specs.Prelude.{List, [], ◌∷◌, ◌++◌, ℕ, ◌<◌, ◌≤◌, get_or}
use Rattle.definitions.specs.Monomial.{Vector}
use Rattle.definitions.specs.Problem.{Bytes, comma}
use Rattle.definitions.specs.Layout.{Words}
use Rattle.definitions.specs.Sheet.{decimal, printed, term_fields}
use Rattle.definitions.specs.Places.{most_rows}

-- vectors that end within a level's room
abbrev pub Short : ℕ → Words → Type 0
Short count ends = (j : ℕ) → j < count → get_or ends j 0 ≤ most_rows

-- each number after a comma
abbrev pub listed : List ℕ → Bytes
listed [] = []
listed (v ∷ vs) = comma ∷ decimal v ++ listed vs

-- a letter, coefficient, component and n exponents for each term
abbrev pub term_lines : ℕ → ℕ → Vector → Bytes
term_lines letter n [] = []
term_lines letter n (t ∷ v) = printed letter (term_fields n t) ++ term_lines letter n v
