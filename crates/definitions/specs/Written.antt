-- "Problem file", printed: the T lines of an element and the E line.
use Rattle.std.specs.Prelude.{[], ◌∷◌, ◌++◌, ℕ}
use Rattle.definitions.specs.Monomial.{Vector, Level}
use Rattle.definitions.specs.Problem.{Bytes, letter_T, letter_E}
use Rattle.definitions.specs.State.{terms_of}
use Rattle.definitions.specs.Sheet.{printed, term_fields}

-- `T,element,coefficient,component,e1,..,en` for each term of element i
abbrev pub element_lines : ℕ → ℕ → Vector → Bytes
element_lines n i [] = []
element_lines n i (t ∷ ts) = printed letter_T (i ∷ term_fields n t) ++ element_lines n i ts

-- `E,count of T lines`
abbrev pub end_line : Level → Bytes
end_line f = printed letter_E (terms_of f ∷ [])
