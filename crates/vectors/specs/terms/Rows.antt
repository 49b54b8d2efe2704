-- The code's term as the definitions' one, and what the functions on rows leave in a slice.
use Rattle.std.specs.Prelude.{◌∷◌, ◌++◌, ℕ, ◌+◌, ◌-◌, ◌*◌, length, take, drop, replicate}
use Rattle.std.proofs.Math.Seq.{paste}
use Rattle.definitions.specs.Monomial as definition
use Rattle.definitions.specs.Layout.{Words, row_of}
use Rattle.definitions.specs.Places.{row_length}
use Rattle.monomial.specs.Values.{monomial_of}
use Rattle.vectors.specs.declared.terms.Term.{Term}

abbrev pub term_of : Term → definition.Term
term_of t = (t.coefficient, monomial_of t.monomial)

-- the term in row i
abbrev pub written : Words → ℕ → definition.Term → Words
written s i t = paste s (i * row_length) (row_of t) row_length

-- the words from a row behind a on, up to a row behind end, stand from a on
abbrev pub closed : Words → ℕ → ℕ → Words
closed s a end = paste s a (drop (a + row_length) s) (end - a)

-- the words from a on, up to end, stand from a row behind a on
abbrev pub opened : Words → ℕ → ℕ → Words
opened s a end = paste s (a + row_length) (drop a s) (end - a)

-- zeros from a on
abbrev pub cleared : Words → ℕ → Words
cleared s a = take a s ++ replicate (length s - a) 0

-- a term let in at place i
abbrev pub let_in : ℕ → definition.Term → definition.Vector → definition.Vector
let_in i t v = take i v ++ t ∷ drop i v
