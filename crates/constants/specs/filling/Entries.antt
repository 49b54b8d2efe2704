-- What a term more does to a vector's row of constants.
use Rattle.std.specs.Prelude.{◌≡◌, List, ◌∷◌, ℕ, length, set}
use Rattle.std.proofs.Math.Seq.{paste}
use Rattle.definitions.specs.Monomial.{Monomial, Term, Vector}
use Rattle.definitions.specs.Layout.{Words}
use Rattle.ranks.specs.Blocks.{row_from}
use Rattle.constants.specs.elimination.Rows.{row_words}

-- a term with this monomial, in front of any others, sets column c of the row of a vector of degree d, over degrees es; past its end there is nothing to set
abbrev pub Enters : List ℕ → ℕ → Monomial → ℕ → Type 0
Enters es d m c = (x : ℕ) (v : Vector) → row_from 1 es d ((x, m) ∷ v) ≡ set (row_from 1 es d v) c x

-- where the row at word a was that of some terms, in z it is that of t and these, and nothing else has changed
abbrev pub Entered : Words → ℕ → List ℕ → ℕ → Term → Words → Type 0
Entered s a es d t z = (v : Vector) → row_words s a (length es) ≡ row_from 1 es d v → z ≡ paste s a (row_from 1 es d (t ∷ v)) (length es)
