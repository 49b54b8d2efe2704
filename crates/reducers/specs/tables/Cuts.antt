-- A level's vectors by their ends, and the tables of its leading rows.
use Rattle.std.specs.Prelude.{◌≡◌, ℕ, zero, suc, ◌+◌, ◌*◌, ◌<◌, ◌≤◌, ltb, eqb, length, get_or, set, take}
use Rattle.definitions.specs.Lists.{choose}
use Rattle.definitions.specs.Field.{inverse}
use Rattle.definitions.specs.Monomial.{Term, Level}
use Rattle.definitions.specs.Layout.{Words, row_at, vectors_at}
use Rattle.definitions.specs.Degrees.{degree_by}
use Rattle.definitions.specs.Places.{most_carried, row_length}

-- the first row of vector j, counted from 0: the end of the one before it
abbrev pub start_of : Words → ℕ → ℕ
start_of ends zero = 0
start_of ends (suc j) = get_or ends j 0

-- r vectors that are not empty and lie inside the level
pub record Cut (r : ℕ) (level ends : Words) : Type 0 where
  pub ends_fit : r ≤ length ends
  pub rows_fit : (j : ℕ) → j < r → get_or ends j 0 * row_length ≤ length level
  pub filled : (j : ℕ) → j < r → start_of ends j < get_or ends j 0

abbrev pub cut_level : ℕ → Words → Words → Level
cut_level r level ends = vectors_at level 0 (take r ends)

-- no degree among the first n is above what a vector can carry
abbrev pub Light : ℕ → Words → Type 0
Light n below = (i : ℕ) → i < n → get_or below i 0 ≤ most_carried

-- the first r words of d are the degrees of the vectors, over n degrees below
abbrev pub Weighed : ℕ → Words → Words → Words → ℕ → Words → Type 0
Weighed n below level ends r d = (j : ℕ) → j < r → get_or d j 0 ≡ degree_by (take n below) (row_at level (start_of ends j)).1

-- a leading term as the reducer rule reads it
abbrev pub head_of : ℕ → Term → Term
head_of p t = (inverse p t.0, t.1)

-- ## Spans

-- row j belongs to component i: the span begins there if it was empty, and ends behind it
abbrev pub span_widened : Words → ℕ → ℕ → Words
span_widened s i j = set (set s (i * 2) (choose (eqb (get_or s (i * 2 + 1) 0) 0) j (get_or s (i * 2) 0))) (i * 2 + 1) (j + 1)

-- components that the spans lack are passed over
abbrev pub span_noted : ℕ → Words → ℕ → ℕ → Words
span_noted k s i j = choose (ltb i k) (span_widened s i j) s
