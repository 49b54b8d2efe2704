-- A state with the marks of its columns, marks by degree, and totals of rows.
use Rattle.std.specs.Prelude.{◌≡◌, Bool, true, false, List, ℕ, ◌+◌, ◌<◌, ◌≤◌, T, length, get_or}
use Rattle.lists.specs.Filling.{Filled}
use Rattle.definitions.specs.Limits.{document_01}
use Rattle.definitions.specs.Layout.{Words, holds_state?}
use Rattle.definitions.specs.Places.{page_columns, state_length, marks_length}
use Rattle.constants.specs.marking.Marked.{Marked}

-- a sound state, and the marks of its columns
pub record Marks (s m : Words) : Type 0 where
  pub long : state_length ≤ length s
  pub holds : T (holds_state? document_01 s)
  pub room : marks_length ≤ length m
  pub marked : Marked s m

-- the mark more where the test holds
abbrev pub with_mark : Bool → ℕ → ℕ → ℕ
with_mark true mark k = k + mark
with_mark false mark k = k

-- each total with the row's number is a word
abbrev pub Fit : List ℕ → List ℕ → Type 0
Fit totals row = (c : ℕ) → c < page_columns → get_or totals c 0 + get_or row c 0 < 65_536

-- each total and the row's number
abbrev pub Added : List ℕ → List ℕ → List ℕ → Type 0
Added totals row sums = (length sums ≡ page_columns) × Filled (λ c. get_or totals c 0 + get_or row c 0) page_columns sums
