-- A state whose unused places are zeroed, word by word.
use Rattle.std.specs.Prelude.{◌≡◌, ℕ, suc, ◌+◌, ◌*◌, ◌<◌, ◌≤◌, length, get_or}
use Rattle.definitions.specs.Layout.{Words}
use Rattle.definitions.specs.Places.{most_vectors, row_length, header_length, rows_start, degrees_start, carried_start, count_offset, ends_offset}
use Rattle.definitions.specs.Places.{rows_offset, carried_offset}
use Rattle.reducers.specs.tables.Cuts.{start_of}
use Rattle.state.specs.soundness.Places.{count_at, ends_from}

-- the words from lo on, up to hi
abbrev pub Same : Words → Words → ℕ → ℕ → Type 0
Same z s lo hi = (i : ℕ) → lo ≤ i → i < hi → get_or z i 0 ≡ get_or s i 0

abbrev pub Zero : Words → ℕ → ℕ → Type 0
Zero z lo hi = (i : ℕ) → lo ≤ i → i < hi → get_or z i 0 ≡ 0

-- how many rows level k uses: its last end
abbrev pub used_at : Words → ℕ → ℕ
used_at s k = start_of (ends_from s k) (count_at s k)

-- level j: its count, ends and rows as in s, zeros behind them
pub record Tidy (s z : Words) (j : ℕ) : Type 0 where
  pub counts : Same z s (count_offset j) (ends_offset j + count_at s j)
  pub no_counts : Zero z (ends_offset j + count_at s j) (count_offset (suc j))
  pub terms : Same z s (rows_offset j) (rows_offset j + used_at s j * row_length)
  pub no_terms : Zero z (rows_offset j + used_at s j * row_length) (rows_offset (suc j))

-- levels 0 to k − 1, the others as they were
pub record TidiedTo (s z : Words) (k : ℕ) : Type 0 where
  pub long : length z ≡ length s
  pub front : Same z s 0 header_length
  pub made : (j : ℕ) → j < k → Tidy s z j
  pub counts_left : Same z s (count_offset k) rows_start
  pub terms_left : Same z s (rows_offset k) (length s)

-- levels 0 to h − 1 have no more vectors than there is room for
abbrev pub Few : Words → ℕ → Type 0
Few s h = (j : ℕ) → j < h → count_at s j ≤ most_vectors

-- level j: its degrees as in s, zeros behind them
pub record TidyDegrees (s z : Words) (j : ℕ) : Type 0 where
  pub carried : Same z s (carried_offset j) (carried_offset j + count_at s j)
  pub no_carried : Zero z (carried_offset j + count_at s j) (carried_offset (suc j))

-- levels 0 to k − 1, all else as it was
pub record CarriedTo (s z : Words) (k : ℕ) : Type 0 where
  pub long : length z ≡ length s
  pub front : Same z s 0 carried_start
  pub made : (j : ℕ) → j < k → TidyDegrees s z j
  pub left : Same z s (carried_offset k) (length s)

-- the words up to the degrees, of a state with h levels: as in s, zeros where none of them has any
pub record LevelsTidy (s z : Words) (h : ℕ) : Type 0 where
  pub front : Same z s 0 header_length
  pub made : (j : ℕ) → j < h → Tidy s z j
  pub no_counts : Zero z (count_offset h) rows_start
  pub no_terms : Zero z (rows_offset h) degrees_start

-- .. and the degrees
pub record DegreesTidy (s z : Words) (h : ℕ) : Type 0 where
  pub components : Same z s degrees_start (degrees_start + get_or s 3 0)
  pub no_components : Zero z (degrees_start + get_or s 3 0) carried_start
  pub made : (j : ℕ) → j < h → TidyDegrees s z j
  pub no_carried : Zero z (carried_offset h) (length s)

-- the one, the degrees as they were
pub record LevelsSettled (s z : Words) (h : ℕ) : Type 0 where
  pub long : length z ≡ length s
  pub levels : LevelsTidy s z h
  pub left : Same z s degrees_start (length s)

-- the other, what stands before the degrees as it was
pub record DegreesSettled (s z : Words) (h : ℕ) : Type 0 where
  pub long : length z ≡ length s
  pub front : Same z s 0 degrees_start
  pub degrees : DegreesTidy s z h
