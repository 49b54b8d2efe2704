-- What a function leaves as it was, and a sum in rows of a slice.
use Rattle.std.specs.Prelude.{◌≡◌, Bool, false, ℕ, ◌+◌, ◌<◌, ◌≤◌, Option, Some, None}
use Rattle.definitions.specs.Monomial.{Vector}
use Rattle.definitions.specs.Result.{Result, done, refusal}
use Rattle.definitions.specs.Layout.{Words, row_at, rows}

-- the rows below a are as they were: every unfinished sum below
abbrev pub Keeps : ℕ → Words → Words → Type 0
Keeps a s z = (k : ℕ) → k < a → row_at z k ≡ row_at s k

-- the rows from top on are as they were: a finished sum that waits
abbrev pub Leaves : ℕ → Words → Words → Type 0
Leaves top s z = (k : ℕ) → top ≤ k → row_at z k ≡ row_at s k

-- n rows of s from a on stand in z from b on
abbrev pub Copied : ℕ → Words → ℕ → ℕ → Words → Type 0
Copied a s n b z = (k : ℕ) → k < n → row_at z (b + k) ≡ row_at s (a + k)

-- a part of the work area lies from top on
abbrev pub Apart : Bool → ℕ → ℕ → Type 0
Apart in-cache top from = in-cache ≡ false → top ≤ from

-- a sum from row a on, after a term came to it
abbrev pub grown_of : ℕ → Option ℕ → Words → Result Vector
grown_of a (Some n) s = done (rows s a n)
grown_of a None s = refusal 14

-- a sum from row a on ends at top
abbrev pub Room : ℕ → ℕ → Option ℕ → Type 0
Room a top (Some n) = a + n ≤ top
Room a top None = Unit {0}
