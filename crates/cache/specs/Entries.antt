-- The entries of the cache in its rows, and the code's finished subtrees as the definitions' ones.
use Rattle.std.proofs.Math.Option.{Option, none, some}
use Rattle.std.specs.Prelude.{[], ◌∷◌, ℕ, zero, suc, ◌+◌, ◌-◌, ◌≤◌, Option as CodeOption, Some, None, Result as CodeResult, Ok, Err}
use Rattle.definitions.specs.Monomial.{Vector}
use Rattle.definitions.specs.Result.{Result, done, refusal}
use Rattle.definitions.specs.Tree as definition
use Rattle.definitions.specs.Tree.{Cache}
use Rattle.definitions.specs.Layout.{Words, row_at, rows}
use Rattle.words.specs.declared.refusals.Refusal.{Refusal}
use Rattle.words.specs.refusals.Numbers.{number_of}
use Rattle.cache.specs.declared.Subtree.{Subtree}
use Rattle.cache.specs.declared.Subtree.TheVariants.{Cached, Waiting}

-- the entries in the first so many rows, the newest first, when the last k rows belong to one that is passed over.
-- An entry's own rows stand before the row of its monomial, whose coefficient is their number
unfoldable pub cache_skip : ℕ → ℕ → Words → Cache
cache_skip k zero s = []
cache_skip (suc k) (suc u) s = cache_skip k u s
cache_skip zero (suc u) s = ((row_at s u).1, rows s (u - (row_at s u).0) (u - (u - (row_at s u).0))) ∷ cache_skip (row_at s u).0 u s

abbrev pub cache_of : ℕ → Words → Cache
cache_of u s = cache_skip 0 u s

abbrev pub entry_of : Words → CodeOption (ℕ × ℕ) → Option Vector
entry_of s (Some e) = some (rows s e.0 e.1)
entry_of s None = none

-- an entry lies within the first u rows
abbrev pub Inside : ℕ → CodeOption (ℕ × ℕ) → Type 0
Inside u (Some e) = e.0 + e.1 ≤ u
Inside u None = Unit {0}

-- a subtree that waits ends at the work area's limit, and counts
abbrev pub finished_of : ℕ → Subtree → Words → Words → definition.Subtree
finished_of limit (Cached from n u) cache work = (rows cache from n, 0, cache_of u cache)
finished_of limit (Waiting n u) cache work = (rows work (limit - n) n, n, cache_of u cache)

abbrev pub subtree_of : ℕ → CodeResult Subtree Refusal → Words → Words → Result definition.Subtree
subtree_of limit (Ok s) cache work = done (finished_of limit s cache work)
subtree_of limit (Err e) cache work = refusal (number_of e)

-- a subtree that waits does not reach down to row a
abbrev pub Settled : ℕ → ℕ → ℕ → Subtree → Type 0
Settled a limit room (Cached from n u) = (from + n ≤ u) × (u ≤ room)
Settled a limit room (Waiting n u) = (a + n ≤ limit) × (u ≤ room)

abbrev pub Sized : ℕ → ℕ → ℕ → CodeResult Subtree Refusal → Type 0
Sized a limit room (Ok s) = Settled a limit room s
Sized a limit room (Err e) = Unit {0}
