-- A level while it is written, and what the functions on a state leave in it.
use Rattle.std.specs.Prelude.{Bool, ◌∷◌, ◌++◌, ℕ, ◌+◌, ◌*◌, leb, set, take, drop}
use Rattle.std.proofs.Math.Seq.{paste}
use Rattle.definitions.specs.Limits.{document_01}
use Rattle.definitions.specs.Lists.{◌and◌}
use Rattle.definitions.specs.Monomial.{Vector, Level}
use Rattle.definitions.specs.State.{State}
use Rattle.definitions.specs.Layout.{Words, rows_of, count_place, rows_place, vectors_at, levels_at, ascending?}
use Rattle.definitions.specs.Places.{most_vectors, most_rows, row_length, counts_length, level_length, count_offset, rows_offset}
use Rattle.vectors.specs.terms.Rows.{cleared}
use Rattle.reducers.specs.tables.Cuts.{start_of}
use Rattle.state.specs.soundness.Places.{parameters_at, count_at, rows_from, ends_from}

-- the vectors that level k has so far
abbrev pub level_so_far : Words → ℕ → ℕ → Level
level_so_far s k count = vectors_at (rows_from s k) 0 (take count (ends_from s k))

-- its words are such that the vectors can be cut out
abbrev pub words_so_far? : Words → ℕ → ℕ → Bool
words_so_far? s k count = leb count most_vectors and ascending? most_rows 0 (take count (ends_from s k))

-- one vector more, of n terms: its rows behind those used, its end behind the ends
abbrev pub appended : Words → ℕ → ℕ → ℕ → Vector → ℕ → Words
appended s k count used v n = set (paste s (rows_place document_01 k + used * row_length) (rows_of v) (n * row_length))
    (count_place document_01 k + 1 + count) (used + n)

-- level k with its vectors so far complete, those below it kept, those above it dropped
abbrev pub finished : Words → ℕ → ℕ → State
finished s k count = record { parameters = parameters_at s; levels = level_so_far s k count ∷ levels_at document_01 s k }

-- n words from a on: all but the first u of them zero
abbrev pub block_cleared : ℕ → ℕ → ℕ → Words → Words
block_cleared a n u s = take a s ++ (cleared (take n (drop a s)) u ++ drop n (drop a s))

-- the unused places of level k zero
abbrev pub tidied : Words → ℕ → Words
tidied s k = block_cleared (rows_offset k) level_length (start_of (ends_from s k) (count_at s k) * row_length)
    (block_cleared (count_offset k) counts_length (1 + count_at s k) s)
