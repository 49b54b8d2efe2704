-- Where a state's numbers stand, with document 01's limits.
use Rattle.std.specs.Prelude.{ℕ, zero, suc, get_or, drop, replicate}
use Rattle.definitions.specs.Limits.{document_01}
use Rattle.definitions.specs.Problem as definition
use Rattle.definitions.specs.Layout.{Words, count_place, rows_place, degrees_at}

abbrev pub parameters_at : Words → definition.Parameters
parameters_at s = record { p = get_or s 0 0; n = get_or s 1 0; code = get_or s 2 0; s = get_or s 3 0; degrees = degrees_at document_01 s }

-- the four numbers alone, as of a file without degrees
abbrev pub numbers_at : Words → definition.Parameters
numbers_at s = record { p = get_or s 0 0; n = get_or s 1 0; code = get_or s 2 0; s = get_or s 3 0; degrees = replicate (get_or s 3 0) 0 }

-- how many vectors level k has
abbrev pub count_at : Words → ℕ → ℕ
count_at s k = get_or s (count_place document_01 k) 0

-- how many the level below level k has; none below level 0
abbrev pub count_below : Words → ℕ → ℕ
count_below s zero = 0
count_below s (suc k) = count_at s k

-- level k's rows, and the ends of its vectors
abbrev pub rows_from : Words → ℕ → Words
rows_from s k = drop (rows_place document_01 k) s

abbrev pub ends_from : Words → ℕ → Words
ends_from s k = drop (suc (count_place document_01 k)) s
