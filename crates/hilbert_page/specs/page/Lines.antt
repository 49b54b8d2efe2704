-- The lines of some degrees of the state that the words hold.
use Rattle.std.specs.Prelude.{[], ◌∷◌, ℕ, get_or}
use Rattle.definitions.specs.Lists.{from}
use Rattle.definitions.specs.Problem.{Bytes}
use Rattle.definitions.specs.Layout.{Words}
use Rattle.definitions.specs.Sheet.{printed}
use Rattle.definitions.specs.Hilbert.{hilbert_value, letter_H, h_lines}
use Rattle.columns.specs.counting.Columns.{columns_of}

abbrev pub value_of : Words → ℕ → ℕ
value_of s = hilbert_value (get_or s 1 0) (columns_of s)

-- the line of degree d; shut, as are those of the degrees below d, so that arithmetic does not look inside
unfoldable pub line_of : Words → ℕ → Bytes
line_of s d = printed letter_H (d ∷ value_of s d ∷ [])

unfoldable pub lines_below : Words → ℕ → Bytes
lines_below s d = h_lines (value_of s) (from 0 d)
