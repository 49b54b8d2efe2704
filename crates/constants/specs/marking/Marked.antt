-- The marks of the columns of the state that the words hold, in words.
use Rattle.std.specs.Prelude.{◌≡◌, ℕ, ◌*◌, ◌<◌, length, take, drop}
use Rattle.definitions.specs.Limits.{document_01}
use Rattle.definitions.specs.Layout.{Words, decode}
use Rattle.definitions.specs.Places.{most_vectors, page_columns}
use Rattle.columns.specs.counting.Columns.{columns_of, column_of}
use Rattle.ranks.specs.Blocks.{column_marks}

-- column c's stand from word c · 128 on, one for each generator
abbrev pub Marked : Words → Words → Type 0
Marked s m = (c : ℕ) → c < page_columns → take (length (column_of s c)) (drop (c * most_vectors) m) ≡ column_marks (decode document_01 s) (columns_of s) c
