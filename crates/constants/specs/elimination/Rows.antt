-- A matrix in words: a row of n columns begins at every 128th word.
use Rattle.std.specs.Prelude.{List, [], ◌∷◌, ℕ, zero, suc, take, drop}
use Rattle.definitions.specs.Rank.{Row, Matrix}
use Rattle.definitions.specs.Places.{most_vectors}

-- the row of n columns from word a on
abbrev pub row_words : List ℕ → ℕ → ℕ → Row
row_words s a n = take n (drop a s)

-- so many rows from word 0 on
abbrev pub rows_at : ℕ → ℕ → List ℕ → Matrix
rows_at n zero s = []
rows_at n (suc k) s = take n s ∷ rows_at n k (drop most_vectors s)
