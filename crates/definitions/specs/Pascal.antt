-- "a constant table of Pascal's triangle, rows 0 to 39, 820 entries, whose rule holds at every entry" (request A13)
use Rattle.std.specs.Prelude.{List, [], ◌∷◌, ◌++◌, ℕ, zero, suc, ◌+◌, ◌-◌, ◌*◌, ◌/◌, get_or}
use Rattle.definitions.specs.Places.{triangle_rows}

-- the sums of neighbours, then 1
abbrev pub neighbours : List ℕ → List ℕ
neighbours [] = 1 ∷ []
neighbours (a ∷ []) = 1 ∷ []
neighbours (a ∷ b ∷ l) = (a + b) ∷ neighbours (b ∷ l)

-- 1, then each the sum of the two above it
abbrev pub next_row : List ℕ → List ℕ
next_row l = 1 ∷ neighbours l

-- so many rows from this one on
abbrev pub rows_after : ℕ → List ℕ → List ℕ
rows_after zero l = []
rows_after (suc left) l = l ++ rows_after left (next_row l)

abbrev pub triangle : List ℕ
triangle = rows_after triangle_rows (1 ∷ [])

-- where entry k of row m stands: before row m there are 1 + 2 + .. + m entries
abbrev pub entry_place : ℕ → ℕ → ℕ
entry_place m k = m * suc m / 2 + k

-- entry k of row m
abbrev pub entry_in : List ℕ → ℕ → ℕ → ℕ
entry_in t m k = get_or t (entry_place m k) 0

abbrev pub entry : ℕ → ℕ → ℕ
entry m k = entry_in triangle m k

-- how many monomials of degree d there are in n variables, n 1 to 8, d to 32
abbrev pub monomials : ℕ → ℕ → ℕ
monomials n d = entry (d + (n - 1)) (n - 1)
