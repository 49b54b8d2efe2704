-- Elimination in the order in which a loop over the rows does it: a row that is zero is passed over; the first column of any other is cleared in all rows
-- after it. No row changes its place, and each is marked by whether it was zero.
use Rattle.std.specs.Prelude.{true, false, List, [], ◌∷◌, ℕ, zero, suc, ◌%◌, eqb, length, get_or}
use Rattle.std.proofs.Math.Option.{Option, none, some}
use Rattle.definitions.specs.Lists.{map, choose}
use Rattle.definitions.specs.Field.{plus, times, minus, inverse}
use Rattle.definitions.specs.Rank.{Row, Matrix}

-- the first column of a row that is not zero, j being the number of its first
abbrev pub pivot_from : ℕ → ℕ → Row → Option ℕ
pivot_from p j [] = none
pivot_from p j (x ∷ row) = elim (eqb (x % p) 0) [ true ↦ pivot_from p (suc j) row | false ↦ some j ]

abbrev pub pivot : ℕ → Row → Option ℕ
pivot p row = pivot_from p 0 row

-- w + t·v
abbrev pub add_multiple : ℕ → ℕ → Row → Row → Row
add_multiple p t [] w = w
add_multiple p t (x ∷ v) [] = times p t x ∷ add_multiple p t v []
add_multiple p t (x ∷ v) (y ∷ w) = plus p y (times p t x) ∷ add_multiple p t v w

-- w less the multiple of v that makes it zero in column c, where v is not; w itself where it is zero there
abbrev pub cleared : ℕ → ℕ → Row → Row → Row
cleared p c v w = choose (eqb (get_or w c 0 % p) 0) w (add_multiple p (minus p (times p (get_or w c 0) (inverse p (get_or v c 0)))) v w)

-- what follows a row v with the rows M after it
abbrev pub rows_left : ℕ → Row → Matrix → Option ℕ → Matrix
rows_left p v M none = M
rows_left p v M (some c) = map (cleared p c v) M

-- 1 for a row that is not zero
abbrev pub mark : Option ℕ → ℕ
mark none = 0
mark (some c) = 1

-- .. of so many rows
abbrev pub marks_of : ℕ → ℕ → Matrix → List ℕ
marks_of p zero M = []
marks_of p (suc n) [] = []
marks_of p (suc n) (v ∷ M) = mark (pivot p v) ∷ marks_of p n (rows_left p v M (pivot p v))

abbrev pub marks : ℕ → Matrix → List ℕ
marks p M = marks_of p (length M) M
