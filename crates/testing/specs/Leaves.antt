-- What the leaves give over many rows: numbers counted, products stored, terms sorted.
use Rattle.std.specs.Prelude.{Bool, false, [], ℕ, zero, suc, ◌+◌, ◌/◌, leb, ltb, length, get_or, Option as CodeOption, Some, None}
use Rattle.std.proofs.Math.Option.{Option, none, some}
use Rattle.definitions.specs.Limits.{document_01}
use Rattle.definitions.specs.Lists.{choose}
use Rattle.definitions.specs.Monomial.{Monomial, Term, Vector, unit}
use Rattle.definitions.specs.Order.{Comparison, greater, equal, smaller, compare_over}
use Rattle.definitions.specs.Reducer.{heads}
use Rattle.definitions.specs.Vectors.{descending}
use Rattle.definitions.specs.Layout.{Words, row_at, rows, holds_state?, level_at, levels_at}
use Rattle.definitions.specs.Places.{row_length, state_length}
use Rattle.monomial.specs.Values.{formed}
use Rattle.orders.specs.Images.{table_order}
use Rattle.orders.specs.Levels.{images}
use Rattle.reducers.specs.search.Search.{searched}
use Rattle.vectors.specs.terms.Rows.{written}
use Rattle.vectors.specs.sums.Places.{seek}

-- the sum of the first n numbers
unfoldable pub counted : (ℕ → ℕ) → ℕ → ℕ
counted f zero = 0
counted f (suc n) = counted f n + f n

-- ## Comparison

abbrev pub greater_mark : Comparison → ℕ
greater_mark greater = 1
greater_mark equal = 0
greater_mark smaller = 0

-- 1 where row i is greater than the row behind it
abbrev pub descent : ℕ → Words → ℕ → ℕ
descent code s i = greater_mark (compare_over code [] (row_at s i).1 (row_at s (i + 1)).1)

abbrev pub descents : ℕ → Words → ℕ → ℕ
descents code s n = choose (leb (length s / row_length) n) 0 (counted (descent code s) n)

-- ## Product

-- a product as a row, zeros where it does not fit
abbrev pub product_row : Option Monomial → Term
product_row none = (0, (unit, 0))
product_row (some m) = (1, m)

-- row i times the exponents of the row behind it
abbrev pub product_at : Words → ℕ → Term
product_at s i = product_row (formed (row_at s (i + 1)).1.0 (row_at s i).1)

-- the first n terms stored in rows
unfoldable pub filled : (ℕ → Term) → Words → ℕ → Words
filled f d zero = d
filled f d (suc n) = written (filled f d n) n (f n)

abbrev pub products : Words → Words → ℕ → Words
products s d n = choose (leb (length s / row_length) n) d (choose (ltb (length d / row_length) n) d (filled (product_at s) d n))

-- ## Equality search

abbrev pub place_mark : CodeOption ℕ → ℕ
place_mark (Some i) = 1
place_mark None = 0

-- how many of the first n rows of s have their monomial among the first r rows of d
abbrev pub found : Words → ℕ → Words → ℕ → ℕ
found d r s n = choose (ltb (length d / row_length) r) 0 (choose (ltb (length s / row_length) n) 0
    (counted (λ i. place_mark (seek (row_at s i).1 (rows d 0 r) 0)) n))

-- ## A state's level

-- the state is sound and has level k; there are n rows
abbrev pub ready? : Words → ℕ → Words → ℕ → Bool
ready? state k s n = choose (ltb (length state) state_length) false (choose (ltb (length s / row_length) n) false
    (choose (leb (get_or state 4 0) k) false (holds_state? document_01 state)))

abbrev pub lower_mark : CodeOption (ℕ × ℕ) → ℕ
lower_mark (Some x) = 0
lower_mark None = 1

-- how many of n rows are of lower order by level k
abbrev pub lower : Words → ℕ → Words → ℕ → ℕ
lower state k s n = choose (ready? state k s n) (counted (λ i. lower_mark
    (searched (heads (get_or state 0 0) (level_at document_01 state k)) (row_at s i).1)) n) 0

-- n rows descending in the order of the module over level k
abbrev pub sorted : Words → ℕ → Words → ℕ → Vector
sorted state k s n = choose (ready? state k s n) (descending (table_order (get_or state 2 0) (images (levels_at document_01 state (suc k))))
    (get_or state 0 0) (rows s 0 n)) []
