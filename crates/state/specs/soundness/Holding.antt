-- The soundness test in the direction in which the code runs: row by row, each compared with the one before, level by level upwards.
use Rattle.std.specs.Prelude.{Bool, true, [], ◌∷◌, ℕ, zero, suc, ◌+◌, ◌-◌, ◌*◌, leb, ltb, get_or}
use Rattle.definitions.specs.Limits.{document_01}
use Rattle.definitions.specs.Lists.{◌and◌, between, choose}
use Rattle.definitions.specs.Monomial.{Exponents, Monomial, divides?}
use Rattle.definitions.specs.Order.{Comparison, greater?}
use Rattle.definitions.specs.Packed.{unpack, pack}
use Rattle.definitions.specs.Problem.{prime_in_range?, in_ranges?}
use Rattle.definitions.specs.Layout.{Words, long_at, row_at, ends_at, levels_at}
use Rattle.definitions.specs.Places.{most_exponent, most_elements, most_vectors, most_rows, most_terms, row_length, component_offset, exponents_offset}
use Rattle.orders.specs.Images.{Table, table_order}
use Rattle.orders.specs.Levels.{images}
use Rattle.state.specs.declared.soundness.Bounds.{Bounds}
use Rattle.state.specs.soundness.Places.{parameters_at, count_at, rows_from}

-- an exponent is at most 255, one past n is zero
abbrev pub limit_at : ℕ → ℕ → ℕ
limit_at n j = choose (ltb j n) most_exponent 0

abbrev pub exponent_limits : ℕ → Exponents
exponent_limits n = limit_at n 0 ∷ limit_at n 1 ∷ limit_at n 2 ∷ limit_at n 3 ∷ limit_at n 4 ∷ limit_at n 5 ∷ limit_at n 6 ∷ limit_at n 7 ∷ []

abbrev pub bounds_of : ℕ → ℕ → ℕ → Bounds
bounds_of p n components = record { top = p - 1; components = components; exponents = pack (exponent_limits n) }

-- the words of row i are in range
abbrev pub row_holds? : Bounds → Words → ℕ → Bool
row_holds? b s i =
    between 1 (get_or s (i * row_length) 0) b.top and between 1 (get_or s (i * row_length + component_offset) 0) b.components
    and divides? (unpack (long_at s (i * row_length + exponents_offset))) (unpack b.exponents)

-- .. and the row before it is greater
abbrev pub follows? : Bounds → (Monomial → Monomial → Comparison) → Words → ℕ → Bool
follows? b order s i = row_holds? b s i and greater? (order (row_at s (i - 1)).1 (row_at s i).1)

-- n numbers from i on pass the test
abbrev pub all_hold? : (ℕ → Bool) → ℕ → ℕ → Bool
all_hold? f i zero = true
all_hold? f i (suc n) = f i and all_hold? f (suc i) n

-- a vector from row a up to row e
abbrev pub vector_holds? : Bounds → ℕ → (Monomial → Monomial → Comparison) → Words → ℕ → ℕ → Bool
vector_holds? b most order s a e =
    ltb a e and leb e most_rows and leb (e - a) most and row_holds? b s a and all_hold? (follows? b order s) (suc a) (e - suc a)

-- vectors with these ends, after so many rows
abbrev pub vectors_hold? : Bounds → ℕ → (Monomial → Monomial → Comparison) → Words → ℕ → Words → Bool
vectors_hold? b most order s a [] = true
vectors_hold? b most order s a (e ∷ ends) = vector_holds? b most order s a e and vectors_hold? b most order s e ends

-- level k: so many vectors at least and at most, so many terms a vector at most
abbrev pub level_holds? : ℕ → ℕ → ℕ → Bounds → (Monomial → Monomial → Comparison) → Words → ℕ → Bool
level_holds? low high most b order s k = between low (count_at s k) high and vectors_hold? b most order (rows_from s k) 0 (ends_at document_01 s k)

-- level k over the table of images of its module
abbrev pub level_test? : Words → ℕ → Table → Bool
level_test? s zero T = level_holds? 1 most_elements most_rows (bounds_of (get_or s 0 0) (get_or s 1 0) (get_or s 3 0)) (table_order (get_or s 2 0) T) s 0
level_test? s (suc k) T = level_holds? 0 most_vectors most_terms (bounds_of (get_or s 0 0) (get_or s 1 0) (count_at s k)) (table_order (get_or s 2 0) T) s
    (suc k)

-- levels 0 to k − 1
abbrev pub levels_hold? : Words → ℕ → Bool
levels_hold? s zero = true
levels_hold? s (suc k) = levels_hold? s k and level_test? s k (images (levels_at document_01 s k))

-- the four numbers and levels 0 to h − 1
abbrev pub basis_holds? : Words → ℕ → Bool
basis_holds? s h = prime_in_range? document_01 (get_or s 0 0) and in_ranges? document_01 (parameters_at s) and levels_hold? s h
