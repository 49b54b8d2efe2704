-- The rows of a lent vector in the direction in which the code runs: each tested, and compared with the one before.
use Rattle.std.specs.Prelude.{Bool, true, false, [], ℕ, zero, suc, ltb, Result as CodeResult, Ok, Err}
use Rattle.std.proofs.Math.Option.{Option, none, some}
use Rattle.definitions.specs.Lists.{◌and◌}
use Rattle.definitions.specs.Monomial.{Vector}
use Rattle.definitions.specs.Result.{Result, done, refused}
use Rattle.definitions.specs.Order.{compare_over, greater?}
use Rattle.definitions.specs.Layout.{Words, row_at}
use Rattle.definitions.specs.Places.{most_terms}
use Rattle.state.specs.declared.soundness.Bounds.{Bounds}
use Rattle.state.specs.soundness.Holding.{row_holds?}

-- row i is below the row before it
abbrev pub row_below? : ℕ → Words → ℕ → Bool
row_below? code s zero = true
row_below? code s (suc i) = greater? (compare_over code [] (row_at s i).1 (row_at s (suc i)).1)

-- not 23
abbrev pub row_fits? : Bounds → ℕ → Words → ℕ → Bool
row_fits? b code s i = row_holds? b s i and row_below? code s i and ltb i most_terms

abbrev pub bad_by : Bool → ℕ → Option ℕ → Option ℕ
bad_by true i later = later
bad_by false i later = some (suc i)

-- the number of the first bad one of n rows from row i on, counted from 1
abbrev pub first_bad : Bounds → ℕ → Words → ℕ → ℕ → Option ℕ
first_bad b code s i zero = none
first_bad b code s i (suc n) = bad_by (row_fits? b code s i) i (first_bad b code s (suc i) n)

abbrev pub bad_of : CodeResult (Unit {0}) ℕ → Option ℕ
bad_of (Ok u) = none
bad_of (Err place) = some place

-- all of v, or 23
abbrev pub taken_by : Option ℕ → Vector → Result Vector
taken_by none v = done v
taken_by (some place) v = refused 23 place []
