-- Plain notions for ranks modulo p: independent rows, choices of rows, the rank as a property of a number, products that are zero.
use Rattle.std.specs.Prelude.{◌≡◌, Bool, true, false, List, [], ◌∷◌, ℕ, ◌%◌, ◌≤◌, length}
use Rattle.definitions.specs.Rank.{Matrix, combined}

-- p divides each of them
abbrev pub AllZero : ℕ → List ℕ → Type 0
AllZero p [] = Unit {0}
AllZero p (c ∷ cs) = (c % p ≡ 0) × AllZero p cs

-- "independent": a combination of the rows, a coefficient for each, that is zero in every column has all coefficients zero modulo p
abbrev pub Independent : ℕ → Matrix → Type 0
Independent p M = (cs : List ℕ) → length cs ≡ length M → ((j : ℕ) → combined p j cs M ≡ 0) → AllZero p cs

-- the rows for which the choice says yes; it says no past its end
abbrev pub chosen : {A : Type 0} → List Bool → List A → List A
chosen choice [] = []
chosen [] (row ∷ M) = []
chosen (true ∷ choice) (row ∷ M) = row ∷ chosen choice M
chosen (false ∷ choice) (row ∷ M) = chosen choice M

-- "the largest number of independent rows": so many can be chosen, and any others that are independent are no more
pub record IsRank (p : ℕ) (M : Matrix) (r : ℕ) : Type 0 where
  pub choice : List Bool
  pub size : length (chosen choice M) ≡ r
  pub independent : Independent p (chosen choice M)
  pub largest : (other : List Bool) → Independent p (chosen other M) → length (chosen other M) ≤ r

-- A-as-B is zero modulo p: A has as many columns as B has rows, and each row of A combines the rows of B to zero
abbrev pub ProductZero : ℕ → Matrix → Matrix → Type 0
ProductZero p [] B = Unit {0}
ProductZero p (row ∷ A) B = ((length row ≡ length B) × ((j : ℕ) → combined p j row B ≡ 0)) × ProductZero p A B
