-- Plain notions for request A13: the monomials that are counted, lists that have each of them once, and the alternating sum over A1's columns.
use Rattle.std.specs.Prelude.{◌≡◌, List, [], ◌∷◌, ℕ, suc, ◌-◌, ◌*◌, ◌≤◌, length, get_or}
use Rattle.definitions.specs.Lists.{map, from, sum}
use Rattle.definitions.specs.Monomial.{Monomial, Level}
use Rattle.definitions.specs.Problem.{Parameters}
use Rattle.definitions.specs.Degrees.{degree_by}
use Rattle.definitions.specs.Standard.{of_degree_in}
use Rattle.definitions.specs.Places.{exponents_length}
use Rattle.demands.specs.Notions.{Member, Divided}
use Rattle.betti.specs.Notions.{generators}

-- ## Monomials

-- of level 0's free module: "A monomial is eight exponents and a component; exponents past n are zero."
pub record InModule (q : Parameters) (m : Monomial) : Type 0 where
  pub eight : length m.0 ≡ exponents_length
  pub past : (i : ℕ) → q.n ≤ i → get_or m.0 i 0 ≡ 0
  pub low : 1 ≤ m.1
  pub high : m.1 ≤ q.s

-- one of the "monomials of that degree, components' degrees included, that no leading monomial of the basis divides"
pub record Undivided (q : Parameters) (f : Level) (d : ℕ) (m : Monomial) : Type 0 where
  pub inside : InModule q m
  pub degree : degree_by q.degrees m ≡ d
  pub no_divisor : ¬ (Divided f m)

-- ## Each once

abbrev pub Distinct : {A : Type 0} → List A → Type 0
Distinct [] = Unit {0}
Distinct (a ∷ l) = (¬ (Member a l)) × Distinct l

-- the list has all that P holds of, nothing else, and none twice: its length is their number
pub record ListsEach {A : Type 0} (P : A → Type 0) (l : List A) : Type 0 where
  pub all : (a : A) → P a → Member a l
  pub only : (a : A) → Member a l → P a
  pub once : Distinct l

-- ## The alternating sum

-- "the number of monomials of the degree left after the generator's own; a generator of higher degree counts nothing": over the generators of
-- column c, counted by their degrees, which are 0 to d
abbrev pub over_column : Parameters → List Level → ℕ → ℕ → ℕ
over_column q levels d c = sum (map (λ x. generators q levels c x * length (of_degree_in q.n (d - x))) (from 0 (suc d)))

-- "column 0 positive"
abbrev pub added : Parameters → List Level → ℕ → ℕ
added q levels d = sum (map (over_column q levels d) (0 ∷ 2 ∷ 4 ∷ 6 ∷ 8 ∷ 10 ∷ []))

abbrev pub taken_away : Parameters → List Level → ℕ → ℕ
taken_away q levels d = sum (map (over_column q levels d) (1 ∷ 3 ∷ 5 ∷ 7 ∷ 9 ∷ []))
