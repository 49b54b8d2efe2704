-- "Rank is defined as the largest number of independent rows, without reference to elimination." (request A7)
use Rattle.std.specs.Prelude.{Bool, not, ◌||◌, List, [], ◌∷◌, ◌++◌, ℕ, zero, suc, max, eqb, length, get_or}
use Rattle.definitions.specs.Lists.{every, those, map, from}
use Rattle.definitions.specs.Field.{plus, times}

-- numbers, each standing for its remainder modulo p; past a row's end stand zeros
abbrev pub Row : Type 0
Row = List ℕ

abbrev pub Matrix : Type 0
Matrix = List Row

-- how many columns the longest row has
abbrev pub width : Matrix → ℕ
width [] = 0
width (r ∷ M) = max (length r) (width M)

-- the number in column j, counted from 0, of c_1·r_1 + c_2·r_2 + .., modulo p
abbrev pub combined : ℕ → ℕ → List ℕ → Matrix → ℕ
combined p j cs [] = 0
combined p j [] (r ∷ M) = 0
combined p j (c ∷ cs) (r ∷ M) = plus p (times p c (get_or r j 0)) (combined p j cs M)

-- that combination is zero
abbrev pub zero_combination? : ℕ → List ℕ → Matrix → Bool
zero_combination? p cs M = every (λ j. eqb (combined p j cs M) 0) (from 0 (width M))

-- each of these in front of each of those lists
abbrev pub in_front : List ℕ → List (List ℕ) → List (List ℕ)
in_front [] ls = []
in_front (c ∷ cs) ls = map (λ l. c ∷ l) ls ++ in_front cs ls

-- all lists of so many numbers from 0 to p − 1
abbrev pub coefficients : ℕ → ℕ → List (List ℕ)
coefficients p zero = [] ∷ []
coefficients p (suc k) = in_front (from 0 p) (coefficients p k)

-- "independent": only with all coefficients zero is a combination of the rows zero
abbrev pub independent? : ℕ → Matrix → Bool
independent? p M = every (λ cs. every (λ c. eqb c 0) cs || not (zero_combination? p cs M)) (coefficients p (length M))

-- all choices of rows
abbrev pub choices : Matrix → List Matrix
choices [] = [] ∷ []
choices (r ∷ M) = choices M ++ map (λ l. r ∷ l) (choices M)

abbrev pub longest : List Matrix → ℕ
longest [] = 0
longest (M ∷ others) = max (length M) (longest others)

-- "the largest number of independent rows"
abbrev pub rank : ℕ → Matrix → ℕ
rank p M = longest (those (independent? p) (choices M))
