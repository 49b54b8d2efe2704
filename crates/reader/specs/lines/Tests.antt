-- The tests on one line, by the sixteen numbers of its fields (zeros behind those that it has) and by what was read before it.
use Rattle.std.specs.Prelude.{Bool, true, false, not, ◌||◌, [], ℕ, suc, ⊤, Result as CodeResult, Ok, Err, leb, ltb, eqb, get_or, take, drop}
use Rattle.definitions.specs.Limits.{document_01}
use Rattle.definitions.specs.Lists.{◌and◌}
use Rattle.definitions.specs.Monomial.{Term}
use Rattle.definitions.specs.Order.{compare_over, greater?}
use Rattle.definitions.specs.Problem as definition
use Rattle.definitions.specs.Problem.{prime_in_range?, in_ranges?, term_in_range?}
use Rattle.definitions.specs.Layout.{Words}
use Rattle.definitions.specs.Places.{most_elements, most_rows}
use Rattle.words.specs.declared.refusals.Refusal.{Refusal}
use Rattle.words.specs.refusals.Numbers.{number_of}

-- the term of a T line: "exponents past n are zero"
abbrev pub term_in : Words → Term
term_in w = (get_or w 1 0, (take 8 (drop 3 w), get_or w 2 0))

-- a refusal's number: the first test that fails; 0 where none does
abbrev pub unless : Bool → ℕ → ℕ → ℕ
unless true number later = later
unless false number later = number

-- the line begins the next element after r elements
abbrev pub begins? : ℕ → ℕ → Bool
begins? r e = eqb e (suc r)

-- .. or goes on with the last one
abbrev pub goes_on? : ℕ → ℕ → Bool
goes_on? r e = eqb e r and not (eqb r 0)

-- not 5: "element number out of sequence or above 64"
abbrev pub follows? : ℕ → ℕ → Bool
follows? r e = (begins? r e || goes_on? r e) and leb e most_elements

-- the term before is the greater one
abbrev pub above? : ℕ → Words → Words → Bool
above? code before w = greater? (compare_over code [] (term_in before).1 (term_in w).1)

-- not 6: "term not below the one before it in its element"
abbrev pub descends? : ℕ → ℕ → Words → Words → Bool
descends? code r before w = begins? r (get_or w 0 0) || above? code before w

-- "1, 8, 5, 4, 6 for T", after the shape
abbrev pub t_number : definition.Parameters → ℕ → ℕ → Words → Words → ℕ
t_number q count r before w =
    unless (ltb count most_rows) 8
    (unless (follows? r (get_or w 0 0)) 5 (unless (term_in_range? document_01 q (term_in w)) 4 (unless (descends? q.code r before w) 6 0)))

-- "1, then 2, 3 for R", after the shape
abbrev pub r_number : definition.Parameters → ℕ
r_number q = unless (prime_in_range? document_01 q.p) 2 (unless (in_ranges? document_01 q) 3 0)

-- ## What the code says

-- the number of a refusal, 0 where there is none
abbrev pub number_said : CodeResult ⊤ Refusal → ℕ
number_said (Ok u) = 0
number_said (Err e) = number_of e
