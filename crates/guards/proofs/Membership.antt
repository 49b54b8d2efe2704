-- Request A12 by computation: lines of quotients, remainder and answer, in their order; 23 and its place; 13 and 14 by small limits; the call that divides a
-- lent vector, word by word.
use mathlib.Core.Path.{◌≡◌, refl}
use mathlib.Core.Option.{Option, some}
use mathlib.Core.List.{List, [], ◌∷◌, ◌++◌}
use Prim.Native.Nat.{ℕ}
use Prim.Native.String.{String}
use lib.ListN.{take, replicate}
use Rattle.definitions.specs.Limits.{Limits, document_01, with_working}
use Rattle.definitions.specs.Monomial.{Vector, Level}
use Rattle.definitions.specs.Result.{Result, done, refused}
use Rattle.definitions.specs.Stage.{stage_over}
use Rattle.definitions.specs.Problem.{Parameters}
use Rattle.definitions.specs.After.{file_of, lines_before, after, first_after}
use Rattle.definitions.specs.Membership.{Division, undivided, divide, membership}
use Rattle.definitions.specs.Packed.{low_bytes}
use Rattle.definitions.specs.Layout.{row_at, rows, Words, rows_of, padded, zeros, state_words, encode, Divide, divide_call}
use Rattle.definitions.proofs.Text.{text, bytes}
use Rattle.definitions.proofs.Instances.{xyz, xy, f₁, g₁}

-- document 01's printed file: x + y, y² + 1
abbrev basis : List String
basis = "R,7,2,1,1" ∷ "T,1,1,1,1,0" ∷ "T,1,1,1,0,1" ∷ "T,2,1,1,0,2" ∷ "T,2,1,1,0,0" ∷ "E,4" ∷ []

abbrev prints : List String → List String → Type 0
prints lines out = membership document_01 50 (text (basis ++ lines)) ≡ some (text out)

-- ## Lines

-- xy + 2x + y³ + 2y² + y + 2 = (y + 2)·f_1 + (y + 1)·f_2 + 5y + 1; by images: xy, x, y³, y²
quotients_then_remainder : prints
    ("V,1,1,1,1" ∷ "V,2,1,1,0" ∷ "V,1,1,0,3" ∷ "V,2,1,0,2" ∷ "V,1,1,0,1" ∷ "V,2,1,0,0" ∷ [])
    ("C,1,1,0,1" ∷ "C,2,1,0,0" ∷ "C,1,2,0,1" ∷ "C,1,2,0,0" ∷ "W,5,1,0,1" ∷ "W,1,1,0,0" ∷ "M,0" ∷ [])
quotients_then_remainder = refl

-- x² + 1 is a member
member : prints ("V,1,1,2,0" ∷ "V,1,1,0,0" ∷ []) ("C,1,1,1,0" ∷ "C,6,1,0,1" ∷ "C,1,2,0,0" ∷ "M,1" ∷ [])
member = refl

-- a quotient has the sign of what is taken away
element_itself : prints ("V,3,1,0,2" ∷ "V,3,1,0,0" ∷ []) ("C,3,2,0,0" ∷ "M,1" ∷ [])
element_itself = refl

-- nothing is divided
standard : prints ("V,2,1,0,1" ∷ []) ("W,2,1,0,1" ∷ "M,0" ∷ [])
standard = refl

-- "No V lines means the zero vector, which is a member."
nothing_brought : prints [] ("M,1" ∷ [])
nothing_brought = refl

-- ## 23

-- at its line: malformed, another letter, one field too many, not ended, coefficient 0 and p, component 2, exponent 256, not descending, twice the same
pub record TwentyThree : Type 0 where
  blank : prints ("V,1,1,2,0" ∷ "" ∷ []) ("X,23,8" ∷ [])
  letter : prints ("W,1,1,2,0" ∷ []) ("X,23,7" ∷ [])
  fields : prints ("V,1,1,2,0,0" ∷ []) ("X,23,7" ∷ [])
  unended : membership document_01 50 (text basis ++ bytes "V,1,1,2,0") ≡ some (text ("X,23,7" ∷ []))
  zero : prints ("V,0,1,2,0" ∷ []) ("X,23,7" ∷ [])
  large : prints ("V,7,1,2,0" ∷ []) ("X,23,7" ∷ [])
  component : prints ("V,1,2,2,0" ∷ []) ("X,23,7" ∷ [])
  exponent : prints ("V,1,1,256,0" ∷ []) ("X,23,7" ∷ [])
  ascending : prints ("V,1,1,0,1" ∷ "V,1,1,1,0" ∷ []) ("X,23,8" ∷ [])
  twice : prints ("V,1,1,1,0" ∷ "V,1,1,0,1" ∷ "V,1,1,0,1" ∷ []) ("X,23,9" ∷ [])
  -- the first bad line counts
  first : prints ("V,1,1,1,0" ∷ "V,9,1,0,1" ∷ "x" ∷ []) ("X,23,8" ∷ [])

twenty_three : TwentyThree
twenty_three = record {
  blank = refl;
  letter = refl;
  fields = refl;
  unended = refl;
  zero = refl;
  large = refl;
  component = refl;
  exponent = refl;
  ascending = refl;
  twice = refl;
  first = refl;
}

-- "tested after acceptance": 9 comes before it
nine_first : membership document_01 50 (text ("R,7,2,1,1" ∷ "T,1,1,1,2,0" ∷ "T,2,1,1,1,1" ∷ "T,2,1,1,0,2" ∷ "E,3" ∷ "x" ∷ []))
    ≡ some (text ("X,9,1" ∷ "W,6,1,0,3" ∷ []))
nine_first = refl

-- .. "and before dividing": x·y^255 would be 13
before_dividing : prints ("V,1,1,1,255" ∷ "x" ∷ []) ("X,23,8" ∷ [])
before_dividing = refl

thirteen : prints ("V,1,1,1,255" ∷ []) ("X,13,0" ∷ [])
thirteen = refl

-- ## The file in front

-- E ends it, whatever stands behind the letter; nothing behind it belongs to it
pub record Front : Type 0 where
  cut : file_of (text ("a" ∷ "Exy" ∷ "b" ∷ "E" ∷ [])) ≡ text ("a" ∷ "Exy" ∷ [])
  behind : after (text ("a" ∷ "Exy" ∷ "b" ∷ "E" ∷ [])) ≡ text ("b" ∷ "E" ∷ [])
  ahead : lines_before (text ("a" ∷ "Exy" ∷ "b" ∷ "E" ∷ [])) ≡ text ("a" ∷ [])
  number : first_after (text ("a" ∷ "Exy" ∷ "b" ∷ "E" ∷ [])) ≡ 3
  -- an E inside a line is none; without E all is the file
  inside : file_of (text ("aE" ∷ "b" ∷ [])) ≡ text ("aE" ∷ "b" ∷ [])
  unended : file_of (bytes "E,1") ≡ bytes "E,1"

front : Front
front = record { cut = refl; behind = refl; ahead = refl; number = refl; inside = refl; unended = refl }

-- 1 at E's own line
shapeless_E : membership document_01 50 (text ("R,7,2,1,1" ∷ "T,1,1,1,1,0" ∷ "Ex" ∷ "V,1,1,1,0" ∷ [])) ≡ some (text ("X,1,3" ∷ []))
shapeless_E = refl

-- ## Limits, and the call over words

-- few terms: so many in a working value and a remainder, so many in quotients
abbrev tiny : ℕ → ℕ → Limits
tiny working vector = record {
  prime_bound = 65_535;
  variables = 8;
  components = 2;
  elements = 2;
  exponent = 255;
  t_lines = 6;
  file = 999;
  field = 65_535;
  vectors = 2;
  level_terms = 6;
  levels = 2;
  working = working;
  vector = vector;
  tree = 4;
  numbering = λ code. 1;
}

abbrev parameters : Parameters
parameters = record { p = 7; n = 2; code = 1; s = 1; degrees = 0 ∷ [] }

-- the state of these levels
abbrev state : List Level → Words
state levels = encode (tiny 4 4) (state_words (tiny 4 4)) (record { parameters = parameters; levels = levels })

-- x + y, y² + 1; x + y + 1
abbrev printed : Words
printed = state (f₁ ∷ [])

abbrev three_terms : Words
three_terms = state ((((1, xy 1 0 1) ∷ (1, xy 0 1 1) ∷ (1, xy 0 0 1) ∷ []) ∷ []) ∷ [])

-- buffers of thirty words, with ones in them
abbrev ones : Words
ones = replicate 30 1

abbrev divides : Limits → Words → Vector → Option Divide → Type 0
divides lim words v answer = divide_call lim 50 words (rows_of v) ones ones ≡ answer

-- quotients and remainder with zeros behind them
abbrev leaves : Vector → Vector → Option Divide
leaves quotients remainder = some (0, 0, padded 30 (rows_of quotients), padded 30 (rows_of remainder))

abbrev stops : ℕ → ℕ → Option Divide
stops number place = some (number, place, replicate 30 0, replicate 30 0)

abbrev square : Vector
square = (1, xy 2 0 1) ∷ (1, xy 0 0 1) ∷ []

abbrev its_quotients : Vector
its_quotients = (1, xy 1 0 1) ∷ (6, xy 0 1 1) ∷ (1, xy 0 0 2) ∷ []

pub record Called : Type 0 where
  member : divides (tiny 4 4) printed square (leaves its_quotients [])
  -- "the levels above play no part"
  over_level_1 : divides (tiny 4 4) (state (g₁ ∷ f₁ ∷ [])) square (leaves its_quotients [])
  remainder : divides (tiny 4 4) printed ((3, xy 1 0 1) ∷ (1, xy 0 0 1) ∷ []) (leaves ((3, xy 0 0 1) ∷ []) ((4, xy 0 1 1) ∷ (1, xy 0 0 1) ∷ []))
  nothing : divides (tiny 4 4) printed [] (leaves [] [])
  -- whole rows only
  five_words_more : divide_call (tiny 4 4) 50 printed (rows_of square ++ replicate 5 9) ones ones ≡ leaves its_quotients []

called : Called
unfolding low_bytes row_at rows
called = record { member = refl; over_level_1 = refl; remainder = refl; nothing = refl; five_words_more = refl }

-- "Order 16 .., 11", 23, then 13 and 14
pub record RefusedInOrder : Type 0 where
  short_state : divide_call (tiny 4 4) 50 (take 9 printed) [] ones ones ≡ some (16, 0, ones, ones)
  short_quotients : divide_call (tiny 4 4) 50 printed [] (replicate 23 1) ones ≡ some (16, 0, replicate 23 1, ones)
  short_remainder : divide_call (tiny 4 4) 50 printed [] ones (replicate 23 1) ≡ some (16, 0, ones, replicate 23 1)
  -- they may have just as many
  long_enough : divide_call (tiny 4 4) 50 printed [] (replicate 24 1) (replicate 24 1) ≡ some (0, 0, replicate 24 0, replicate 24 0)
  sixteen_first : divide_call (tiny 4 4) 50 (zeros printed) (replicate 6 0) ones (replicate 23 1) ≡ some (16, 0, ones, replicate 23 1)
  eleven_next : divide_call (tiny 4 4) 50 (zeros printed) (replicate 6 0) ones ones ≡ some (11, 0, ones, ones)
  twenty_three_next : divides (tiny 4 4) printed ((1, xy 1 255 1) ∷ (0, xy 0 0 1) ∷ []) (stops 23 2)
  thirteen_last : divides (tiny 4 4) printed ((1, xy 1 255 1) ∷ []) (stops 13 0)

refused_in_order : RefusedInOrder
unfolding low_bytes row_at rows
refused_in_order = record {
  short_state = refl;
  short_quotients = refl;
  short_remainder = refl;
  long_enough = refl;
  sixteen_first = refl;
  eleven_next = refl;
  twenty_three_next = refl;
  thirteen_last = refl;
}

-- 23 with the row as its place
pub record BadRows : Type 0 where
  coefficient_0 : divides (tiny 4 4) printed ((0, xy 1 0 1) ∷ []) (stops 23 1)
  coefficient_p : divides (tiny 4 4) printed ((7, xy 1 0 1) ∷ []) (stops 23 1)
  component_0 : divides (tiny 4 4) printed ((1, xy 1 0 0) ∷ []) (stops 23 1)
  component_2 : divides (tiny 4 4) printed ((1, xy 1 0 2) ∷ []) (stops 23 1)
  past_n : divides (tiny 4 4) printed ((1, (xyz 1 0 1, 1)) ∷ []) (stops 23 1)
  ascending : divides (tiny 4 4) printed ((1, xy 2 0 1) ∷ (1, xy 0 1 1) ∷ (1, xy 1 0 1) ∷ []) (stops 23 3)
  twice : divides (tiny 4 4) printed ((1, xy 2 0 1) ∷ (1, xy 2 0 1) ∷ []) (stops 23 2)
  one_too_many : divides (tiny 2 4) printed ((1, xy 2 0 1) ∷ (1, xy 1 0 1) ∷ (1, xy 0 0 1) ∷ []) (stops 23 3)
  just_as_many : divides (tiny 2 4) printed ((1, xy 0 1 1) ∷ (1, xy 0 0 1) ∷ []) (leaves [] ((1, xy 0 1 1) ∷ (1, xy 0 0 1) ∷ []))

bad_rows : BadRows
unfolding low_bytes row_at rows
bad_rows = record {
  coefficient_0 = refl;
  coefficient_p = refl;
  component_0 = refl;
  component_2 = refl;
  past_n = refl;
  ascending = refl;
  twice = refl;
  one_too_many = refl;
  just_as_many = refl;
}

-- "Limits 13 and 14 count working value, quotients and remainder each, place 0."
pub record Limited : Type 0 where
  -- a second term of the working value: x over x + y + 1
  value_full : divides (tiny 1 4) three_terms ((1, xy 1 0 1) ∷ []) (stops 14 0)
  value_fits : divides (tiny 2 4) three_terms ((1, xy 1 0 1) ∷ []) (leaves ((1, xy 0 0 1) ∷ []) ((6, xy 0 1 1) ∷ (6, xy 0 0 1) ∷ []))
  -- a second term of the quotients
  quotients_full : divides (tiny 4 1) printed ((1, xy 2 0 1) ∷ []) (stops 14 0)
  -- one term of the remainder
  one_left : divides (tiny 1 4) printed ((1, xy 0 1 1) ∷ []) (leaves [] ((1, xy 0 1 1) ∷ []))
  -- the quotient is recorded before its products: x·y^255 for the second term would be 13
  recorded_first : divides (tiny 4 1) printed ((1, xy 2 254 1) ∷ []) (stops 14 0)
  then_products : divides (tiny 4 2) printed ((1, xy 2 254 1) ∷ []) (stops 13 0)

limited : Limited
unfolding low_bytes row_at rows
limited = record { value_full = refl; value_fits = refl; quotients_full = refl; one_left = refl; recorded_first = refl; then_products = refl }

-- two terms for the remainder, over x³
abbrev rest : ℕ → Result Division
rest working =
    divide (stage_over (with_working working document_01) 7 1 ((((1, xy 3 0 1) ∷ []) ∷ []) ∷ [])) 9 (undivided ((1, xy 1 0 1) ∷ (1, xy 0 1 1) ∷ []))

rest_full : rest 1 ≡ refused 14 0 []
rest_full = refl

rest_fits : rest 2 ≡ done (record { value = []; quotients = []; remainder = (1, xy 1 0 1) ∷ (1, xy 0 1 1) ∷ [] })
rest_fits = refl
