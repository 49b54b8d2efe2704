-- Minimal Betti numbers (A7) by computation: ranks, constants, pages, refusals. Ranks by their definition try all combinations: files are small, and so is p.
use mathlib.Core.Path.{◌≡◌, refl}
use mathlib.Core.Bool.{true, false}
use mathlib.Core.Option.{some}
use mathlib.Core.List.{List, [], ◌∷◌}
use Prim.Native.String.{String}
use Rattle.definitions.specs.Limits.{Limits, document_01}
use Rattle.definitions.specs.Monomial.{Vector}
use Rattle.definitions.specs.Rank.{coefficients, independent?, choices, rank}
use Rattle.definitions.specs.Minimal.{constant, constants, minimal}
use Rattle.definitions.proofs.Text.{text}
use Rattle.definitions.proofs.Views.{limited}

-- ## Ranks

all_pairs : coefficients 2 2 ≡ (0 ∷ 0 ∷ []) ∷ (0 ∷ 1 ∷ []) ∷ (1 ∷ 0 ∷ []) ∷ (1 ∷ 1 ∷ []) ∷ []
all_pairs = refl

all_choices : choices ((1 ∷ []) ∷ (2 ∷ []) ∷ []) ≡ [] ∷ ((2 ∷ []) ∷ []) ∷ ((1 ∷ []) ∷ []) ∷ ((1 ∷ []) ∷ (2 ∷ []) ∷ []) ∷ []
all_choices = refl

-- the second row is 3 times the first modulo 5, and not modulo 7
dependent : independent? 5 ((1 ∷ 2 ∷ []) ∷ (3 ∷ 1 ∷ []) ∷ []) ≡ false
dependent = refl

independent : independent? 7 ((1 ∷ 2 ∷ []) ∷ (3 ∷ 1 ∷ []) ∷ []) ≡ true
independent = refl

-- "its rank modulo p"
modulo_5 : rank 5 ((1 ∷ 2 ∷ []) ∷ (3 ∷ 1 ∷ []) ∷ []) ≡ 1
modulo_5 = refl

modulo_7 : rank 7 ((1 ∷ 2 ∷ []) ∷ (3 ∷ 1 ∷ []) ∷ []) ≡ 2
modulo_7 = refl

-- the sum of all three is zero modulo 2 alone, where any two are independent
three_rows : rank 2 ((1 ∷ 1 ∷ 0 ∷ []) ∷ (0 ∷ 1 ∷ 1 ∷ []) ∷ (1 ∷ 0 ∷ 1 ∷ []) ∷ []) ≡ 2
three_rows = refl

three_rows_by_3 : rank 3 ((1 ∷ 1 ∷ 0 ∷ []) ∷ (0 ∷ 1 ∷ 1 ∷ []) ∷ (1 ∷ 0 ∷ 1 ∷ []) ∷ []) ≡ 3
three_rows_by_3 = refl

-- no rows, no columns, numbers that p divides, rows of two lengths
no_rows : rank 7 [] ≡ 0
no_rows = refl

no_columns : rank 3 ([] ∷ [] ∷ []) ≡ 0
no_columns = refl

zeros : rank 3 ((3 ∷ 6 ∷ []) ∷ []) ≡ 0
zeros = refl

short_row : rank 3 ((1 ∷ []) ∷ (1 ∷ 1 ∷ []) ∷ []) ≡ 2
short_row = refl

-- ## Constants

-- 2·x·e_1 + 5·e_2 + 4·e_1: x·e_1 is no constant
abbrev three_terms : Vector
three_terms = (2, (1 ∷ 0 ∷ 0 ∷ 0 ∷ 0 ∷ 0 ∷ 0 ∷ 0 ∷ [], 1)) ∷ (5, (0 ∷ 0 ∷ 0 ∷ 0 ∷ 0 ∷ 0 ∷ 0 ∷ 0 ∷ [], 2)) ∷ (4, (0 ∷ 0 ∷ 0 ∷ 0 ∷ 0 ∷ 0 ∷ 0 ∷ 0 ∷ [], 1)) ∷ []

at_1 : constant three_terms 1 ≡ 4
at_1 = refl

at_2 : constant three_terms 2 ≡ 5
at_2 = refl

at_3 : constant three_terms 3 ≡ 0
at_3 = refl

-- "between generators of that degree": e_1 and e_3 of degree 2, the vector too
by_degree : constants 12 (2 ∷ 1 ∷ 2 ∷ []) (2 ∷ 1 ∷ []) (three_terms ∷ three_terms ∷ []) ≡ (4 ∷ 0 ∷ []) ∷ []
by_degree = refl

-- ## Pages

abbrev prints : List String → List String → Type 0
prints file lines = minimal document_01 99 (text file) ≡ some (text lines)

-- x, x, y: the vector e_2 + 6·e_1 is of the elements' degree; the rows are those of A1's page
repeated : prints
    ("R,7,2,1,1" ∷ "T,1,1,1,1,0" ∷ "T,2,1,1,1,0" ∷ "T,3,1,1,0,1" ∷ "E,3" ∷ [])
    ("   -1:     -     -     -     -     -     -     -     -     -     -     -" ∷
    "    0:     1     2     1     -     -     -     -     -     -     -     -" ∷
    " total     1     2     1     -     -     -     -     -     -     -     -" ∷ [])
repeated = refl

-- nothing to leave out: A1's numbers
quadrics : prints
    ("R,7,2,1,1" ∷ "T,1,1,1,2,0" ∷ "T,2,1,1,1,1" ∷ "T,3,1,1,0,2" ∷ "E,3" ∷ [])
    ("    0:     1     -     -     -     -     -     -     -     -     -     -" ∷
    "    1:     -     3     2     -     -     -     -     -     -     -     -" ∷
    " total     1     3     2     -     -     -     -     -     -     -     -" ∷ [])
quadrics = refl

-- "from column 0 to 1 likewise": a constant leaves nothing
constant_element : prints
    ("R,7,2,1,1" ∷ "T,1,1,1,0,0" ∷ "E,1" ∷ [])
    ("   -1:     -     -     -     -     -     -     -     -     -     -     -" ∷
    "    0:     -     -     -     -     -     -     -     -     -     -     -" ∷
    " total     -     -     -     -     -     -     -     -     -     -     -" ∷ [])
constant_element = refl

-- e_1 + x·e_2 with degrees 1 and 0: component 1 is left out with the element; without D it has two degrees
by_degrees : prints
    ("R,3,1,1,2" ∷ "D,1,0" ∷ "T,1,1,2,1" ∷ "T,1,1,1,0" ∷ "E,2" ∷ [])
    ("    0:     1     -     -     -     -     -     -     -     -     -     -" ∷
    "    1:     -     -     -     -     -     -     -     -     -     -     -" ∷
    " total     1     -     -     -     -     -     -     -     -     -     -" ∷ [])
by_degrees = refl

seventeen : prints ("R,3,1,1,2" ∷ "T,1,1,2,1" ∷ "T,1,1,1,0" ∷ "E,2" ∷ []) ("X,17,1" ∷ [])
seventeen = refl

-- ## Refusals

nine : prints ("R,7,2,1,2" ∷ "T,1,1,1,1,0" ∷ "T,1,1,2,0,0" ∷ "T,2,1,1,0,1" ∷ "E,3" ∷ []) ("X,9,1" ∷ "W,6,2,0,1" ∷ [])
nine = refl

-- "When the program of a request refuses, the X line is the first that it prints."
alone : minimal (limited 255 128 2_048 512 2 4_096) 99 (text ("R,7,3,1,1" ∷ "T,1,1,1,1,0,0" ∷ "T,2,1,1,0,1,0" ∷ "T,3,1,1,0,0,1" ∷ "E,3" ∷ []))
    ≡ some (text ("X,14,2" ∷ []))
alone = refl

no_shape : prints ("R,7,2,1" ∷ "E,0" ∷ []) ("X,1,1" ∷ [])
no_shape = refl

-- "20 .. when level 9 is not empty, tested after all lifting": with level 1 as the last
abbrev one_level : Limits
one_level = record {
  prime_bound = 65_535;
  variables = 8;
  components = 16;
  elements = 64;
  exponent = 255;
  t_lines = 2_048;
  file = 65_536;
  field = 65_535;
  vectors = 128;
  level_terms = 2_048;
  levels = 1;
  working = 512;
  vector = 512;
  tree = 4_096;
  numbering = λ code. 1;
}

twenty : minimal one_level 99 (text ("R,7,2,1,1" ∷ "T,1,1,1,1,0" ∷ "T,2,1,1,0,1" ∷ "E,2" ∷ [])) ≡ some (text ("X,20,1" ∷ []))
twenty = refl

-- .. and where it is empty
ended : minimal one_level 99 (text ("R,7,2,1,1" ∷ "T,1,1,1,1,0" ∷ "E,1" ∷ []))
    ≡ minimal document_01 99 (text ("R,7,2,1,1" ∷ "T,1,1,1,1,0" ∷ "E,1" ∷ []))
ended = refl

-- 17 is told first
seventeen_first : minimal one_level 99 (text ("R,7,2,1,1" ∷ "T,1,1,1,1,0" ∷ "T,2,1,1,0,1" ∷ "T,2,1,1,0,0" ∷ "E,3" ∷ [])) ≡ some (text ("X,17,2" ∷ []))
seventeen_first = refl
