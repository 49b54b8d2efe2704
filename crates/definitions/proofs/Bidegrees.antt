-- Two degrees side by side (A14) by computation: the G line, the lines of bidegrees as bytes, and refusals.
use mathlib.Core.Path.{◌≡◌, refl}
use mathlib.Core.Option.{some}
use mathlib.Core.List.{List, [], ◌∷◌}
use Prim.Native.Nat.{ℕ}
use Prim.Native.String.{String}
use Rattle.definitions.specs.Limits.{document_01}
use Rattle.definitions.specs.Sheet.{sheet}
use Rattle.definitions.specs.Betti.{betti}
use Rattle.definitions.specs.Bidegrees.{bidegrees}
use Rattle.definitions.proofs.Text.{text}
use Rattle.definitions.proofs.Views.{limited}

abbrev lists : List String → List String → Type 0
lists file lines = sheet document_01 99 (text file) ≡ some (text lines)

abbrev pages : List String → List String → Type 0
pages file lines = betti document_01 99 (text file) ≡ some (text lines)

abbrev prints : List String → List String → Type 0
prints file lines = bidegrees document_01 99 (text file) ≡ some (text lines)

-- ## The G line

-- the sheet is what it is without G: the printed example
abbrev its_sheet : List String
its_sheet = "S,1,1,1,2,1,0" ∷ "S,1,1,6,1,0,2" ∷ "S,1,1,6,1,0,0" ∷ "S,1,1,1,2,0,1" ∷ "Z,1,1" ∷ "Z,2,0" ∷ []

without_line : lists ("R,7,2,1,1" ∷ "T,1,1,1,1,0" ∷ "T,1,1,1,0,1" ∷ "T,2,1,1,0,2" ∷ "T,2,1,1,0,0" ∷ "E,4" ∷ []) its_sheet
without_line = refl

with_line : lists ("R,7,2,1,1" ∷ "G,1,0,0,1" ∷ "T,1,1,1,1,0" ∷ "T,1,1,1,0,1" ∷ "T,2,1,1,0,2" ∷ "T,2,1,1,0,0" ∷ "E,4" ∷ []) its_sheet
with_line = refl

-- "after R or, where there is one, D"
behind_degrees : lists ("R,7,2,1,1" ∷ "D,4" ∷ "G,1,0,0,1" ∷ "T,1,1,1,1,0" ∷ "T,1,1,1,0,1" ∷ "T,2,1,1,0,2" ∷ "T,2,1,1,0,0" ∷ "E,4" ∷ []) its_sheet
behind_degrees = refl

-- .. 9, with its place and its value, too
nine_with : lists ("R,7,2,1,2" ∷ "G,1,0,0,1" ∷ "T,1,1,1,1,0" ∷ "T,1,1,2,0,0" ∷ "T,2,1,1,0,1" ∷ "E,3" ∷ []) ("X,9,1" ∷ "W,6,2,0,1" ∷ [])
nine_with = refl

-- "A1's page is unaffected by G": x², xy, y²
abbrev its_page : List String
its_page =
    "    0:     1     -     -     -     -     -     -     -     -     -     -" ∷
    "    1:     -     3     2     -     -     -     -     -     -     -     -" ∷
    " total     1     3     2     -     -     -     -     -     -     -     -" ∷ []

page_without : pages ("R,7,2,1,1" ∷ "T,1,1,1,2,0" ∷ "T,2,1,1,1,1" ∷ "T,3,1,1,0,2" ∷ "E,3" ∷ []) its_page
page_without = refl

page_with : pages ("R,7,2,1,1" ∷ "G,2,3,4,5" ∷ "T,1,1,1,2,0" ∷ "T,2,1,1,1,1" ∷ "T,3,1,1,0,2" ∷ "E,3" ∷ []) its_page
page_with = refl

-- D comes before it, and each comes once
before_degrees : lists ("R,7,2,1,1" ∷ "G,1,0,0,1" ∷ "D,0" ∷ "T,1,1,1,1,0" ∷ "E,1" ∷ []) ("X,1,3" ∷ [])
before_degrees = refl

second_line : lists ("R,7,2,1,1" ∷ "G,1,0,0,1" ∷ "G,1,0,0,1" ∷ "T,1,1,1,1,0" ∷ "E,1" ∷ []) ("X,1,3" ∷ [])
second_line = refl

second_behind_degrees : lists ("R,7,2,1,1" ∷ "D,0" ∷ "G,1,0,0,1" ∷ "G,1,0,0,1" ∷ "T,1,1,1,1,0" ∷ "E,1" ∷ []) ("X,1,4" ∷ [])
second_behind_degrees = refl

after_a_term : lists ("R,7,2,1,1" ∷ "T,1,1,1,1,0" ∷ "G,1,0,0,1" ∷ "E,1" ∷ []) ("X,1,3" ∷ [])
after_a_term = refl

before_r : lists ("G,1,0,0,1" ∷ "R,7,2,1,1" ∷ "T,1,1,1,1,0" ∷ "E,1" ∷ []) ("X,1,1" ∷ [])
before_r = refl

-- "a1,b1,..,an,bn": two weights for each variable
too_few : lists ("R,7,2,1,1" ∷ "G,1,0,0" ∷ "T,1,1,1,1,0" ∷ "E,1" ∷ []) ("X,1,2" ∷ [])
too_few = refl

too_many : lists ("R,7,2,1,1" ∷ "G,1,0,0,1,0" ∷ "T,1,1,1,1,0" ∷ "E,1" ∷ []) ("X,1,2" ∷ [])
too_many = refl

one_each : lists ("R,7,2,1,1" ∷ "G,1,0" ∷ "T,1,1,1,1,0" ∷ "E,1" ∷ []) ("X,1,2" ∷ [])
one_each = refl

too_few_behind_degrees : lists ("R,7,2,1,1" ∷ "D,0" ∷ "G,1,0,0" ∷ "T,1,1,1,1,0" ∷ "E,1" ∷ []) ("X,1,3" ∷ [])
too_few_behind_degrees = refl

leading_zero : lists ("R,7,2,1,1" ∷ "G,01,0,0,1" ∷ "T,1,1,1,1,0" ∷ "E,1" ∷ []) ("X,1,2" ∷ [])
leading_zero = refl

above_a_field : lists ("R,7,2,1,1" ∷ "G,16,0,0,65536" ∷ "T,1,1,1,1,0" ∷ "E,1" ∷ []) ("X,1,2" ∷ [])
above_a_field = refl

-- "24 when a weight is above 15, after its line's shape"
weight_15 : lists ("R,7,2,1,1" ∷ "G,15,15,15,15" ∷ "T,1,1,1,1,0" ∷ "E,1" ∷ []) ("Z,1,0" ∷ [])
weight_15 = refl

first_16 : lists ("R,7,2,1,1" ∷ "G,16,0,0,1" ∷ "T,1,1,1,1,0" ∷ "E,1" ∷ []) ("X,24,2" ∷ [])
first_16 = refl

last_16 : lists ("R,7,2,1,1" ∷ "G,1,0,0,16" ∷ "T,1,1,1,1,0" ∷ "E,1" ∷ []) ("X,24,2" ∷ [])
last_16 = refl

weight_65535 : lists ("R,7,2,1,1" ∷ "G,0,65535,0,0" ∷ "E,0" ∷ []) ("X,24,2" ∷ [])
weight_65535 = refl

behind_degrees_16 : lists ("R,7,2,1,1" ∷ "D,255" ∷ "G,1,0,0,16" ∷ "T,1,1,1,1,0" ∷ "E,1" ∷ []) ("X,24,3" ∷ [])
behind_degrees_16 = refl

shape_first : lists ("R,7,2,1,1" ∷ "G,16,0,0" ∷ "T,1,1,1,1,0" ∷ "E,1" ∷ []) ("X,1,2" ∷ [])
shape_first = refl

degrees_first : lists ("R,7,2,1,1" ∷ "D,256" ∷ "G,16,0,0,1" ∷ "E,0" ∷ []) ("X,18,2" ∷ [])
degrees_first = refl

r_first : lists ("R,7,2,4,1" ∷ "G,16,0,0,1" ∷ "E,0" ∷ []) ("X,3,1" ∷ [])
r_first = refl

-- the lines behind it have the next numbers
term_on_line_3 : lists ("R,7,2,1,1" ∷ "G,1,0,0,1" ∷ "T,1,1,1,256,0" ∷ "E,1" ∷ []) ("X,4,3" ∷ [])
term_on_line_3 = refl

term_on_line_4 : lists ("R,7,2,1,1" ∷ "D,1" ∷ "G,1,0,0,1" ∷ "T,1,1,1,256,0" ∷ "E,1" ∷ []) ("X,4,4" ∷ [])
term_on_line_4 = refl

end_on_line_4 : lists ("R,7,2,1,1" ∷ "G,1,0,0,1" ∷ "T,1,1,1,1,0" ∷ "E,2" ∷ []) ("X,7,4" ∷ [])
end_on_line_4 = refl

absent_line_3 : lists ("R,7,2,1,1" ∷ "G,1,0,0,1" ∷ []) ("X,1,3" ∷ [])
absent_line_3 = refl

-- ## Bidegrees

-- x², xy, y², with x of bidegree (1, 0), y of (0, 1): "by column, then a, then b, ascending"
quadrics : prints ("R,7,2,1,1" ∷ "G,1,0,0,1" ∷ "T,1,1,1,2,0" ∷ "T,2,1,1,1,1" ∷ "T,3,1,1,0,2" ∷ "E,3" ∷ [])
    ("B,0,0,0,1" ∷ "B,1,0,2,1" ∷ "B,1,1,1,1" ∷ "B,1,2,0,1" ∷ "B,2,1,2,1" ∷ "B,2,2,1,1" ∷ [])
quadrics = refl

-- "with D added to the first"
shifted : prints ("R,7,2,1,1" ∷ "D,3" ∷ "G,1,0,0,1" ∷ "T,1,1,1,2,0" ∷ "T,2,1,1,1,1" ∷ "T,3,1,1,0,2" ∷ "E,3" ∷ [])
    ("B,0,3,0,1" ∷ "B,1,3,2,1" ∷ "B,1,4,1,1" ∷ "B,1,5,0,1" ∷ "B,2,4,2,1" ∷ "B,2,5,1,1" ∷ [])
shifted = refl

-- "Without G the weights are 1 and 0"; each count is that of A1's page
plain : prints ("R,7,2,1,1" ∷ "T,1,1,1,2,0" ∷ "T,2,1,1,1,1" ∷ "T,3,1,1,0,2" ∷ "E,3" ∷ []) ("B,0,0,0,1" ∷ "B,1,2,0,3" ∷ "B,2,3,0,2" ∷ [])
plain = refl

plain_shifted : prints ("R,7,2,1,1" ∷ "D,3" ∷ "T,1,1,1,2,0" ∷ "T,2,1,1,1,1" ∷ "T,3,1,1,0,2" ∷ "E,3" ∷ []) ("B,0,3,0,1" ∷ "B,1,5,0,3" ∷ "B,2,6,0,2" ∷ [])
plain_shifted = refl

-- two points of P¹ × P¹, in x1, x2 of bidegree (1, 0) and y1, y2 of (0, 1): x1x2, x2y1, x1y2, y1y2. Counts above 1; (0, 0), (1, 0), .. have no line
two_points : prints
    ("R,7,4,3,1" ∷ "G,1,0,1,0,0,1,0,1" ∷ "T,1,1,1,1,1,0,0" ∷ "T,2,1,1,0,1,1,0" ∷ "T,3,1,1,1,0,0,1" ∷ "T,4,1,1,0,0,1,1" ∷ "E,4" ∷ [])
    ("B,0,0,0,1" ∷ "B,1,0,2,1" ∷ "B,1,1,1,2" ∷ "B,1,2,0,1" ∷ "B,2,1,2,2" ∷ "B,2,2,1,2" ∷ "B,3,2,2,1" ∷ [])
two_points = refl

-- the diagonal, x1y2 − x2y1: elements of two terms
diagonal : prints ("R,7,4,1,1" ∷ "G,1,0,1,0,0,1,0,1" ∷ "T,1,1,1,1,0,0,1" ∷ "T,1,6,1,0,1,1,0" ∷ "E,2" ∷ []) ("B,0,0,0,1" ∷ "B,1,1,1,1" ∷ [])
diagonal = refl

-- the same a: by b. The vector of level 1 has the sum of both
same_first : prints ("R,7,2,1,1" ∷ "G,1,3,2,0" ∷ "T,1,1,1,2,0" ∷ "T,2,1,1,0,1" ∷ "E,2" ∷ [])
    ("B,0,0,0,1" ∷ "B,1,2,0,1" ∷ "B,1,2,6,1" ∷ "B,2,4,6,1" ∷ [])
same_first = refl

-- the largest weights and exponents
large : prints ("R,7,2,1,1" ∷ "G,15,15,0,7" ∷ "T,1,1,1,255,0" ∷ "T,2,1,1,0,255" ∷ "E,2" ∷ [])
    ("B,0,0,0,1" ∷ "B,1,0,1785,1" ∷ "B,1,3825,3825,1" ∷ "B,2,3825,5610,1" ∷ [])
large = refl

-- column 0: two components have degree 5
by_components : prints ("R,7,2,1,3" ∷ "D,5,0,5" ∷ "G,1,0,0,1" ∷ "T,1,1,1,1,0" ∷ "E,1" ∷ []) ("B,0,0,0,1" ∷ "B,0,5,0,2" ∷ "B,1,6,0,1" ∷ [])
by_components = refl

-- weights 0
nothing_weighs : prints ("R,7,2,1,1" ∷ "G,0,0,0,0" ∷ "T,1,1,1,2,0" ∷ "T,2,1,1,1,1" ∷ "T,3,1,1,0,2" ∷ "E,3" ∷ [])
    ("B,0,0,0,1" ∷ "B,1,0,0,3" ∷ "B,2,0,0,2" ∷ [])
nothing_weighs = refl

-- ## 25

-- "its place the first such element, when some element has terms of two bidegrees"
mixed : prints ("R,7,2,1,1" ∷ "G,1,0,0,1" ∷ "T,1,1,1,2,0" ∷ "T,2,1,1,0,2" ∷ "T,2,1,1,0,1" ∷ "E,3" ∷ []) ("X,25,2" ∷ [])
mixed = refl

first_of_two : prints ("R,7,2,1,1" ∷ "G,1,0,0,1" ∷ "T,1,1,1,2,0" ∷ "T,1,1,1,1,0" ∷ "T,2,1,1,0,2" ∷ "T,2,1,1,0,1" ∷ "E,4" ∷ []) ("X,25,1" ∷ [])
first_of_two = refl

-- the last of three terms alone has another
last_term : prints ("R,7,2,1,1" ∷ "T,1,1,1,2,0" ∷ "T,1,1,1,1,1" ∷ "T,1,1,1,0,1" ∷ "E,3" ∷ []) ("X,25,1" ∷ [])
last_term = refl

-- the second alone differs, the first alone
second_differs : prints ("R,7,2,1,1" ∷ "G,1,0,1,1" ∷ "T,1,1,1,1,0" ∷ "T,1,1,1,0,1" ∷ "E,2" ∷ []) ("X,25,1" ∷ [])
second_differs = refl

first_differs : prints ("R,7,2,1,1" ∷ "G,1,1,0,1" ∷ "T,1,1,1,1,0" ∷ "T,1,1,1,0,1" ∷ "E,2" ∷ []) ("X,25,1" ∷ [])
first_differs = refl

-- x·e_1 + e_2: D is added to the first
by_component : prints ("R,7,1,1,2" ∷ "G,1,0" ∷ "T,1,1,1,1" ∷ "T,1,1,2,0" ∷ "E,2" ∷ []) ("X,25,1" ∷ [])
by_component = refl

by_degrees : prints ("R,7,1,1,2" ∷ "D,0,1" ∷ "G,1,0" ∷ "T,1,1,1,1" ∷ "T,1,1,2,0" ∷ "E,2" ∷ []) ("B,0,0,0,1" ∷ "B,0,1,0,1" ∷ "B,1,1,0,1" ∷ [])
by_degrees = refl

first_alone : prints ("R,7,1,1,2" ∷ "D,0,1" ∷ "G,0,1" ∷ "T,1,1,1,1" ∷ "T,1,1,2,0" ∷ "E,2" ∷ []) ("X,25,1" ∷ [])
first_alone = refl

-- "25 here instead of 17": x + y has one degree and two bidegrees
one_degree : pages ("R,7,2,1,1" ∷ "G,1,0,0,1" ∷ "T,1,1,1,1,0" ∷ "T,1,1,1,0,1" ∷ "E,2" ∷ [])
    ("    0:     1     1     -     -     -     -     -     -     -     -     -" ∷
    " total     1     1     -     -     -     -     -     -     -     -     -" ∷ [])
one_degree = refl

two_bidegrees : prints ("R,7,2,1,1" ∷ "G,1,0,0,1" ∷ "T,1,1,1,1,0" ∷ "T,1,1,1,0,1" ∷ "E,2" ∷ []) ("X,25,1" ∷ [])
two_bidegrees = refl

-- x² + y with y of weights 2 and 2 has one bidegree and two degrees
two_degrees : pages ("R,7,2,1,1" ∷ "G,1,1,2,2" ∷ "T,1,1,1,2,0" ∷ "T,1,1,1,0,1" ∷ "T,2,1,1,0,3" ∷ "E,3" ∷ []) ("X,17,1" ∷ [])
two_degrees = refl

one_bidegree : prints ("R,7,2,1,1" ∷ "G,1,1,2,2" ∷ "T,1,1,1,2,0" ∷ "T,1,1,1,0,1" ∷ "T,2,1,1,0,3" ∷ "E,3" ∷ [])
    ("B,0,0,0,1" ∷ "B,1,2,2,1" ∷ "B,1,6,6,1" ∷ "B,2,8,8,1" ∷ [])
one_bidegree = refl

-- "after acceptance": element 1 has terms of two bidegrees
nine_first : prints ("R,7,2,1,2" ∷ "G,1,0,0,1" ∷ "T,1,1,1,1,0" ∷ "T,1,1,2,0,0" ∷ "T,2,1,1,0,1" ∷ "E,3" ∷ []) ("X,9,1" ∷ "W,6,2,0,1" ∷ [])
nine_first = refl

-- ## Refusals

-- with vectors of at most so many terms
abbrev prints_within : ℕ → List String → List String → Type 0
prints_within terms file lines = bidegrees (limited 255 128 2_048 512 terms 4_096) 99 (text file) ≡ some (text lines)

-- 25 before lifting: level 2 is refused
before_lifting : prints_within 3 ("R,7,3,1,1" ∷ "G,1,0,0,1,1,0" ∷ "T,1,1,1,1,0,0" ∷ "T,2,1,1,0,1,0" ∷ "T,3,1,1,0,0,2" ∷ "T,3,1,1,0,0,1" ∷ "E,4" ∷ [])
    ("X,25,3" ∷ [])
before_lifting = refl

refused_lifting : prints_within 3 ("R,7,3,1,1" ∷ "G,1,0,0,1,0,0" ∷ "T,1,1,1,1,0,0" ∷ "T,2,1,1,0,1,0" ∷ "T,3,1,1,0,0,2" ∷ "T,3,1,1,0,0,1" ∷ "E,4" ∷ [])
    ("X,14,2" ∷ [])
refused_lifting = refl

-- the refusals of reading
no_shape : prints ("R,7,2,1" ∷ "E,0" ∷ []) ("X,1,1" ∷ [])
no_shape = refl

eighteen : prints ("R,7,2,1,1" ∷ "D,256" ∷ "T,1,1,1,1,0" ∷ "E,1" ∷ []) ("X,18,2" ∷ [])
eighteen = refl

twenty_four : prints ("R,7,2,1,1" ∷ "G,1,0,0,16" ∷ "T,1,1,1,1,0" ∷ "E,1" ∷ []) ("X,24,2" ∷ [])
twenty_four = refl

not_descending : prints ("R,7,2,1,1" ∷ "G,1,0,0,1" ∷ "T,1,1,1,0,1" ∷ "T,1,1,1,1,0" ∷ "E,2" ∷ []) ("X,6,4" ∷ [])
not_descending = refl
