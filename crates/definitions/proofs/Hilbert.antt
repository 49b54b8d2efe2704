-- The Hilbert function (A13) by computation: the lines as bytes, values, refusals, the table and the monomials that are counted.
use mathlib.Core.Path.{◌≡◌, refl}
use mathlib.Core.Option.{some}
use mathlib.Core.List.{List, [], ◌∷◌, ◌++◌}
use Prim.Native.Nat.{ℕ}
use Prim.Native.String.{String}
use lib.ListN.{length, get_or, replicate}
use Rattle.definitions.specs.Limits.{document_01}
use Rattle.definitions.specs.Lists.{map, from}
use Rattle.definitions.specs.Monomial.{Level}
use Rattle.definitions.specs.Problem.{Parameters}
use Rattle.definitions.specs.Betti.{betti}
use Rattle.definitions.specs.Pascal.{triangle, entry, monomials}
use Rattle.definitions.specs.Hilbert.{both_sums, h_lines, hilbert}
use Rattle.definitions.specs.Standard.{of_degree_in, standard}
use Rattle.definitions.specs.Places.{triangle_length}
use Rattle.definitions.proofs.Text.{text}
use Rattle.definitions.proofs.Views.{limited}

abbrev prints : List String → List String → Type 0
prints file lines = hilbert document_01 99 (text file) ≡ some (text lines)

-- these values, then 0
abbrev has : List String → List ℕ → Type 0
has file values = hilbert document_01 99 (text file) ≡ some (h_lines (λ d. get_or values d 0) (from 0 33))

-- ## Lines

-- "For the printed instance of document 01 it is 1, 1, then 0.": its elements have terms of two degrees
instance_1 : prints
    ("R,7,2,1,1" ∷ "T,1,1,1,1,0" ∷ "T,1,1,1,0,1" ∷ "T,2,1,1,0,2" ∷ "T,2,1,1,0,0" ∷ "E,4" ∷ [])
    ("H,0,1" ∷ "H,1,1" ∷ "H,2,0" ∷ "H,3,0" ∷ "H,4,0" ∷ "H,5,0" ∷ "H,6,0" ∷ "H,7,0" ∷ "H,8,0" ∷ "H,9,0" ∷ "H,10,0" ∷ "H,11,0" ∷ "H,12,0" ∷ "H,13,0" ∷
    "H,14,0" ∷ "H,15,0" ∷ "H,16,0" ∷ "H,17,0" ∷ "H,18,0" ∷ "H,19,0" ∷ "H,20,0" ∷ "H,21,0" ∷ "H,22,0" ∷ "H,23,0" ∷ "H,24,0" ∷ "H,25,0" ∷ "H,26,0" ∷
    "H,27,0" ∷ "H,28,0" ∷ "H,29,0" ∷ "H,30,0" ∷ "H,31,0" ∷ "H,32,0" ∷ [])
instance_1 = refl

seventeen : betti document_01 99 (text ("R,7,2,1,1" ∷ "T,1,1,1,1,0" ∷ "T,1,1,1,0,1" ∷ "T,2,1,1,0,2" ∷ "T,2,1,1,0,0" ∷ "E,4" ∷ []))
    ≡ some (text ("X,17,2" ∷ []))
seventeen = refl

-- eight variables, and one element of degree 33: all monomials are counted, in the last degree entry 7 of row 39
eight_variables : prints
    ("R,2,8,3,1" ∷ "T,1,1,1,33,0,0,0,0,0,0,0" ∷ "E,1" ∷ [])
    ("H,0,1" ∷ "H,1,8" ∷ "H,2,36" ∷ "H,3,120" ∷ "H,4,330" ∷ "H,5,792" ∷ "H,6,1716" ∷ "H,7,3432" ∷ "H,8,6435" ∷ "H,9,11440" ∷ "H,10,19448" ∷
    "H,11,31824" ∷ "H,12,50388" ∷ "H,13,77520" ∷ "H,14,116280" ∷ "H,15,170544" ∷ "H,16,245157" ∷ "H,17,346104" ∷ "H,18,480700" ∷ "H,19,657800" ∷
    "H,20,888030" ∷ "H,21,1184040" ∷ "H,22,1560780" ∷ "H,23,2035800" ∷ "H,24,2629575" ∷ "H,25,3365856" ∷ "H,26,4272048" ∷ "H,27,5379616" ∷
    "H,28,6724520" ∷ "H,29,8347680" ∷ "H,30,10295472" ∷ "H,31,12620256" ∷ "H,32,15380937" ∷ [])
eight_variables = refl

-- ## Values

-- x², xy, y²: 1, x and y
quadrics : has ("R,7,2,1,1" ∷ "T,1,1,1,2,0" ∷ "T,2,1,1,1,1" ∷ "T,3,1,1,0,2" ∷ "E,3" ∷ []) (1 ∷ 2 ∷ [])
quadrics = refl

-- x², y³, z⁵: three levels, and column 3 is taken away
apart : has ("R,7,3,1,1" ∷ "T,1,1,1,2,0,0" ∷ "T,2,1,1,0,3,0" ∷ "T,3,1,1,0,0,5" ∷ "E,3" ∷ []) (1 ∷ 3 ∷ 5 ∷ 6 ∷ 6 ∷ 5 ∷ 3 ∷ 1 ∷ [])
apart = refl

-- x + y³ and no other element: a power of y in each degree, though the terms have degrees 1 and 3
mixed : has ("R,7,2,1,1" ∷ "T,1,1,1,1,0" ∷ "T,1,1,1,0,3" ∷ "E,2" ∷ []) (replicate 33 1)
mixed = refl

-- "components' degrees included": x·e_1, y·e_1, y²·e_2 with degrees 1 and 3
by_degrees : has ("R,7,2,1,2" ∷ "D,1,3" ∷ "T,1,1,1,1,0" ∷ "T,2,1,1,0,1" ∷ "T,3,1,2,0,2" ∷ "E,3" ∷ []) (0 ∷ 1 ∷ 0 ∷ 1 ∷ replicate 29 2)
by_degrees = refl

-- .. and without D
without_degrees : has ("R,7,2,1,2" ∷ "T,1,1,1,1,0" ∷ "T,2,1,1,0,1" ∷ "T,3,1,2,0,2" ∷ "E,3" ∷ []) (2 ∷ replicate 32 2)
without_degrees = refl

-- "a generator of higher degree counts nothing": an element of degree 40, and a component
high_element : has ("R,7,1,1,1" ∷ "T,1,1,1,40" ∷ "E,1" ∷ []) (replicate 33 1)
high_element = refl

high_component : has ("R,7,1,1,2" ∷ "D,0,33" ∷ "T,1,1,1,3" ∷ "E,1" ∷ []) (1 ∷ 1 ∷ 1 ∷ [])
high_component = refl

-- .. one whose degree is reached counts 1
reached : has ("R,7,1,1,1" ∷ "D,32" ∷ "T,1,1,1,5" ∷ "E,1" ∷ []) (replicate 32 0 ++ 1 ∷ [])
reached = refl

-- a constant divides all
constant : has ("R,7,2,1,1" ∷ "T,1,1,1,0,0" ∷ "E,1" ∷ []) []
constant = refl

-- elements whose leading monomials divide one another: x, x, x²
repeated : has ("R,7,2,1,1" ∷ "T,1,1,1,1,0" ∷ "T,2,1,1,1,0" ∷ "T,3,1,1,2,0" ∷ "E,3" ∷ []) (replicate 33 1)
repeated = refl

-- a G line changes nothing (A14)
with_weights : has ("R,7,2,1,1" ∷ "G,1,0,0,1" ∷ "T,1,1,1,2,0" ∷ "T,2,1,1,1,1" ∷ "T,3,1,1,0,2" ∷ "E,3" ∷ []) (1 ∷ 2 ∷ [])
with_weights = refl

-- what is added and what is taken away: of x², xy, y² in degree 3
sums : both_sums 2 3 ((0 ∷ []) ∷ (2 ∷ 2 ∷ 2 ∷ []) ∷ (3 ∷ 3 ∷ []) ∷ [] ∷ []) ≡ (6, 6)
sums = refl

-- ## Refusals

nine : prints ("R,7,2,1,2" ∷ "T,1,1,1,1,0" ∷ "T,1,1,2,0,0" ∷ "T,2,1,1,0,1" ∷ "E,3" ∷ []) ("X,9,1" ∷ "W,6,2,0,1" ∷ [])
nine = refl

-- "When the program of a request refuses, the X line is the first that it prints.": the sheet has level 1 before it
alone : hilbert (limited 255 128 2_048 512 2 4_096) 99 (text ("R,7,3,1,1" ∷ "T,1,1,1,1,0,0" ∷ "T,2,1,1,0,1,0" ∷ "T,3,1,1,0,0,1" ∷ "E,3" ∷ []))
    ≡ some (text ("X,14,2" ∷ []))
alone = refl

no_shape : prints ("R,7,2,1" ∷ "E,0" ∷ []) ("X,1,1" ∷ [])
no_shape = refl

-- ## The table

-- "rows 0 to 39, 820 entries"
entries : length triangle ≡ triangle_length
entries = refl

last_row : map (entry 39) (0 ∷ 1 ∷ 7 ∷ 19 ∷ 20 ∷ 38 ∷ 39 ∷ []) ≡ 1 ∷ 39 ∷ 15_380_937 ∷ 68_923_264_410 ∷ 68_923_264_410 ∷ 39 ∷ 1 ∷ []
last_row = refl

first_rows : map (entry 4) (from 0 5) ≡ 1 ∷ 4 ∷ 6 ∷ 4 ∷ 1 ∷ []
first_rows = refl

numbers : map (monomials 3) (from 0 6) ≡ 1 ∷ 3 ∷ 6 ∷ 10 ∷ 15 ∷ 21 ∷ []
numbers = refl

-- ## The monomials that are counted

three_ways : of_degree_in 2 2 ≡ (0 ∷ 2 ∷ []) ∷ (1 ∷ 1 ∷ []) ∷ (2 ∷ 0 ∷ []) ∷ []
three_ways = refl

abbrev with_degrees : List ℕ → Parameters
with_degrees d = record { p = 7; n = 2; code = 1; s = 2; degrees = d }

-- x·e_1 and y²·e_2
abbrev two : Level
two = ((1, (1 ∷ 0 ∷ 0 ∷ 0 ∷ 0 ∷ 0 ∷ 0 ∷ 0 ∷ [], 1)) ∷ []) ∷ ((1, (0 ∷ 2 ∷ 0 ∷ 0 ∷ 0 ∷ 0 ∷ 0 ∷ 0 ∷ [], 2)) ∷ []) ∷ []

-- y²·e_1, xy·e_2 and x²·e_2
standard_ones : standard (with_degrees (0 ∷ 0 ∷ [])) two 2 ≡ (0 ∷ 2 ∷ 0 ∷ 0 ∷ 0 ∷ 0 ∷ 0 ∷ 0 ∷ [], 1) ∷
    (1 ∷ 1 ∷ 0 ∷ 0 ∷ 0 ∷ 0 ∷ 0 ∷ 0 ∷ [], 2) ∷ (2 ∷ 0 ∷ 0 ∷ 0 ∷ 0 ∷ 0 ∷ 0 ∷ 0 ∷ [], 2) ∷ []
standard_ones = refl

-- y²·e_1, y·e_2 and x·e_2, e_2 having degree 1; y·e_1 alone where it has degree 2
standard_by_degrees : standard (with_degrees (0 ∷ 1 ∷ [])) two 2 ≡ (0 ∷ 2 ∷ 0 ∷ 0 ∷ 0 ∷ 0 ∷ 0 ∷ 0 ∷ [], 1) ∷
    (0 ∷ 1 ∷ 0 ∷ 0 ∷ 0 ∷ 0 ∷ 0 ∷ 0 ∷ [], 2) ∷ (1 ∷ 0 ∷ 0 ∷ 0 ∷ 0 ∷ 0 ∷ 0 ∷ 0 ∷ [], 2) ∷ []
standard_by_degrees = refl

standard_high : standard (with_degrees (0 ∷ 2 ∷ [])) two 1 ≡ (0 ∷ 1 ∷ 0 ∷ 0 ∷ 0 ∷ 0 ∷ 0 ∷ 0 ∷ [], 1) ∷ []
standard_high = refl
