-- The Betti page (A1) by computation: whole pages as bytes, and refusals.
use mathlib.Core.Path.{◌≡◌, refl}
use mathlib.Core.Option.{some}
use mathlib.Core.List.{List, [], ◌∷◌}
use Prim.Native.Nat.{ℕ}
use Prim.Native.String.{String}
use Rattle.definitions.specs.Limits.{document_01}
use Rattle.definitions.specs.Sheet.{sheet}
use Rattle.definitions.specs.Betti.{betti}
use Rattle.definitions.proofs.Text.{text}
use Rattle.definitions.proofs.Views.{limited}

abbrev prints : List String → List String → Type 0
prints file lines = betti document_01 99 (text file) ≡ some (text lines)

-- ## Pages

-- "For x², xy, y² the page has 1 in row 0, then 3 and 2 in row 1, total 1, 3, 2."
quadrics : prints
    ("R,7,2,1,1" ∷ "T,1,1,1,2,0" ∷ "T,2,1,1,1,1" ∷ "T,3,1,1,0,2" ∷ "E,3" ∷ [])
    ("    0:     1     -     -     -     -     -     -     -     -     -     -" ∷
    "    1:     -     3     2     -     -     -     -     -     -     -     -" ∷
    " total     1     3     2     -     -     -     -     -     -     -     -" ∷ [])
quadrics = refl

-- x², y³, z⁵: "A vector's degree is the total degree of its frame term's image monomial in level 0's free module", on each level another
apart : prints
    ("R,7,3,1,1" ∷ "T,1,1,1,2,0,0" ∷ "T,2,1,1,0,3,0" ∷ "T,3,1,1,0,0,5" ∷ "E,3" ∷ [])
    ("    0:     1     -     -     -     -     -     -     -     -     -     -" ∷
    "    1:     -     1     -     -     -     -     -     -     -     -     -" ∷
    "    2:     -     1     -     -     -     -     -     -     -     -     -" ∷
    "    3:     -     -     1     -     -     -     -     -     -     -     -" ∷
    "    4:     -     1     -     -     -     -     -     -     -     -     -" ∷
    "    5:     -     -     1     -     -     -     -     -     -     -     -" ∷
    "    6:     -     -     1     -     -     -     -     -     -     -     -" ∷
    "    7:     -     -     -     1     -     -     -     -     -     -     -" ∷
    " total     1     3     3     1     -     -     -     -     -     -     -" ∷ [])
apart = refl

-- "so rows may be negative": the element 1, twice
below_zero : prints
    ("R,7,1,1,1" ∷ "T,1,1,1,0" ∷ "T,2,1,1,0" ∷ "E,2" ∷ [])
    ("   -2:     -     -     1     -     -     -     -     -     -     -     -" ∷
    "   -1:     -     2     -     -     -     -     -     -     -     -     -" ∷
    "    0:     1     -     -     -     -     -     -     -     -     -     -" ∷
    " total     1     2     1     -     -     -     -     -     -     -     -" ∷ [])
below_zero = refl

-- x ten times
two_digits : prints
    ("R,7,1,1,1" ∷ "T,1,1,1,1" ∷ "T,2,1,1,1" ∷ "T,3,1,1,1" ∷ "T,4,1,1,1" ∷ "T,5,1,1,1" ∷ "T,6,1,1,1" ∷ "T,7,1,1,1" ∷ "T,8,1,1,1" ∷
    "T,9,1,1,1" ∷ "T,10,1,1,1" ∷ "E,10" ∷ [])
    ("   -1:     -     -     9     -     -     -     -     -     -     -     -" ∷
    "    0:     1    10     -     -     -     -     -     -     -     -     -" ∷
    " total     1    10     9     -     -     -     -     -     -     -     -" ∷ [])
two_digits = refl

-- "where a component has its own" degree (A5); "Every row from the smallest to the largest in use is printed", with dashes where none is in use
empty_rows : prints
    ("R,7,2,1,2" ∷ "D,0,5" ∷ "T,1,1,1,0,0" ∷ "E,1" ∷ [])
    ("   -1:     -     1     -     -     -     -     -     -     -     -     -" ∷
    "    0:     1     -     -     -     -     -     -     -     -     -     -" ∷
    "    1:     -     -     -     -     -     -     -     -     -     -     -" ∷
    "    2:     -     -     -     -     -     -     -     -     -     -     -" ∷
    "    3:     -     -     -     -     -     -     -     -     -     -     -" ∷
    "    4:     -     -     -     -     -     -     -     -     -     -     -" ∷
    "    5:     1     -     -     -     -     -     -     -     -     -     -" ∷
    " total     2     1     -     -     -     -     -     -     -     -     -" ∷ [])
empty_rows = refl

-- the largest degree of a component
large_degrees : prints
    ("R,7,1,1,1" ∷ "D,255" ∷ "T,1,1,1,3" ∷ "E,1" ∷ [])
    ("  255:     1     -     -     -     -     -     -     -     -     -     -" ∷
    "  256:     -     -     -     -     -     -     -     -     -     -     -" ∷
    "  257:     -     1     -     -     -     -     -     -     -     -     -" ∷
    " total     1     1     -     -     -     -     -     -     -     -     -" ∷ [])
large_degrees = refl

-- x, y, z with a component of degree 3
shifted : prints
    ("R,7,3,1,1" ∷ "D,3" ∷ "T,1,1,1,1,0,0" ∷ "T,2,1,1,0,1,0" ∷ "T,3,1,1,0,0,1" ∷ "E,3" ∷ [])
    ("    3:     1     3     3     1     -     -     -     -     -     -     -" ∷
    " total     1     3     3     1     -     -     -     -     -     -     -" ∷ [])
shifted = refl

-- ## 17

-- "17, with the first such element as place, when some element has terms of two degrees"
mixed : prints ("R,7,2,1,1" ∷ "T,1,1,1,2,0" ∷ "T,2,1,1,0,2" ∷ "T,2,1,1,0,1" ∷ "E,3" ∷ []) ("X,17,2" ∷ [])
mixed = refl

first_of_two : prints ("R,7,2,1,1" ∷ "T,1,1,1,2,0" ∷ "T,1,1,1,1,0" ∷ "T,2,1,1,0,2" ∷ "T,2,1,1,0,1" ∷ "E,4" ∷ []) ("X,17,1" ∷ [])
first_of_two = refl

-- the last of three terms alone has another degree
last_term : prints ("R,7,2,1,1" ∷ "T,1,1,1,2,0" ∷ "T,1,1,1,1,1" ∷ "T,1,1,1,0,1" ∷ "E,3" ∷ []) ("X,17,1" ∷ [])
last_term = refl

-- "A term's degree is then its monomial's total degree plus its component's, for A1 and 17 too": x·e_1 + e_2 without D
by_component : prints ("R,7,1,1,2" ∷ "T,1,1,1,1" ∷ "T,1,1,2,0" ∷ "E,2" ∷ []) ("X,17,1" ∷ [])
by_component = refl

-- .. and with it
by_degrees : prints
    ("R,7,1,1,2" ∷ "D,0,1" ∷ "T,1,1,1,1" ∷ "T,1,1,2,0" ∷ "E,2" ∷ [])
    ("    0:     1     1     -     -     -     -     -     -     -     -     -" ∷
    "    1:     1     -     -     -     -     -     -     -     -     -     -" ∷
    " total     2     1     -     -     -     -     -     -     -     -     -" ∷ [])
by_degrees = refl

-- "tested after acceptance": element 1 has terms of two degrees
nine_first : prints ("R,7,2,1,2" ∷ "T,1,1,1,1,0" ∷ "T,1,1,2,0,0" ∷ "T,2,1,1,0,1" ∷ "E,3" ∷ []) ("X,9,1" ∷ "W,6,2,0,1" ∷ [])
nine_first = refl

-- ## Refusals

-- with vectors of at most so many terms
abbrev prints_within : ℕ → List String → List String → Type 0
prints_within terms file lines = betti (limited 255 128 2_048 512 terms 4_096) 99 (text file) ≡ some (text lines)

abbrev lists_within : ℕ → List String → List String → Type 0
lists_within terms file lines = sheet (limited 255 128 2_048 512 terms 4_096) 99 (text file) ≡ some (text lines)

-- 17 "tested after acceptance", before lifting: that of level 2 is refused
before_lifting : prints_within 3 ("R,7,3,1,1" ∷ "T,1,1,1,1,0,0" ∷ "T,2,1,1,0,1,0" ∷ "T,3,1,1,0,0,2" ∷ "T,3,1,1,0,0,1" ∷ "E,4" ∷ []) ("X,17,3" ∷ [])
before_lifting = refl

refused_lifting : lists_within 3 ("R,7,3,1,1" ∷ "T,1,1,1,1,0,0" ∷ "T,2,1,1,0,1,0" ∷ "T,3,1,1,0,0,2" ∷ "T,3,1,1,0,0,1" ∷ "E,4" ∷ [])
    ("S,1,1,1,2,1,0,0" ∷ "S,1,1,6,1,0,1,0" ∷ "S,1,2,1,3,0,1,0" ∷ "S,1,2,6,2,0,0,2" ∷ "S,1,2,6,2,0,0,1" ∷ "S,1,3,1,3,1,0,0" ∷ "S,1,3,6,1,0,0,2" ∷
    "S,1,3,6,1,0,0,1" ∷ "Z,1,3" ∷ "X,14,2" ∷ [])
refused_lifting = refl

-- "When the program of a request refuses, the X line is the first that it prints.": the sheet has level 1 before it
alone : prints_within 2 ("R,7,3,1,1" ∷ "T,1,1,1,1,0,0" ∷ "T,2,1,1,0,1,0" ∷ "T,3,1,1,0,0,1" ∷ "E,3" ∷ []) ("X,14,2" ∷ [])
alone = refl

behind_level_1 : lists_within 2 ("R,7,3,1,1" ∷ "T,1,1,1,1,0,0" ∷ "T,2,1,1,0,1,0" ∷ "T,3,1,1,0,0,1" ∷ "E,3" ∷ [])
    ("S,1,1,1,2,1,0,0" ∷ "S,1,1,6,1,0,1,0" ∷ "S,1,2,1,3,0,1,0" ∷ "S,1,2,6,2,0,0,1" ∷ "S,1,3,1,3,1,0,0" ∷ "S,1,3,6,1,0,0,1" ∷ "Z,1,3" ∷ "X,14,2" ∷ [])
behind_level_1 = refl

-- the refusals of reading
no_shape : prints ("R,7,2,1" ∷ "E,0" ∷ []) ("X,1,1" ∷ [])
no_shape = refl

eighteen : prints ("R,7,2,1,1" ∷ "D,256" ∷ "T,1,1,1,1,0" ∷ "E,1" ∷ []) ("X,18,2" ∷ [])
eighteen = refl

not_descending : prints ("R,7,2,1,1" ∷ "T,1,1,1,0,1" ∷ "T,1,1,1,1,0" ∷ "E,2" ∷ []) ("X,6,3" ∷ [])
not_descending = refl
