-- Instance 10, refusals from the input, refusals from the state, and frames, by computation.
use mathlib.Core.Path.{◌≡◌, refl}
use mathlib.Core.Bool.{true, false}
use mathlib.Core.Option.{some}
use mathlib.Core.List.{List, [], ◌∷◌, ◌++◌}
use Prim.Native.Nat.{◌+◌, ◌*◌}
use Prim.Native.String.{String}
use lib.ListN.{replicate}
use Rattle.definitions.specs.Limits.{Limits, document_01}
use Rattle.definitions.specs.Monomial.{Level}
use Rattle.definitions.specs.Order.{greater, compare_over}
use Rattle.definitions.specs.Frame.{frame}
use Rattle.definitions.specs.Lifting.{by_division, by_hybrid, by_tree}
use Rattle.definitions.specs.State.{State, empty, sound?}
use Rattle.definitions.specs.Calls.{reading, lifting, fetching}
use Rattle.definitions.specs.Sheet.{sheet}
use Rattle.definitions.specs.Packed.{low_bytes}
use Rattle.definitions.specs.Layout.{row_of, row_at, division, tree, state_words, work_words, out_words, count_place, rows_place}
use Rattle.definitions.proofs.Text.{text, bytes}
use Rattle.definitions.proofs.Instances.{xyz, xy, f₁, g₁}
use Rattle.definitions.proofs.Views.{seen, held}

-- the sheet of a file given by its lines
abbrev prints : List String → List String → Type 0
prints file lines = sheet document_01 99 (text file) ≡ some (text lines)

-- ## Instance 10

-- (its sentences on 32,749 and 32,761 are closed theorems of crate primes)

-- "exponent 255 read, 256 refused 4"
exponent_255 : prints ("R,7,2,1,1" ∷ "T,1,1,1,255,0" ∷ "E,1" ∷ []) ("Z,1,0" ∷ [])
exponent_255 = refl

exponent_256 : prints ("R,7,2,1,1" ∷ "T,1,1,1,256,0" ∷ "E,1" ∷ []) ("X,4,2" ∷ [])
exponent_256 = refl

-- "one element prints `Z,1,0`"
one_element : prints ("R,7,2,1,1" ∷ "T,1,1,1,1,0" ∷ "E,1" ∷ []) ("Z,1,0" ∷ [])
one_element = refl

-- "empty file prints `X,1,1`"
empty_file : prints [] ("X,1,1" ∷ [])
empty_file = refl

-- A4: the first prime that was refused until now is read (65,521 in crate primes)
prime_32771 : prints ("R,32771,2,1,1" ∷ "T,1,32770,1,1,0" ∷ "E,1" ∷ []) ("Z,1,0" ∷ [])
prime_32771 = refl

-- ## Refusals from the input

-- 2 before 3
two_before_three : prints ("R,4,0,1,1" ∷ "E,0" ∷ []) ("X,2,1" ∷ [])
two_before_three = refl

three : prints ("R,7,9,1,1" ∷ "E,0" ∷ []) ("X,3,1" ∷ [])
three = refl

order_code_4 : prints ("R,7,2,4,1" ∷ "E,0" ∷ []) ("X,3,1" ∷ [])
order_code_4 = refl

-- 5 before 4: element 3 after element 1, coefficient 0
five_before_four : prints ("R,7,2,1,1" ∷ "T,1,1,1,1,0" ∷ "T,3,0,1,1,0" ∷ "E,2" ∷ []) ("X,5,3" ∷ [])
five_before_four = refl

-- 4 before 6: coefficient 7, a greater monomial
four_before_six : prints ("R,7,2,1,1" ∷ "T,1,1,1,1,0" ∷ "T,1,7,1,2,0" ∷ "E,2" ∷ []) ("X,4,3" ∷ [])
four_before_six = refl

-- 6: the same monomial again
six : prints ("R,7,2,1,1" ∷ "T,1,1,1,1,0" ∷ "T,1,1,1,1,0" ∷ "E,2" ∷ []) ("X,6,3" ∷ [])
six = refl

seven : prints ("R,7,2,1,1" ∷ "T,1,1,1,1,0" ∷ "E,2" ∷ []) ("X,7,3" ∷ [])
seven = refl

-- no T line: "zero or more"
seven_at_zero : prints ("R,7,2,1,1" ∷ "E,0" ∷ []) ("X,7,2" ∷ [])
seven_at_zero = refl

-- 1: "line .. after E"; "an absent line has the next number"; a line without byte 10; a leading zero; a number above 65,535
after_e : prints ("R,7,2,1,1" ∷ "T,1,1,1,1,0" ∷ "E,1" ∷ "E,1" ∷ []) ("X,1,4" ∷ [])
after_e = refl

absent : prints ("R,7,2,1,1" ∷ "T,1,1,1,1,0" ∷ []) ("X,1,3" ∷ [])
absent = refl

unended : sheet document_01 99 (text ("R,7,2,1,1" ∷ "T,1,1,1,1,0" ∷ []) ++ bytes "E,2") ≡ some (text ("X,1,3" ∷ []))
unended = refl

leading_zero : prints ("R,7,2,1,1" ∷ "T,1,1,1,01,0" ∷ "E,1" ∷ []) ("X,1,2" ∷ [])
leading_zero = refl

number_65535 : prints ("R,7,2,1,1" ∷ "T,1,1,1,65535,0" ∷ "E,1" ∷ []) ("X,4,2" ∷ [])
number_65535 = refl

number_65536 : prints ("R,7,2,1,1" ∷ "T,1,1,1,65536,0" ∷ "E,1" ∷ []) ("X,1,2" ∷ [])
number_65536 = refl

-- 8 after 1 and before 5, 4, 6, with room for two T lines and for 99 bytes
abbrev two_lines : Limits
two_lines = record {
  prime_bound = 65_535;
  variables = 8;
  components = 16;
  elements = 64;
  exponent = 255;
  t_lines = 2;
  file = 99;
  field = 65_535;
  vectors = 128;
  level_terms = 2_048;
  levels = 9;
  working = 512;
  vector = 512;
  tree = 4_096;
  numbering = λ code. 1;
}

eight : sheet two_lines 99 (text ("R,7,2,1,1" ∷ "T,1,1,1,1,0" ∷ "T,2,1,1,0,1" ∷ "T,9,0,9,0,0" ∷ "E,3" ∷ [])) ≡ some (text ("X,8,4" ∷ []))
eight = refl

one_before_eight : sheet two_lines 99 (text ("R,7,2,1,1" ∷ "T,1,1,1,1,0" ∷ "T,2,1,1,0,1" ∷ "T,3,1,1,0" ∷ "E,3" ∷ [])) ≡ some (text ("X,1,4" ∷ []))
one_before_eight = refl

-- "file too long (line 0, tested first)"
ninety_nine_bytes : sheet two_lines 99 (replicate 99 65) ≡ some (text ("X,1,1" ∷ []))
ninety_nine_bytes = refl

hundred_bytes : sheet two_lines 99 (replicate 100 65) ≡ some (text ("X,1,0" ∷ []))
hundred_bytes = refl

-- ## Refusals from the state

abbrev levels_0_and_1 : State
levels_0_and_1 = record { parameters = record { p = 7; n = 2; code = 1; s = 1; degrees = 0 ∷ [] }; levels = g₁ ∷ f₁ ∷ [] }

-- 16 before all else; 11 before 12
without_basis : seen document_01 9 empty (reading false [] ∷ lifting false 10 by_division ∷ lifting true 10 by_division ∷ lifting true 1 (by_hybrid 4 512)
    ∷ fetching true 0 0 ∷ [])
    ≡ some (text ("A,16,0" ∷ "A,16,0" ∷ "A,11,0" ∷ "A,11,0" ∷ "A,11,0" ∷ []))
without_basis = refl

-- 12 for levels 0 and 10, pick codes 0 and 4, vectors 0 and 2; 11 where the level below is missing
with_basis : seen document_01 9 levels_0_and_1 (
    lifting true 10 by_division ∷ lifting true 0 by_division ∷ lifting true 1 (by_hybrid 0 512) ∷ lifting true 1 (by_hybrid 4 512) ∷ fetching true 0 1
    ∷ fetching true 10 1 ∷
    fetching true 1 0 ∷ fetching true 1 2 ∷ lifting true 3 (by_hybrid 4 512) ∷ fetching true 2 1 ∷ [])
    ≡ some (text ("A,12,0" ∷ "A,12,0" ∷ "A,12,0" ∷ "A,12,0" ∷ "A,12,0" ∷ "A,12,0" ∷ "A,12,0" ∷ "A,12,0" ∷ "A,11,0" ∷ "A,11,0" ∷ []))
with_basis = refl

-- "Lifting a complete level again drops the levels above it."
again : held document_01 99 levels_0_and_1 (lifting true 2 by_division ∷ lifting true 1 (by_tree 9) ∷ []) ≡ held document_01 99 levels_0_and_1 []
again = refl

abbrev with_level_0 : Level → State
with_level_0 f = record { parameters = record { p = 7; n = 2; code = 1; s = 1; degrees = 0 ∷ [] }; levels = f ∷ [] }

-- what makes a state count as no accepted basis
pub record Soundness : Type 0 where
  sound : sound? document_01 (with_level_0 f₁) ≡ true
  no_level : sound? document_01 empty ≡ false
  no_element : sound? document_01 (with_level_0 []) ≡ false
  empty_element : sound? document_01 (with_level_0 ([] ∷ [])) ≡ false
  equal_terms : sound? document_01 (with_level_0 (((1, xy 1 0 1) ∷ (1, xy 1 0 1) ∷ []) ∷ [])) ≡ false
  ascending : sound? document_01 (with_level_0 (((1, xy 0 1 1) ∷ (1, xy 1 0 1) ∷ []) ∷ [])) ≡ false
  coefficient_p : sound? document_01 (with_level_0 (((7, xy 1 0 1) ∷ []) ∷ [])) ≡ false
  coefficient_0 : sound? document_01 (with_level_0 (((0, xy 1 0 1) ∷ []) ∷ [])) ≡ false
  component_2 : sound? document_01 (with_level_0 (((1, xy 1 0 2) ∷ []) ∷ [])) ≡ false
  component_0 : sound? document_01 (with_level_0 (((1, xy 1 0 0) ∷ []) ∷ [])) ≡ false
  exponent_256 : sound? document_01 (with_level_0 (((1, xy 256 0 1) ∷ []) ∷ [])) ≡ false
  exponent_past_n : sound? document_01 (with_level_0 (((1, (xyz 1 0 1, 1)) ∷ []) ∷ [])) ≡ false

soundness : Soundness
soundness = record {
  sound = refl;
  no_level = refl;
  no_element = refl;
  empty_element = refl;
  equal_terms = refl;
  ascending = refl;
  coefficient_p = refl;
  coefficient_0 = refl;
  component_2 = refl;
  component_0 = refl;
  exponent_256 = refl;
  exponent_past_n = refl;
}

-- ## Orders

-- "at a tie the larger component is greater"
larger_component : compare_over 1 [] (xy 1 0 2) (xy 1 0 1) ≡ greater
larger_component = refl

descending_components : prints ("R,7,2,1,2" ∷ "T,1,1,2,1,0" ∷ "T,1,1,1,1,0" ∷ "E,2" ∷ []) ("Z,1,0" ∷ [])
descending_components = refl

ascending_components : prints ("R,7,2,1,2" ∷ "T,1,1,1,1,0" ∷ "T,1,1,2,1,0" ∷ "E,2" ∷ []) ("X,6,3" ∷ [])
ascending_components = refl

-- ## Frames

-- "Of two equal frame terms both thrown out, or both listed": f = x, x, y has x·e_3 once
equal_once : frame 1 (xy 1 0 1 ∷ xy 1 0 1 ∷ xy 0 1 1 ∷ []) ≡ xy 0 0 2 ∷ xy 1 0 3 ∷ []
equal_once = refl

-- "then monomial ascending": LM x², y³, xy has y²·e_3 and x·e_3; code 1 has y² first, code 2 has x first
by_code_1 : frame 1 (xy 2 0 1 ∷ xy 0 3 1 ∷ xy 1 1 1 ∷ []) ≡ xy 2 0 2 ∷ xy 0 2 3 ∷ xy 1 0 3 ∷ []
by_code_1 = refl

by_code_2 : frame 2 (xy 2 0 1 ∷ xy 0 3 1 ∷ xy 1 1 1 ∷ []) ≡ xy 2 0 2 ∷ xy 1 0 3 ∷ xy 0 2 3 ∷ []
by_code_2 = refl

-- "numbered by ascending lexicographic monomial, whatever the file's order code" (A10): f = x, y², 1 has y²·e_3, then x·e_3, in all codes
abbrev lexicographically : List String
lexicographically =
    "S,1,1,1,2,1,0" ∷ "S,1,1,6,1,0,2" ∷ "S,1,2,1,3,0,2" ∷ "S,1,2,6,2,0,0" ∷ "S,1,3,1,3,1,0" ∷ "S,1,3,6,1,0,0" ∷ "Z,1,3"
    ∷ "S,2,1,1,3,0,2" ∷ "S,2,1,6,2,1,0" ∷ "S,2,1,6,1,0,0" ∷ "Z,2,1" ∷ "Z,3,0" ∷ []

numbered_in_code_1 : prints ("R,7,2,1,1" ∷ "T,1,1,1,1,0" ∷ "T,2,1,1,0,2" ∷ "T,3,1,1,0,0" ∷ "E,3" ∷ []) lexicographically
numbered_in_code_1 = refl

numbered_in_code_2 : prints ("R,7,2,2,1" ∷ "T,1,1,1,1,0" ∷ "T,2,1,1,0,2" ∷ "T,3,1,1,0,0" ∷ "E,3" ∷ []) lexicographically
numbered_in_code_2 = refl

numbered_in_code_3 : prints ("R,7,2,3,1" ∷ "T,1,1,1,1,0" ∷ "T,2,1,1,0,2" ∷ "T,3,1,1,0,0" ∷ "E,3" ∷ []) lexicographically
numbered_in_code_3 = refl

-- ## The lengths and places of docs/BUFFERS.md

lengths_of_buffers : (state_words document_01 ≡ 125_471) × (work_words document_01 division ≡ 3_072) × (work_words document_01 tree ≡ 24_576)
    × (out_words document_01 ≡ 3_072)
lengths_of_buffers = (refl, refl, refl, refl)

places_of_level_9 : (count_place document_01 9 ≡ 5 + 129 * 9) × (rows_place document_01 9 ≡ 1_295 + 12_288 * 9)
places_of_level_9 = (refl, refl)

-- "in one unsigned 64-bit number, x1 in the top byte" (A8); its four words stand lowest first
words_of_a_row : row_of (5, (1 ∷ 2 ∷ 3 ∷ 4 ∷ 5 ∷ 6 ∷ 7 ∷ 8 ∷ [], 9)) ≡ 5 ∷ 9 ∷ (7 * 256 + 8) ∷ (5 * 256 + 6) ∷ (3 * 256 + 4) ∷ (1 * 256 + 2) ∷ []
words_of_a_row = refl

row_of_words : row_at (5 ∷ 9 ∷ (7 * 256 + 8) ∷ (5 * 256 + 6) ∷ (3 * 256 + 4) ∷ (1 * 256 + 2) ∷ []) 0 ≡ (5, (1 ∷ 2 ∷ 3 ∷ 4 ∷ 5 ∷ 6 ∷ 7 ∷ 8 ∷ [], 9))
unfolding row_at low_bytes
row_of_words = refl
