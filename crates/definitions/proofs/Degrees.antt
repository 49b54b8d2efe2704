-- Degrees of components (A5) by computation: the D line, the degrees that are carried, and states whose degrees are not those.
use mathlib.Core.Path.{◌≡◌, refl}
use mathlib.Core.Bool.{true, false}
use mathlib.Core.Option.{some}
use mathlib.Core.List.{List, [], ◌∷◌}
use Prim.Native.Nat.{ℕ, ◌+◌}
use Prim.Native.String.{String}
use lib.ListN.{get_or, set, replicate}
use Rattle.definitions.specs.Limits.{Limits, document_01}
use Rattle.definitions.specs.Monomial.{Level}
use Rattle.definitions.specs.State.{State, empty, sound?}
use Rattle.definitions.specs.Degrees.{carried}
use Rattle.definitions.specs.Sheet.{sheet}
use Rattle.definitions.specs.Packed.{low_bytes}
use Rattle.definitions.specs.Layout.{Words, row_at, rows, division, state_words, work_words, out_words, degrees_place, carried_place, encode, meant}
use Rattle.definitions.specs.Layout.{read_call, lift_call, fetch_call}
use Rattle.definitions.proofs.Text.{text}
use Rattle.definitions.proofs.Instances.{xy, f₁, g₁}

abbrev prints : List String → List String → Type 0
prints file lines = sheet document_01 99 (text file) ≡ some (text lines)

-- ## The D line

-- "Acceptance and lifting therefore give the same vectors with D as without it": the printed example
abbrev its_sheet : List String
its_sheet = "S,1,1,1,2,1,0" ∷ "S,1,1,6,1,0,2" ∷ "S,1,1,6,1,0,0" ∷ "S,1,1,1,2,0,1" ∷ "Z,1,1" ∷ "Z,2,0" ∷ []

without_line : prints ("R,7,2,1,1" ∷ "T,1,1,1,1,0" ∷ "T,1,1,1,0,1" ∷ "T,2,1,1,0,2" ∷ "T,2,1,1,0,0" ∷ "E,4" ∷ []) its_sheet
without_line = refl

with_line : prints ("R,7,2,1,1" ∷ "D,4" ∷ "T,1,1,1,1,0" ∷ "T,1,1,1,0,1" ∷ "T,2,1,1,0,2" ∷ "T,2,1,1,0,0" ∷ "E,4" ∷ []) its_sheet
with_line = refl

-- .. and 9, with its place and its value
nine_without : prints ("R,7,2,1,2" ∷ "T,1,1,1,1,0" ∷ "T,1,1,2,0,0" ∷ "T,2,1,1,0,1" ∷ "E,3" ∷ []) ("X,9,1" ∷ "W,6,2,0,1" ∷ [])
nine_without = refl

nine_with : prints ("R,7,2,1,2" ∷ "D,0,255" ∷ "T,1,1,1,1,0" ∷ "T,1,1,2,0,0" ∷ "T,2,1,1,0,1" ∷ "E,3" ∷ []) ("X,9,1" ∷ "W,6,2,0,1" ∷ [])
nine_with = refl

-- "may follow R": line 2 alone, and once
after_a_term : prints ("R,7,2,1,1" ∷ "T,1,1,1,1,0" ∷ "D,0" ∷ "E,1" ∷ []) ("X,1,3" ∷ [])
after_a_term = refl

before_r : prints ("D,0" ∷ "R,7,2,1,1" ∷ "T,1,1,1,1,0" ∷ "E,1" ∷ []) ("X,1,1" ∷ [])
before_r = refl

second_line : prints ("R,7,2,1,1" ∷ "D,0" ∷ "D,0" ∷ "T,1,1,1,1,0" ∷ "E,1" ∷ []) ("X,1,3" ∷ [])
second_line = refl

-- "d1,..,ds": a degree for each component
too_few : prints ("R,7,2,1,2" ∷ "D,1" ∷ "T,1,1,1,1,0" ∷ "E,1" ∷ []) ("X,1,2" ∷ [])
too_few = refl

too_many : prints ("R,7,2,1,1" ∷ "D,1,1" ∷ "T,1,1,1,1,0" ∷ "E,1" ∷ []) ("X,1,2" ∷ [])
too_many = refl

leading_zero : prints ("R,7,2,1,1" ∷ "D,01" ∷ "T,1,1,1,1,0" ∷ "E,1" ∷ []) ("X,1,2" ∷ [])
leading_zero = refl

above_a_field : prints ("R,7,2,1,1" ∷ "D,65536" ∷ "T,1,1,1,1,0" ∷ "E,1" ∷ []) ("X,1,2" ∷ [])
above_a_field = refl

-- "18 when a component's degree is above 255, tested after the line's shape"
degree_255 : prints ("R,7,2,1,2" ∷ "D,255,255" ∷ "T,1,1,1,1,0" ∷ "E,1" ∷ []) ("Z,1,0" ∷ [])
degree_255 = refl

degree_256 : prints ("R,7,2,1,2" ∷ "D,255,256" ∷ "T,1,1,1,1,0" ∷ "E,1" ∷ []) ("X,18,2" ∷ [])
degree_256 = refl

degree_65535 : prints ("R,7,2,1,1" ∷ "D,65535" ∷ "E,0" ∷ []) ("X,18,2" ∷ [])
degree_65535 = refl

shape_first : prints ("R,7,2,1,1" ∷ "D,256,0" ∷ "T,1,1,1,1,0" ∷ "E,1" ∷ []) ("X,1,2" ∷ [])
shape_first = refl

r_first : prints ("R,7,2,4,1" ∷ "D,256" ∷ "E,0" ∷ []) ("X,3,1" ∷ [])
r_first = refl

-- the lines behind D have the next numbers
term_on_line_3 : prints ("R,7,2,1,1" ∷ "D,1" ∷ "T,1,1,1,256,0" ∷ "E,1" ∷ []) ("X,4,3" ∷ [])
term_on_line_3 = refl

end_on_line_4 : prints ("R,7,2,1,1" ∷ "D,1" ∷ "T,1,1,1,1,0" ∷ "E,2" ∷ []) ("X,7,4" ∷ [])
end_on_line_4 = refl

absent_line_3 : prints ("R,7,2,1,1" ∷ "D,1" ∷ []) ("X,1,3" ∷ [])
absent_line_3 = refl

-- ## Degrees that are carried

-- f = x + y, y² + 1 with e_1 of degree 4 carry 5 and 6, their syzygy, with x·e_2 in front, 7
on_two_levels : carried (4 ∷ []) (g₁ ∷ f₁ ∷ []) ≡ (7 ∷ []) ∷ (5 ∷ 6 ∷ []) ∷ []
on_two_levels = refl

-- x·e_1, y²·e_2, xy·e_2, and above them x·e_2 with y·e_3: each element with its own component's degree
abbrev two_components : List Level
two_components =
    (((1, xy 1 0 2) ∷ (6, xy 0 1 3) ∷ []) ∷ []) ∷ (((1, xy 1 0 1) ∷ []) ∷ ((1, xy 0 2 2) ∷ []) ∷ ((1, xy 1 1 2) ∷ []) ∷ []) ∷ []

by_components : carried (30 ∷ 100 ∷ []) two_components ≡ (103 ∷ []) ∷ (31 ∷ 102 ∷ 102 ∷ []) ∷ []
by_components = refl

without_degrees : carried (0 ∷ 0 ∷ []) two_components ≡ (3 ∷ []) ∷ (1 ∷ 2 ∷ 2 ∷ []) ∷ []
without_degrees = refl

-- ## In the state

abbrev with_degrees : List ℕ → State
with_degrees d = record { parameters = record { p = 7; n = 2; code = 1; s = 1; degrees = d }; levels = g₁ ∷ f₁ ∷ [] }

-- "each 0 to 255", one for each component
pub record DegreesSound : Type 0 where
  largest : sound? document_01 (with_degrees (255 ∷ [])) ≡ true
  too_large : sound? document_01 (with_degrees (256 ∷ [])) ≡ false
  none_given : sound? document_01 (with_degrees []) ≡ false
  two_given : sound? document_01 (with_degrees (0 ∷ 0 ∷ [])) ≡ false

degrees_sound : DegreesSound
degrees_sound = record { largest = refl; too_large = refl; none_given = refl; two_given = refl }

-- limits for states of few words
abbrev small : Limits
small = record {
  prime_bound = 65_535;
  variables = 8;
  components = 2;
  elements = 3;
  exponent = 255;
  t_lines = 6;
  file = 99;
  field = 65_535;
  vectors = 3;
  level_terms = 6;
  levels = 2;
  working = 6;
  vector = 6;
  tree = 6;
  numbering = λ code. 1;
}

abbrev words : Words
words = encode small (state_words small) (with_degrees (4 ∷ []))

-- the components' degrees, then those of level 0 and those of level 1
degrees_in_words : (get_or words (degrees_place small) 0 ≡ 4) × (get_or words (carried_place small 0) 0 ≡ 5) × (get_or words (carried_place small 0 + 1) 0 ≡ 6)
    × (get_or words (carried_place small 1) 0 ≡ 7)
degrees_in_words = (refl, refl, refl, refl)

read_back : meant small words ≡ with_degrees (4 ∷ [])
unfolding low_bytes row_at rows
read_back = refl

-- "a state where it is not counts as no accepted basis (11)"
wrong_on_level_0 : meant small (set words (carried_place small 0 + 1) 7) ≡ empty
unfolding low_bytes row_at rows
wrong_on_level_0 = refl

wrong_on_level_1 : meant small (set words (carried_place small 1) 6) ≡ empty
unfolding low_bytes row_at rows
wrong_on_level_1 = refl

-- with another degree of the component the carried ones are wrong
wrong_component : meant small (set words (degrees_place small) 5) ≡ empty
unfolding low_bytes row_at rows
wrong_component = refl

-- altered so that they fit together they are another state's
another_state : meant small (set (set (set (set words (degrees_place small) 5) (carried_place small 0) 6) (carried_place small 0 + 1) 7)
    (carried_place small 1) 8) ≡ with_degrees (5 ∷ [])
unfolding low_bytes row_at rows
another_state = refl

-- the number of a lifting and of a fetch then
lifting_11 : lift_call small 9 1 division (set words (carried_place small 1) 6) (replicate (work_words small division) 1) []
    ≡ some (11, 0, set words (carried_place small 1) 6, replicate (work_words small division) 1, [])
unfolding low_bytes row_at rows
lifting_11 = refl

fetching_11 : fetch_call small 1 1 (set words (carried_place small 1) 6) (replicate (out_words small) 1) ≡ (11, 0, replicate (out_words small) 1)
unfolding low_bytes row_at rows
fetching_11 = refl

-- "Each element and vector carries its degree in its record from the reading on"
read_with_degree : read_call small 99 (text ("R,7,2,1,1" ∷ "D,4" ∷ "T,1,1,1,1,0" ∷ "T,1,1,1,0,1" ∷ "T,2,1,1,0,2" ∷ "T,2,1,1,0,0" ∷ "E,4" ∷ []))
    (replicate (state_words small) 1) (replicate (work_words small division) 1)
    ≡ some (
      0,
      0,
      encode small (state_words small) (record {
        parameters = record { p = 7; n = 2; code = 1; s = 1; degrees = 4 ∷ [] };
        levels = f₁ ∷ [];
      }),
      replicate (work_words small division) 0,
    )
read_with_degree = refl
