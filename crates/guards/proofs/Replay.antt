-- Request A9 by computation: logs that are taken, 21, 12 and 22 with their places, and which comes first; 14 by small limits.
use mathlib.Core.Path.{◌≡◌, refl}
use mathlib.Core.Option.{some}
use mathlib.Core.List.{List, [], ◌∷◌, ◌++◌}
use Prim.Native.Nat.{ℕ}
use Prim.Native.String.{String}
use Rattle.definitions.specs.Limits.{document_01, with_working}
use Rattle.definitions.specs.Program.{program}
use Rattle.definitions.specs.After.{file_of}
use Rattle.definitions.specs.Replay.{replay_of, replay}
use Rattle.definitions.proofs.Text.{bytes, text}

-- ## The printed instance: its E line is the sixth

abbrev printed_file : List String
printed_file = "R,7,2,1,1" ∷ "T,1,1,1,1,0" ∷ "T,1,1,1,0,1" ∷ "T,2,1,1,0,2" ∷ "T,2,1,1,0,0" ∷ "E,4" ∷ []

abbrev prints : List String → List String → Type 0
prints log lines = replay document_01 99 (text (printed_file ++ log)) ≡ some (text lines)

-- .. with so many picks at the most
abbrev within : ℕ → List String → List String → Type 0
within most log lines =
    program (replay_of document_01 99 most (text (printed_file ++ log))) document_01 99 (file_of (text (printed_file ++ log))) ≡ some (text lines)

abbrev its_vector : List String
its_vector = "S,1,1,1,2,1,0" ∷ "S,1,1,6,1,0,2" ∷ "S,1,1,6,1,0,0" ∷ "S,1,1,1,2,0,1" ∷ []

-- "a log is taken exactly if each pick is then a term of the working value and the value is zero after the last"
pub record Taken : Type 0 where
  greatest_first : prints ("L,1,1" ∷ "P,1,2,1" ∷ "P,1,0,1" ∷ "P,0,3,1" ∷ []) its_vector
  newest_first : prints ("L,1,1" ∷ "P,1,0,1" ∷ "P,1,2,1" ∷ "P,0,3,1" ∷ []) its_vector
  no_more_than_three : within 3 ("L,1,1" ∷ "P,1,0,1" ∷ "P,1,2,1" ∷ "P,0,3,1" ∷ []) its_vector

taken : Taken
taken = record { greatest_first = refl; newest_first = refl; no_more_than_three = refl }

-- 21, then 12
pub record LLines : Type 0 where
  absent : prints [] ("X,21,7" ∷ [])
  picks_alone : prints ("P,1,2,1" ∷ "P,1,0,1" ∷ "P,0,3,1" ∷ []) ("X,21,7" ∷ [])
  of_one_number : prints ("L,1" ∷ "P,1,2,1" ∷ []) ("X,21,7" ∷ [])
  not_ended : replay document_01 99 (text printed_file ++ bytes "L,1,1") ≡ some (text ("X,21,7" ∷ []))
  level_0 : prints ("L,0,1" ∷ []) ("X,12,7" ∷ [])
  level_10 : prints ("L,10,1" ∷ []) ("X,12,7" ∷ [])
  vector_0 : prints ("L,1,0" ∷ []) ("X,12,7" ∷ [])
  vector_2 : prints ("L,1,2" ∷ []) ("X,12,7" ∷ [])
  -- "Levels below, empty ones too, are lifted as for the sheet": level 2 is empty, and so is level 3
  empty_level : prints ("L,2,1" ∷ []) ("X,12,7" ∷ [])
  above_an_empty_level : prints ("L,4,1" ∷ []) ("X,12,7" ∷ [])

l_lines : LLines
l_lines = record {
  absent = refl;
  picks_alone = refl;
  of_one_number = refl;
  not_ended = refl;
  level_0 = refl;
  level_10 = refl;
  vector_0 = refl;
  vector_2 = refl;
  empty_level = refl;
  above_an_empty_level = refl;
}

-- 21, then 22, on each line
pub record PLines : Type 0 where
  no_lines : prints ("L,1,1" ∷ []) ("X,22,8" ∷ [])
  not_in_the_value : prints ("L,1,1" ∷ "P,0,0,1" ∷ []) ("X,22,8" ∷ [])
  another_component : prints ("L,1,1" ∷ "P,1,2,2" ∷ []) ("X,22,8" ∷ [])
  -- the shape is right
  exponent_above_255 : prints ("L,1,1" ∷ "P,257,2,1" ∷ []) ("X,22,8" ∷ [])
  no_component : prints ("L,1,1" ∷ "P,1,2" ∷ []) ("X,21,8" ∷ [])
  second_line : prints ("L,1,1" ∷ "P,1,2,1" ∷ "P,1,2,1" ∷ []) ("X,22,9" ∷ [])
  ends_before_zero : prints ("L,1,1" ∷ "P,1,2,1" ∷ "P,1,0,1" ∷ []) ("X,22,10" ∷ [])
  goes_on_after_zero : prints ("L,1,1" ∷ "P,1,2,1" ∷ "P,1,0,1" ∷ "P,0,3,1" ∷ "P,0,3,1" ∷ []) ("X,22,11" ∷ [])
  misshapen_after_zero : prints ("L,1,1" ∷ "P,1,2,1" ∷ "P,1,0,1" ∷ "P,0,3,1" ∷ "" ∷ []) ("X,21,11" ∷ [])
  -- the 4,097th, here the third: 21, whatever it picks
  one_too_many : within 2 ("L,1,1" ∷ "P,1,2,1" ∷ "P,1,0,1" ∷ "P,0,3,1" ∷ []) ("X,21,10" ∷ [])
  one_too_many_elsewhere : within 2 ("L,1,1" ∷ "P,1,2,1" ∷ "P,1,0,1" ∷ "P,9,9,9" ∷ []) ("X,21,10" ∷ [])

p_lines : PLines
p_lines = record {
  no_lines = refl;
  not_in_the_value = refl;
  another_component = refl;
  exponent_above_255 = refl;
  no_component = refl;
  second_line = refl;
  ends_before_zero = refl;
  goes_on_after_zero = refl;
  misshapen_after_zero = refl;
  one_too_many = refl;
  one_too_many_elsewhere = refl;
}

-- ## Limits: y³ + x² and x + y + 1, where pick code 2 needs four terms in a working value, and division and pick code 1 three

abbrev narrow : ℕ → List String → List String → Type 0
narrow working log lines = replay (with_working working document_01) 99
    (text (("R,2,2,3,1" ∷ "T,1,1,1,0,3" ∷ "T,1,1,1,2,0" ∷ "T,2,1,1,1,0" ∷ "T,2,1,1,0,1" ∷ "T,2,1,1,0,0" ∷ "E,5" ∷ []) ++ log)) ≡ some (text lines)

pub record InLessRoom : Type 0 where
  greatest_first : narrow 3 ("L,1,1" ∷ "P,1,3,1" ∷ "P,0,4,1" ∷ "P,3,0,1" ∷ "P,0,3,1" ∷ [])
      ("S,1,1,1,2,0,3" ∷ "S,1,1,1,1,1,0" ∷ "S,1,1,1,1,0,1" ∷ "S,1,1,1,2,2,0" ∷ "S,1,1,1,1,0,0" ∷ [])
  -- 13 to 15 with the level as place: the products of the frame term's own element are three, and those of a pick make four
  own_log_of_code_2 : narrow 3 ("L,1,1" ∷ "P,0,3,1" ∷ "P,2,0,1" ∷ "P,1,0,1" ∷ "P,1,1,1" ∷ "P,0,4,1" ∷ "P,2,1,1" ∷ "P,1,1,1" ∷ "P,1,2,1" ∷ "P,0,3,1"
      ∷ "P,2,0,1" ∷ "P,1,0,1" ∷ "P,1,1,1" ∷ "P,1,3,1" ∷ "P,3,0,1" ∷ []) ("X,14,1" ∷ [])
  -- "Levels below .. are lifted as for the sheet", by pick code 2
  below_by_code_2 : narrow 3 ("L,2,1" ∷ []) ("X,14,1" ∷ [])
  below_with_room : narrow 4 ("L,2,1" ∷ []) ("X,12,8" ∷ [])
  -- "a level outside 1..9 before any lifting"
  level_10_first : narrow 3 ("L,10,1" ∷ []) ("X,12,8" ∷ [])

in_less_room : InLessRoom
in_less_room = record { greatest_first = refl; own_log_of_code_2 = refl; below_by_code_2 = refl; below_with_room = refl; level_10_first = refl }
