-- The definitions and the unrelated implementation agree: lists of calls.
-- Written by tools/agreement; do not edit.
use mathlib.Core.Path.{◌≡◌, refl}
use mathlib.Core.Bool.{true}
use mathlib.Core.Option.{some}
use mathlib.Core.List.{List, [], ◌∷◌, ◌++◌}
use Rattle.definitions.specs.Limits.{Limits}
use Rattle.definitions.specs.Lifting.{by_division, by_hybrid, by_tree}
use Rattle.definitions.specs.State.{empty}
use Rattle.definitions.specs.Calls.{Call, reading, lifting, fetching}
use Rattle.definitions.proofs.Text.{text, bytes}
use Rattle.definitions.proofs.Views.{seen, held, due}

-- calls-1-1
abbrev limits_1 : Limits
limits_1 = record {
  prime_bound = 65535;
  variables = 8;
  components = 16;
  elements = 64;
  exponent = 255;
  t_lines = 2048;
  file = 65536;
  field = 65535;
  vectors = 128;
  level_terms = 2048;
  levels = 9;
  working = 512;
  vector = 512;
  tree = 4096;
  numbering = λ code. 1;
}

abbrev list_1 : List Call
list_1 = fetching true 1 1 ∷ reading true (text ("R,3,4,2,1" ∷ "T,1,1,1,1,0,1,0" ∷ "T,1,2,1,0,0,0,2" ∷ "T,2,1,1,0,1,0,0" ∷ "T,2,2,1,0,0,0,1" ∷ "E,4" ∷ []))
    ∷ lifting true 1 by_division ∷ lifting true 2 (by_tree 2) ∷ lifting true 3 (by_tree 60) ∷ lifting true 3 (by_hybrid 3 512) ∷ []

seen_1 : seen limits_1 2000 empty list_1 ≡ some (text ("A,11,0" ∷ "A,0,0" ∷ "A,0,0" ∷ "A,0,0" ∷ "A,0,0" ∷ "A,0,0" ∷ []))
seen_1 = refl

held_1 : held limits_1 2000 empty list_1 ≡ some (text ("S,0,1,1,1,1,0,1,0,0,0,0,0" ∷ "S,0,1,2,1,0,0,0,2,0,0,0,0" ∷ "S,0,2,1,1,0,1,0,0,0,0,0,0"
    ∷ "S,0,2,2,1,0,0,0,1,0,0,0,0" ∷ "S,1,1,1,2,1,0,1,0,0,0,0,0" ∷ "S,1,1,2,1,0,1,0,0,0,0,0,0" ∷ "S,1,1,1,1,0,0,0,1,0,0,0,0" ∷ "S,1,1,2,2,0,0,0,2,0,0,0,0" ∷ []))
held_1 = refl

due_1 : due limits_1 2000 empty list_1 ≡ some (text ("S,0,1,1,1,1,0,1,0,0,0,0,0" ∷ "S,0,1,2,1,0,0,0,2,0,0,0,0" ∷ "S,0,2,1,1,0,1,0,0,0,0,0,0"
    ∷ "S,0,2,2,1,0,0,0,1,0,0,0,0" ∷ "S,1,1,1,2,1,0,1,0,0,0,0,0" ∷ "S,1,1,2,1,0,1,0,0,0,0,0,0" ∷ "S,1,1,1,1,0,0,0,1,0,0,0,0" ∷ "S,1,1,2,2,0,0,0,2,0,0,0,0" ∷ []))
due_1 = refl

-- calls-1-2
abbrev limits_2 : Limits
limits_2 = record {
  prime_bound = 65535;
  variables = 8;
  components = 16;
  elements = 64;
  exponent = 2;
  t_lines = 2048;
  file = 65536;
  field = 65535;
  vectors = 128;
  level_terms = 2048;
  levels = 9;
  working = 512;
  vector = 512;
  tree = 4096;
  numbering = λ code. 1;
}

abbrev list_2 : List Call
list_2 = lifting true 1 (by_hybrid 0 512) ∷ reading true (82 ∷ 44 ∷ 51 ∷ 50 ∷ 55 ∷ 52 ∷ 57 ∷ 44 ∷ 52 ∷ 44 ∷ 51 ∷ 44 ∷ 50 ∷ 10 ∷ 68 ∷ 44 ∷ 49 ∷ 13 ∷ 44 ∷ 48 ∷ 10
    ∷ 84 ∷ 44 ∷ 49 ∷ 44 ∷ 51 ∷ 50 ∷ 55 ∷ 52 ∷ 56 ∷ 44 ∷ 50 ∷ 44 ∷ 48 ∷ 44 ∷ 48 ∷ 44 ∷ 48 ∷ 44 ∷ 49 ∷ 10 ∷ 84 ∷ 44 ∷ 50 ∷ 44 ∷ 51 ∷ 50 ∷ 55 ∷ 52 ∷ 56 ∷ 44 ∷ 50
    ∷ 44 ∷ 48 ∷ 44 ∷ 48 ∷ 44 ∷ 51 ∷ 44 ∷ 48 ∷ 10 ∷ 84 ∷ 44 ∷ 50 ∷ 44 ∷ 51 ∷ 50 ∷ 55 ∷ 52 ∷ 56 ∷ 44 ∷ 50 ∷ 44 ∷ 50 ∷ 44 ∷ 48 ∷ 44 ∷ 48 ∷ 44 ∷ 49 ∷ 10 ∷ 84 ∷ 44
    ∷ 50 ∷ 44 ∷ 51 ∷ 50 ∷ 55 ∷ 52 ∷ 56 ∷ 44 ∷ 50 ∷ 44 ∷ 48 ∷ 44 ∷ 48 ∷ 44 ∷ 48 ∷ 44 ∷ 48 ∷ 10 ∷ 84 ∷ 44 ∷ 51 ∷ 44 ∷ 51 ∷ 50 ∷ 55 ∷ 52 ∷ 56 ∷ 44 ∷ 50 ∷ 44 ∷ 51
    ∷ 44 ∷ 48 ∷ 44 ∷ 48 ∷ 44 ∷ 48 ∷ 10 ∷ 84 ∷ 44 ∷ 51 ∷ 44 ∷ 51 ∷ 50 ∷ 55 ∷ 52 ∷ 56 ∷ 44 ∷ 50 ∷ 44 ∷ 48 ∷ 44 ∷ 48 ∷ 44 ∷ 48 ∷ 44 ∷ 48 ∷ 10 ∷ 69 ∷ 44 ∷ 54 ∷ 10
    ∷ []) ∷ reading true (text ("R,2,5,3,3" ∷ "D,2,3,3" ∷ "T,1,1,2,1,0,0,0,0" ∷ "T,1,1,2,0,1,0,0,0" ∷ "T,2,1,2,0,1,1,1,0" ∷ "T,2,1,2,0,0,1,2,0"
    ∷ "T,2,1,2,0,1,0,1,0" ∷ "T,2,1,2,0,0,0,2,0" ∷ "T,3,1,2,1,0,0,0,0" ∷ "T,3,1,2,0,0,0,1,0" ∷ "T,4,1,2,0,1,0,0,0" ∷ "T,4,1,2,0,0,0,1,0" ∷ "E,10" ∷ []))
    ∷ lifting true 1 (by_hybrid 2 512) ∷ []

seen_2 : seen limits_2 2000 empty list_2 ≡ some (text ("A,11,0" ∷ "A,1,2" ∷ "A,0,0" ∷ "A,13,1" ∷ []))
seen_2 = refl

held_2 : held limits_2 2000 empty list_2 ≡ some (text ([]))
held_2 = refl

due_2 : due limits_2 2000 empty list_2 ≡ some (text ([]))
due_2 = refl

-- calls-1-3
abbrev limits_3 : Limits
limits_3 = record {
  prime_bound = 65535;
  variables = 8;
  components = 16;
  elements = 64;
  exponent = 255;
  t_lines = 2048;
  file = 65536;
  field = 65535;
  vectors = 128;
  level_terms = 12;
  levels = 9;
  working = 512;
  vector = 512;
  tree = 4096;
  numbering = λ code. 1;
}

abbrev list_3 : List Call
list_3 = reading true (text ("R,32749,5,1,1" ∷ "T,1,32748,1,2,0,0,0,0" ∷ "T,2,1,1,0,0,3,0,0" ∷ "T,2,32748,1,0,0,1,0,0" ∷ "T,3,32748,1,0,0,0,3,0"
    ∷ "T,4,32748,1,0,0,0,0,1" ∷ "E,5" ∷ [])) ∷ lifting true 1 (by_tree 3) ∷ fetching true 1 5 ∷ lifting true 2 (by_hybrid 2 512) ∷ fetching true 2 3 ∷ []

seen_3 : seen limits_3 2000 empty list_3 ≡ some (text ("A,0,0" ∷ "A,15,1" ∷ "A,11,0" ∷ "A,11,0" ∷ "A,11,0" ∷ []))
seen_3 = refl

held_3 : held limits_3 2000 empty list_3 ≡ some (text ([]))
held_3 = refl

due_3 : due limits_3 2000 empty list_3 ≡ some (text ([]))
due_3 = refl

-- calls-1-4
abbrev limits_4 : Limits
limits_4 = record {
  prime_bound = 65535;
  variables = 8;
  components = 16;
  elements = 64;
  exponent = 255;
  t_lines = 2048;
  file = 65536;
  field = 65535;
  vectors = 128;
  level_terms = 2048;
  levels = 9;
  working = 512;
  vector = 512;
  tree = 4096;
  numbering = λ code. 1;
}

abbrev list_4 : List Call
list_4 = reading true (text ("R,251,4,2,1" ∷ "T,1,250,1,1,0,1,0" ∷ "T,1,1,1,0,2,0,0" ∷ "T,2,200,1,1,0,1,0" ∷ "T,2,26,1,1,0,0,1" ∷ "T,2,51,1,0,2,0,0"
    ∷ "T,2,225,1,0,1,1,0" ∷ "T,3,172,1,1,0,0,1" ∷ "T,3,79,1,0,1,1,0" ∷ "T,4,122,1,0,1,0,1" ∷ "T,4,129,1,0,0,2,0" ∷ "E,10" ∷ [])) ∷ lifting true 1 (by_tree 60)
    ∷ lifting true 2 (by_tree 9) ∷ fetching true 1 2 ∷ fetching true 1 2 ∷ fetching true 1 2 ∷ lifting true 3 (by_hybrid 3 512) ∷ []

seen_4 : seen limits_4 2000 empty list_4 ≡ some (text ("A,0,0" ∷ "A,0,0" ∷ "A,0,0" ∷ "A,0,0" ∷ "V,1,3,0,0,1,0,0,0,0,0" ∷ "V,172,1,0,0,0,1,0,0,0,0"
    ∷ "V,85,4,0,1,0,0,0,0,0,0" ∷ "A,0,0" ∷ "V,1,3,0,0,1,0,0,0,0,0" ∷ "V,172,1,0,0,0,1,0,0,0,0" ∷ "V,85,4,0,1,0,0,0,0,0,0" ∷ "A,0,0" ∷ "V,1,3,0,0,1,0,0,0,0,0"
    ∷ "V,172,1,0,0,0,1,0,0,0,0" ∷ "V,85,4,0,1,0,0,0,0,0,0" ∷ "A,0,0" ∷ []))
seen_4 = refl

held_4 : held limits_4 2000 empty list_4 ≡ some (text ("S,0,1,250,1,1,0,1,0,0,0,0,0" ∷ "S,0,1,1,1,0,2,0,0,0,0,0,0" ∷ "S,0,2,200,1,1,0,1,0,0,0,0,0"
    ∷ "S,0,2,26,1,1,0,0,1,0,0,0,0" ∷ "S,0,2,51,1,0,2,0,0,0,0,0,0" ∷ "S,0,2,225,1,0,1,1,0,0,0,0,0" ∷ "S,0,3,172,1,1,0,0,1,0,0,0,0"
    ∷ "S,0,3,79,1,0,1,1,0,0,0,0,0" ∷ "S,0,4,122,1,0,1,0,1,0,0,0,0" ∷ "S,0,4,129,1,0,0,2,0,0,0,0,0" ∷ "S,1,1,1,2,0,0,0,0,0,0,0,0"
    ∷ "S,1,1,200,1,0,0,0,0,0,0,0,0" ∷ "S,1,1,102,3,0,0,0,0,0,0,0,0" ∷ "S,1,2,1,3,0,0,1,0,0,0,0,0" ∷ "S,1,2,172,1,0,0,0,1,0,0,0,0"
    ∷ "S,1,2,85,4,0,1,0,0,0,0,0,0" ∷ "S,1,3,1,4,1,0,0,0,0,0,0,0" ∷ "S,1,3,189,3,0,1,0,0,0,0,0,0" ∷ "S,1,3,129,1,0,0,1,0,0,0,0,0" ∷ []))
held_4 = refl

due_4 : due limits_4 2000 empty list_4 ≡ some (text ("S,0,1,250,1,1,0,1,0,0,0,0,0" ∷ "S,0,1,1,1,0,2,0,0,0,0,0,0" ∷ "S,0,2,200,1,1,0,1,0,0,0,0,0"
    ∷ "S,0,2,26,1,1,0,0,1,0,0,0,0" ∷ "S,0,2,51,1,0,2,0,0,0,0,0,0" ∷ "S,0,2,225,1,0,1,1,0,0,0,0,0" ∷ "S,0,3,172,1,1,0,0,1,0,0,0,0"
    ∷ "S,0,3,79,1,0,1,1,0,0,0,0,0" ∷ "S,0,4,122,1,0,1,0,1,0,0,0,0" ∷ "S,0,4,129,1,0,0,2,0,0,0,0,0" ∷ "S,1,1,1,2,0,0,0,0,0,0,0,0"
    ∷ "S,1,1,200,1,0,0,0,0,0,0,0,0" ∷ "S,1,1,102,3,0,0,0,0,0,0,0,0" ∷ "S,1,2,1,3,0,0,1,0,0,0,0,0" ∷ "S,1,2,172,1,0,0,0,1,0,0,0,0"
    ∷ "S,1,2,85,4,0,1,0,0,0,0,0,0" ∷ "S,1,3,1,4,1,0,0,0,0,0,0,0" ∷ "S,1,3,189,3,0,1,0,0,0,0,0,0" ∷ "S,1,3,129,1,0,0,1,0,0,0,0,0" ∷ []))
due_4 = refl

-- calls-1-5
abbrev limits_5 : Limits
limits_5 = record {
  prime_bound = 65535;
  variables = 8;
  components = 16;
  elements = 64;
  exponent = 255;
  t_lines = 2048;
  file = 65536;
  field = 65535;
  vectors = 128;
  level_terms = 2048;
  levels = 9;
  working = 512;
  vector = 512;
  tree = 4096;
  numbering = λ code. 1;
}

abbrev list_5 : List Call
list_5 = reading true (text ([])) ∷ fetching true 1 1 ∷ reading true (text ("R,7,2,3,1" ∷ "T,1,6,1,2,1" ∷ "T,1,6,1,1,2" ∷ "T,1,5,1,0,3" ∷ "E,3" ∷ []))
    ∷ lifting true 1 (by_hybrid 1 512) ∷ lifting true 2 (by_hybrid 2 512) ∷ lifting true 3 (by_hybrid 1 512) ∷ lifting true 11 (by_hybrid 3 512) ∷ []

seen_5 : seen limits_5 2000 empty list_5 ≡ some (text ("A,1,1" ∷ "A,11,0" ∷ "A,0,0" ∷ "A,0,0" ∷ "A,0,0" ∷ "A,0,0" ∷ "A,12,0" ∷ []))
seen_5 = refl

held_5 : held limits_5 2000 empty list_5 ≡ some (text ("S,0,1,6,1,2,1,0,0,0,0,0,0" ∷ "S,0,1,6,1,1,2,0,0,0,0,0,0" ∷ "S,0,1,5,1,0,3,0,0,0,0,0,0" ∷ []))
held_5 = refl

due_5 : due limits_5 2000 empty list_5 ≡ some (text ("S,0,1,6,1,2,1,0,0,0,0,0,0" ∷ "S,0,1,6,1,1,2,0,0,0,0,0,0" ∷ "S,0,1,5,1,0,3,0,0,0,0,0,0" ∷ []))
due_5 = refl

-- calls-1-6
abbrev limits_6 : Limits
limits_6 = record {
  prime_bound = 65535;
  variables = 8;
  components = 16;
  elements = 64;
  exponent = 255;
  t_lines = 2048;
  file = 65536;
  field = 65535;
  vectors = 128;
  level_terms = 2048;
  levels = 9;
  working = 512;
  vector = 512;
  tree = 4096;
  numbering = λ code. 1;
}

abbrev list_6 : List Call
list_6 = reading true (text ("R,32003,4,2,1" ∷ "T,1,28091,1,0,0,1,0" ∷ "T,7,26668,1,0,0,0,0" ∷ "E,2" ∷ [])) ∷ lifting true 1 (by_hybrid 2 512)
    ∷ reading true (text ("R,5,5,3,1" ∷ "T,1,3,1,0,0,0,0,1" ∷ "T,2,1,1,0,0,0,1,0" ∷ "T,3,1,1,0,0,1,0,0" ∷ "T,3,1,1,0,0,0,0,0" ∷ "T,4,4,1,0,1,0,0,0"
    ∷ "T,5,3,1,1,0,0,0,0" ∷ "E,6" ∷ [])) ∷ lifting true 1 (by_hybrid 2 512) ∷ lifting true 2 by_division ∷ []

seen_6 : seen limits_6 2000 empty list_6 ≡ some (text ("A,5,3" ∷ "A,11,0" ∷ "A,0,0" ∷ "A,0,0" ∷ "A,0,0" ∷ []))
seen_6 = refl

held_6 : held limits_6 2000 empty list_6 ≡ some (text ("S,0,1,3,1,0,0,0,0,1,0,0,0" ∷ "S,0,2,1,1,0,0,0,1,0,0,0,0" ∷ "S,0,3,1,1,0,0,1,0,0,0,0,0"
    ∷ "S,0,3,1,1,0,0,0,0,0,0,0,0" ∷ "S,0,4,4,1,0,1,0,0,0,0,0,0" ∷ "S,0,5,3,1,1,0,0,0,0,0,0,0" ∷ "S,1,1,1,2,0,0,0,0,1,0,0,0" ∷ "S,1,1,3,1,0,0,0,1,0,0,0,0"
    ∷ "S,1,2,1,3,0,0,0,0,1,0,0,0" ∷ "S,1,2,3,1,0,0,1,0,0,0,0,0" ∷ "S,1,2,3,1,0,0,0,0,0,0,0,0" ∷ "S,1,3,1,3,0,0,0,1,0,0,0,0" ∷ "S,1,3,4,2,0,0,1,0,0,0,0,0"
    ∷ "S,1,3,4,2,0,0,0,0,0,0,0,0" ∷ "S,1,4,1,4,0,0,0,0,1,0,0,0" ∷ "S,1,4,2,1,0,1,0,0,0,0,0,0" ∷ "S,1,5,1,4,0,0,0,1,0,0,0,0" ∷ "S,1,5,1,2,0,1,0,0,0,0,0,0"
    ∷ "S,1,6,1,4,0,0,1,0,0,0,0,0" ∷ "S,1,6,1,3,0,1,0,0,0,0,0,0" ∷ "S,1,6,1,4,0,0,0,0,0,0,0,0" ∷ "S,1,7,1,5,0,0,0,0,1,0,0,0" ∷ "S,1,7,4,1,1,0,0,0,0,0,0,0"
    ∷ "S,1,8,1,5,0,0,0,1,0,0,0,0" ∷ "S,1,8,2,2,1,0,0,0,0,0,0,0" ∷ "S,1,9,1,5,0,0,1,0,0,0,0,0" ∷ "S,1,9,2,3,1,0,0,0,0,0,0,0" ∷ "S,1,9,1,5,0,0,0,0,0,0,0,0"
    ∷ "S,1,10,1,5,0,1,0,0,0,0,0,0" ∷ "S,1,10,3,4,1,0,0,0,0,0,0,0" ∷ "S,2,1,1,3,0,0,0,0,1,0,0,0" ∷ "S,2,1,4,2,0,0,0,1,0,0,0,0" ∷ "S,2,1,1,1,0,0,1,0,0,0,0,0"
    ∷ "S,2,1,1,1,0,0,0,0,0,0,0,0" ∷ "S,2,2,1,5,0,0,0,0,1,0,0,0" ∷ "S,2,2,4,4,0,0,0,1,0,0,0,0" ∷ "S,2,2,4,1,0,1,0,0,0,0,0,0" ∷ "S,2,3,1,6,0,0,0,0,1,0,0,0"
    ∷ "S,2,3,4,4,0,0,1,0,0,0,0,0" ∷ "S,2,3,4,2,0,1,0,0,0,0,0,0" ∷ "S,2,3,4,4,0,0,0,0,0,0,0,0" ∷ "S,2,4,1,6,0,0,0,1,0,0,0,0" ∷ "S,2,4,4,5,0,0,1,0,0,0,0,0"
    ∷ "S,2,4,4,3,0,1,0,0,0,0,0,0" ∷ "S,2,4,4,5,0,0,0,0,0,0,0,0" ∷ "S,2,5,1,8,0,0,0,0,1,0,0,0" ∷ "S,2,5,4,7,0,0,0,1,0,0,0,0" ∷ "S,2,5,3,1,1,0,0,0,0,0,0,0"
    ∷ "S,2,6,1,9,0,0,0,0,1,0,0,0" ∷ "S,2,6,4,7,0,0,1,0,0,0,0,0" ∷ "S,2,6,3,2,1,0,0,0,0,0,0,0" ∷ "S,2,6,4,7,0,0,0,0,0,0,0,0" ∷ "S,2,7,1,9,0,0,0,1,0,0,0,0"
    ∷ "S,2,7,4,8,0,0,1,0,0,0,0,0" ∷ "S,2,7,3,3,1,0,0,0,0,0,0,0" ∷ "S,2,7,4,8,0,0,0,0,0,0,0,0" ∷ "S,2,8,1,10,0,0,0,0,1,0,0,0" ∷ "S,2,8,4,7,0,1,0,0,0,0,0,0"
    ∷ "S,2,8,2,4,1,0,0,0,0,0,0,0" ∷ "S,2,9,1,10,0,0,0,1,0,0,0,0" ∷ "S,2,9,4,8,0,1,0,0,0,0,0,0" ∷ "S,2,9,2,5,1,0,0,0,0,0,0,0" ∷ "S,2,10,1,10,0,0,1,0,0,0,0,0"
    ∷ "S,2,10,4,9,0,1,0,0,0,0,0,0" ∷ "S,2,10,2,6,1,0,0,0,0,0,0,0" ∷ "S,2,10,1,10,0,0,0,0,0,0,0,0" ∷ []))
held_6 = refl

due_6 : due limits_6 2000 empty list_6 ≡ some (text ("S,0,1,3,1,0,0,0,0,1,0,0,0" ∷ "S,0,2,1,1,0,0,0,1,0,0,0,0" ∷ "S,0,3,1,1,0,0,1,0,0,0,0,0"
    ∷ "S,0,3,1,1,0,0,0,0,0,0,0,0" ∷ "S,0,4,4,1,0,1,0,0,0,0,0,0" ∷ "S,0,5,3,1,1,0,0,0,0,0,0,0" ∷ "S,1,1,1,2,0,0,0,0,1,0,0,0" ∷ "S,1,1,3,1,0,0,0,1,0,0,0,0"
    ∷ "S,1,2,1,3,0,0,0,0,1,0,0,0" ∷ "S,1,2,3,1,0,0,1,0,0,0,0,0" ∷ "S,1,2,3,1,0,0,0,0,0,0,0,0" ∷ "S,1,3,1,3,0,0,0,1,0,0,0,0" ∷ "S,1,3,4,2,0,0,1,0,0,0,0,0"
    ∷ "S,1,3,4,2,0,0,0,0,0,0,0,0" ∷ "S,1,4,1,4,0,0,0,0,1,0,0,0" ∷ "S,1,4,2,1,0,1,0,0,0,0,0,0" ∷ "S,1,5,1,4,0,0,0,1,0,0,0,0" ∷ "S,1,5,1,2,0,1,0,0,0,0,0,0"
    ∷ "S,1,6,1,4,0,0,1,0,0,0,0,0" ∷ "S,1,6,1,3,0,1,0,0,0,0,0,0" ∷ "S,1,6,1,4,0,0,0,0,0,0,0,0" ∷ "S,1,7,1,5,0,0,0,0,1,0,0,0" ∷ "S,1,7,4,1,1,0,0,0,0,0,0,0"
    ∷ "S,1,8,1,5,0,0,0,1,0,0,0,0" ∷ "S,1,8,2,2,1,0,0,0,0,0,0,0" ∷ "S,1,9,1,5,0,0,1,0,0,0,0,0" ∷ "S,1,9,2,3,1,0,0,0,0,0,0,0" ∷ "S,1,9,1,5,0,0,0,0,0,0,0,0"
    ∷ "S,1,10,1,5,0,1,0,0,0,0,0,0" ∷ "S,1,10,3,4,1,0,0,0,0,0,0,0" ∷ "S,2,1,1,3,0,0,0,0,1,0,0,0" ∷ "S,2,1,4,2,0,0,0,1,0,0,0,0" ∷ "S,2,1,1,1,0,0,1,0,0,0,0,0"
    ∷ "S,2,1,1,1,0,0,0,0,0,0,0,0" ∷ "S,2,2,1,5,0,0,0,0,1,0,0,0" ∷ "S,2,2,4,4,0,0,0,1,0,0,0,0" ∷ "S,2,2,4,1,0,1,0,0,0,0,0,0" ∷ "S,2,3,1,6,0,0,0,0,1,0,0,0"
    ∷ "S,2,3,4,4,0,0,1,0,0,0,0,0" ∷ "S,2,3,4,2,0,1,0,0,0,0,0,0" ∷ "S,2,3,4,4,0,0,0,0,0,0,0,0" ∷ "S,2,4,1,6,0,0,0,1,0,0,0,0" ∷ "S,2,4,4,5,0,0,1,0,0,0,0,0"
    ∷ "S,2,4,4,3,0,1,0,0,0,0,0,0" ∷ "S,2,4,4,5,0,0,0,0,0,0,0,0" ∷ "S,2,5,1,8,0,0,0,0,1,0,0,0" ∷ "S,2,5,4,7,0,0,0,1,0,0,0,0" ∷ "S,2,5,3,1,1,0,0,0,0,0,0,0"
    ∷ "S,2,6,1,9,0,0,0,0,1,0,0,0" ∷ "S,2,6,4,7,0,0,1,0,0,0,0,0" ∷ "S,2,6,3,2,1,0,0,0,0,0,0,0" ∷ "S,2,6,4,7,0,0,0,0,0,0,0,0" ∷ "S,2,7,1,9,0,0,0,1,0,0,0,0"
    ∷ "S,2,7,4,8,0,0,1,0,0,0,0,0" ∷ "S,2,7,3,3,1,0,0,0,0,0,0,0" ∷ "S,2,7,4,8,0,0,0,0,0,0,0,0" ∷ "S,2,8,1,10,0,0,0,0,1,0,0,0" ∷ "S,2,8,4,7,0,1,0,0,0,0,0,0"
    ∷ "S,2,8,2,4,1,0,0,0,0,0,0,0" ∷ "S,2,9,1,10,0,0,0,1,0,0,0,0" ∷ "S,2,9,4,8,0,1,0,0,0,0,0,0" ∷ "S,2,9,2,5,1,0,0,0,0,0,0,0" ∷ "S,2,10,1,10,0,0,1,0,0,0,0,0"
    ∷ "S,2,10,4,9,0,1,0,0,0,0,0,0" ∷ "S,2,10,2,6,1,0,0,0,0,0,0,0" ∷ "S,2,10,1,10,0,0,0,0,0,0,0,0" ∷ []))
due_6 = refl

-- calls-1-7
abbrev limits_7 : Limits
limits_7 = record {
  prime_bound = 65535;
  variables = 8;
  components = 16;
  elements = 64;
  exponent = 6;
  t_lines = 2048;
  file = 65536;
  field = 65535;
  vectors = 128;
  level_terms = 6;
  levels = 9;
  working = 512;
  vector = 512;
  tree = 4096;
  numbering = λ code. 1;
}

abbrev list_7 : List Call
list_7 = reading true (text ("R,2,2,1,3" ∷ "D,3,1,0" ∷ "T,1,1,1,4,0" ∷ "T,2,1,2,2,2" ∷ "T,3,1,1,1,3" ∷ "T,4,1,1,0,4" ∷ "E,4" ∷ [])) ∷ fetching true 1 1
    ∷ reading true (text ("R,2,4,2,2" ∷ "T,1,1,2,0,2,0,0" ∷ "T,1,1,2,0,0,0,2" ∷ "T,2,1,2,0,0,3,0" ∷ "T,2,1,2,0,0,2,1" ∷ "T,2,1,2,0,0,1,2" ∷ "T,2,1,2,0,0,0,3"
    ∷ "T,3,1,1,0,2,1,0" ∷ "T,3,1,1,0,2,0,1" ∷ "T,3,1,1,0,0,1,2" ∷ "T,3,1,1,0,0,0,3" ∷ "E,10" ∷ [])) ∷ fetching true 10 1 ∷ lifting true 1 (by_hybrid 3 512)
    ∷ fetching true 1 1 ∷ lifting true 2 by_division ∷ []

seen_7 : seen limits_7 2000 empty list_7 ≡ some (text ("A,0,0" ∷ "A,11,0" ∷ "A,0,0" ∷ "A,12,0" ∷ "A,0,0" ∷ "A,0,0" ∷ "V,1,2,0,2,0,0,0,0,0,0"
    ∷ "V,1,1,0,0,3,0,0,0,0,0" ∷ "V,1,1,0,0,2,1,0,0,0,0" ∷ "V,1,1,0,0,1,2,0,0,0,0" ∷ "V,1,1,0,0,0,3,0,0,0,0" ∷ "V,1,2,0,0,0,2,0,0,0,0" ∷ "A,0,0" ∷ []))
seen_7 = refl

held_7 : held limits_7 2000 empty list_7 ≡ some (text ("S,0,1,1,2,0,2,0,0,0,0,0,0" ∷ "S,0,1,1,2,0,0,0,2,0,0,0,0" ∷ "S,0,2,1,2,0,0,3,0,0,0,0,0"
    ∷ "S,0,2,1,2,0,0,2,1,0,0,0,0" ∷ "S,0,2,1,2,0,0,1,2,0,0,0,0" ∷ "S,0,2,1,2,0,0,0,3,0,0,0,0" ∷ "S,0,3,1,1,0,2,1,0,0,0,0,0" ∷ "S,0,3,1,1,0,2,0,1,0,0,0,0"
    ∷ "S,0,3,1,1,0,0,1,2,0,0,0,0" ∷ "S,0,3,1,1,0,0,0,3,0,0,0,0" ∷ "S,1,1,1,2,0,2,0,0,0,0,0,0" ∷ "S,1,1,1,1,0,0,3,0,0,0,0,0" ∷ "S,1,1,1,1,0,0,2,1,0,0,0,0"
    ∷ "S,1,1,1,1,0,0,1,2,0,0,0,0" ∷ "S,1,1,1,1,0,0,0,3,0,0,0,0" ∷ "S,1,1,1,2,0,0,0,2,0,0,0,0" ∷ []))
held_7 = refl

due_7 : due limits_7 2000 empty list_7 ≡ some (text ("S,0,1,1,2,0,2,0,0,0,0,0,0" ∷ "S,0,1,1,2,0,0,0,2,0,0,0,0" ∷ "S,0,2,1,2,0,0,3,0,0,0,0,0"
    ∷ "S,0,2,1,2,0,0,2,1,0,0,0,0" ∷ "S,0,2,1,2,0,0,1,2,0,0,0,0" ∷ "S,0,2,1,2,0,0,0,3,0,0,0,0" ∷ "S,0,3,1,1,0,2,1,0,0,0,0,0" ∷ "S,0,3,1,1,0,2,0,1,0,0,0,0"
    ∷ "S,0,3,1,1,0,0,1,2,0,0,0,0" ∷ "S,0,3,1,1,0,0,0,3,0,0,0,0" ∷ "S,1,1,1,2,0,2,0,0,0,0,0,0" ∷ "S,1,1,1,1,0,0,3,0,0,0,0,0" ∷ "S,1,1,1,1,0,0,2,1,0,0,0,0"
    ∷ "S,1,1,1,1,0,0,1,2,0,0,0,0" ∷ "S,1,1,1,1,0,0,0,3,0,0,0,0" ∷ "S,1,1,1,2,0,0,0,2,0,0,0,0" ∷ []))
due_7 = refl

-- calls-1-8
abbrev limits_8 : Limits
limits_8 = record {
  prime_bound = 65535;
  variables = 8;
  components = 16;
  elements = 64;
  exponent = 255;
  t_lines = 2048;
  file = 65536;
  field = 65535;
  vectors = 128;
  level_terms = 2048;
  levels = 9;
  working = 512;
  vector = 512;
  tree = 4096;
  numbering = λ code. 1;
}

abbrev list_8 : List Call
list_8 = reading true (text ("R,5,1,3,1" ∷ "D,0" ∷ "T,1,1,1,0" ∷ "T,2,1,1,1" ∷ "T,2,1,1,0" ∷ "T,3,1,1,2" ∷ "E,4" ∷ [])) ∷ lifting true 1 (by_tree 4)
    ∷ fetching true 1 1 ∷ reading true (text ("R,101,2,3,3" ∷ "D,3,3,1" ∷ "T,1,11,1,0,3" ∷ "T,2,27,1,2,1" ∷ [])) ∷ lifting true 1 (by_hybrid 1 512) ∷ []

seen_8 : seen limits_8 2000 empty list_8 ≡ some (text ("A,0,0" ∷ "A,0,0" ∷ "A,0,0" ∷ "V,1,2,0,0,0,0,0,0,0,0" ∷ "V,4,1,1,0,0,0,0,0,0,0"
    ∷ "V,4,1,0,0,0,0,0,0,0,0" ∷ "A,1,5" ∷ "A,11,0" ∷ []))
seen_8 = refl

held_8 : held limits_8 2000 empty list_8 ≡ some (text ([]))
held_8 = refl

due_8 : due limits_8 2000 empty list_8 ≡ some (text ([]))
due_8 = refl

-- calls-1-9
abbrev limits_9 : Limits
limits_9 = record {
  prime_bound = 65535;
  variables = 8;
  components = 16;
  elements = 64;
  exponent = 255;
  t_lines = 2048;
  file = 65536;
  field = 65535;
  vectors = 128;
  level_terms = 2048;
  levels = 9;
  working = 512;
  vector = 512;
  tree = 4096;
  numbering = λ code. 1;
}

abbrev list_9 : List Call
list_9 = reading true (text ("R,3,4,3,1" ∷ "T,1,1,1,0,2,0,0" ∷ "T,1,2,1,0,1,1,0" ∷ "T,1,1,1,0,0,2,0" ∷ "T,1,2,1,0,1,0,1" ∷ "T,1,2,1,0,0,1,1"
    ∷ "T,1,1,1,0,0,0,2" ∷ "T,2,2,1,1,0,0,0" ∷ "T,2,2,1,0,0,1,0" ∷ "T,2,1,1,0,0,0,1" ∷ "E,9" ∷ [])) ∷ lifting true 1 (by_hybrid 2 512)
    ∷ lifting true 2 (by_hybrid 2 512) ∷ lifting true 3 (by_tree 0) ∷ lifting true 3 (by_tree 3) ∷ []

seen_9 : seen limits_9 2000 empty list_9 ≡ some (text ("A,0,0" ∷ "A,0,0" ∷ "A,0,0" ∷ "A,0,0" ∷ "A,0,0" ∷ []))
seen_9 = refl

held_9 : held limits_9 2000 empty list_9 ≡ some (text ("S,0,1,1,1,0,2,0,0,0,0,0,0" ∷ "S,0,1,2,1,0,1,1,0,0,0,0,0" ∷ "S,0,1,1,1,0,0,2,0,0,0,0,0"
    ∷ "S,0,1,2,1,0,1,0,1,0,0,0,0" ∷ "S,0,1,2,1,0,0,1,1,0,0,0,0" ∷ "S,0,1,1,1,0,0,0,2,0,0,0,0" ∷ "S,0,2,2,1,1,0,0,0,0,0,0,0" ∷ "S,0,2,2,1,0,0,1,0,0,0,0,0"
    ∷ "S,0,2,1,1,0,0,0,1,0,0,0,0" ∷ "S,1,1,1,2,0,2,0,0,0,0,0,0" ∷ "S,1,1,1,1,1,0,0,0,0,0,0,0" ∷ "S,1,1,2,2,0,1,1,0,0,0,0,0" ∷ "S,1,1,1,1,0,0,1,0,0,0,0,0"
    ∷ "S,1,1,1,2,0,0,2,0,0,0,0,0" ∷ "S,1,1,2,2,0,1,0,1,0,0,0,0" ∷ "S,1,1,2,1,0,0,0,1,0,0,0,0" ∷ "S,1,1,2,2,0,0,1,1,0,0,0,0" ∷ "S,1,1,1,2,0,0,0,2,0,0,0,0" ∷ []))
held_9 = refl

due_9 : due limits_9 2000 empty list_9 ≡ some (text ("S,0,1,1,1,0,2,0,0,0,0,0,0" ∷ "S,0,1,2,1,0,1,1,0,0,0,0,0" ∷ "S,0,1,1,1,0,0,2,0,0,0,0,0"
    ∷ "S,0,1,2,1,0,1,0,1,0,0,0,0" ∷ "S,0,1,2,1,0,0,1,1,0,0,0,0" ∷ "S,0,1,1,1,0,0,0,2,0,0,0,0" ∷ "S,0,2,2,1,1,0,0,0,0,0,0,0" ∷ "S,0,2,2,1,0,0,1,0,0,0,0,0"
    ∷ "S,0,2,1,1,0,0,0,1,0,0,0,0" ∷ "S,1,1,1,2,0,2,0,0,0,0,0,0" ∷ "S,1,1,1,1,1,0,0,0,0,0,0,0" ∷ "S,1,1,2,2,0,1,1,0,0,0,0,0" ∷ "S,1,1,1,1,0,0,1,0,0,0,0,0"
    ∷ "S,1,1,1,2,0,0,2,0,0,0,0,0" ∷ "S,1,1,2,2,0,1,0,1,0,0,0,0" ∷ "S,1,1,2,1,0,0,0,1,0,0,0,0" ∷ "S,1,1,2,2,0,0,1,1,0,0,0,0" ∷ "S,1,1,1,2,0,0,0,2,0,0,0,0" ∷ []))
due_9 = refl

-- calls-1-10
abbrev limits_10 : Limits
limits_10 = record {
  prime_bound = 65535;
  variables = 8;
  components = 16;
  elements = 64;
  exponent = 255;
  t_lines = 2048;
  file = 65536;
  field = 65535;
  vectors = 128;
  level_terms = 2048;
  levels = 9;
  working = 512;
  vector = 512;
  tree = 4096;
  numbering = λ code. 1;
}

abbrev list_10 : List Call
list_10 = reading true (text ("R,32003,3,3,1" ∷ "T,1,32002,1,1,0,0" ∷ "T,1,1,1,0,1,0" ∷ "T,1,1,1,0,0,0" ∷ "T,2,1,1,1,0,0" ∷ "T,2,32002,1,0,1,0"
    ∷ "T,2,32002,1,0,0,0" ∷ "T,3,1,1,0,0,1" ∷ "T,3,32002,1,0,0,0" ∷ "E,8" ∷ [])) ∷ lifting true 1 (by_hybrid 1 512) ∷ lifting true 1 (by_hybrid 2 512)
    ∷ lifting true 2 (by_tree 1000) ∷ []

seen_10 : seen limits_10 2000 empty list_10 ≡ some (text ("A,0,0" ∷ "A,0,0" ∷ "A,0,0" ∷ "A,0,0" ∷ []))
seen_10 = refl

held_10 : held limits_10 2000 empty list_10 ≡ some (text ("S,0,1,32002,1,1,0,0,0,0,0,0,0" ∷ "S,0,1,1,1,0,1,0,0,0,0,0,0" ∷ "S,0,1,1,1,0,0,0,0,0,0,0,0"
    ∷ "S,0,2,1,1,1,0,0,0,0,0,0,0" ∷ "S,0,2,32002,1,0,1,0,0,0,0,0,0" ∷ "S,0,2,32002,1,0,0,0,0,0,0,0,0" ∷ "S,0,3,1,1,0,0,1,0,0,0,0,0"
    ∷ "S,0,3,32002,1,0,0,0,0,0,0,0,0" ∷ "S,1,1,1,2,0,0,0,0,0,0,0,0" ∷ "S,1,1,1,1,0,0,0,0,0,0,0,0" ∷ "S,1,2,1,3,1,0,0,0,0,0,0,0" ∷ "S,1,2,1,1,0,0,1,0,0,0,0,0"
    ∷ "S,1,2,32002,3,0,1,0,0,0,0,0,0" ∷ "S,1,2,32002,1,0,0,0,0,0,0,0,0" ∷ "S,1,2,32002,3,0,0,0,0,0,0,0,0" ∷ []))
held_10 = refl

due_10 : due limits_10 2000 empty list_10 ≡ some (text ("S,0,1,32002,1,1,0,0,0,0,0,0,0" ∷ "S,0,1,1,1,0,1,0,0,0,0,0,0" ∷ "S,0,1,1,1,0,0,0,0,0,0,0,0"
    ∷ "S,0,2,1,1,1,0,0,0,0,0,0,0" ∷ "S,0,2,32002,1,0,1,0,0,0,0,0,0" ∷ "S,0,2,32002,1,0,0,0,0,0,0,0,0" ∷ "S,0,3,1,1,0,0,1,0,0,0,0,0"
    ∷ "S,0,3,32002,1,0,0,0,0,0,0,0,0" ∷ "S,1,1,1,2,0,0,0,0,0,0,0,0" ∷ "S,1,1,1,1,0,0,0,0,0,0,0,0" ∷ "S,1,2,1,3,1,0,0,0,0,0,0,0" ∷ "S,1,2,1,1,0,0,1,0,0,0,0,0"
    ∷ "S,1,2,32002,3,0,1,0,0,0,0,0,0" ∷ "S,1,2,32002,1,0,0,0,0,0,0,0,0" ∷ "S,1,2,32002,3,0,0,0,0,0,0,0,0" ∷ []))
due_10 = refl

-- calls-1-11
abbrev limits_11 : Limits
limits_11 = record {
  prime_bound = 65535;
  variables = 8;
  components = 16;
  elements = 64;
  exponent = 255;
  t_lines = 2048;
  file = 65536;
  field = 65535;
  vectors = 128;
  level_terms = 2048;
  levels = 9;
  working = 512;
  vector = 512;
  tree = 4096;
  numbering = λ code. 1;
}

abbrev list_11 : List Call
list_11 = reading true (text ("R,11,3,1,1" ∷ "D," ∷ "T,1,7,1,0,1,1" ∷ "T,2,10,1,3,0,1" ∷ "E,2" ∷ [])) ∷ lifting true 1 (by_hybrid 2 512)
    ∷ reading true (text ("R,32749,5,1,2" ∷ "D,2,3" ∷ "T,1,26413,2,1,0,1,0,0" ∷ "T,1,6336,2,0,1,1,0,0" ∷ "T,2,32748,2,0,2,0,0,1" ∷ "T,2,1,2,0,0,0,0,3"
    ∷ "T,3,32748,1,0,0,1,0,0" ∷ "T,3,1,2,0,0,0,0,1" ∷ "E,6" ∷ [])) ∷ fetching true 1 1 ∷ []

seen_11 : seen limits_11 2000 empty list_11 ≡ some (text ("A,1,2" ∷ "A,11,0" ∷ "A,0,0" ∷ "A,11,0" ∷ []))
seen_11 = refl

held_11 : held limits_11 2000 empty list_11 ≡ some (text ("S,0,1,26413,2,1,0,1,0,0,0,0,0" ∷ "S,0,1,6336,2,0,1,1,0,0,0,0,0" ∷ "S,0,2,32748,2,0,2,0,0,1,0,0,0"
    ∷ "S,0,2,1,2,0,0,0,0,3,0,0,0" ∷ "S,0,3,32748,1,0,0,1,0,0,0,0,0" ∷ "S,0,3,1,2,0,0,0,0,1,0,0,0" ∷ []))
held_11 = refl

due_11 : due limits_11 2000 empty list_11 ≡ some (text ("S,0,1,26413,2,1,0,1,0,0,0,0,0" ∷ "S,0,1,6336,2,0,1,1,0,0,0,0,0" ∷ "S,0,2,32748,2,0,2,0,0,1,0,0,0"
    ∷ "S,0,2,1,2,0,0,0,0,3,0,0,0" ∷ "S,0,3,32748,1,0,0,1,0,0,0,0,0" ∷ "S,0,3,1,2,0,0,0,0,1,0,0,0" ∷ []))
due_11 = refl

-- calls-1-12
abbrev limits_12 : Limits
limits_12 = record {
  prime_bound = 65535;
  variables = 8;
  components = 16;
  elements = 64;
  exponent = 255;
  t_lines = 2048;
  file = 65536;
  field = 65535;
  vectors = 128;
  level_terms = 2048;
  levels = 9;
  working = 512;
  vector = 3;
  tree = 3;
  numbering = λ code. 1;
}

abbrev list_12 : List Call
list_12 = reading true (text ("R,101,2,2,1" ∷ "D,3" ∷ "T,1,100,1,0,2" ∷ "T,1,100,1,0,1" ∷ "T,1,1,1,0,0" ∷ "T,2,81,1,1,0" ∷ "T,3,1,1,0,1" ∷ "T,4,100,1,0,0"
    ∷ "E,6" ∷ [])) ∷ fetching true 3 1 ∷ lifting true 1 (by_tree 0) ∷ fetching true 1 5 ∷ lifting true 2 (by_tree 6) ∷ reading true (text ("R,251,4,2,1"
    ∷ "D,6" ∷ "T,1,47,1,0,0,1,0" ∷ "T,2,1,1,0,1,0,0" ∷ "T,3,250,1,1,0,0,1" ∷ "T,3,108,1,0,0,0,0" ∷ "E,4" ∷ [])) ∷ lifting true 1 (by_tree 12)
    ∷ lifting true 2 (by_hybrid 3 512) ∷ []

seen_12 : seen limits_12 2000 empty list_12 ≡ some (text ("A,14,0" ∷ "A,11,0" ∷ "A,11,0" ∷ "A,11,0" ∷ "A,11,0" ∷ "A,0,0" ∷ "A,0,0" ∷ "A,14,2" ∷ []))
seen_12 = refl

held_12 : held limits_12 2000 empty list_12 ≡ some (text ([]))
held_12 = refl

due_12 : due limits_12 2000 empty list_12 ≡ some (text ([]))
due_12 = refl

-- calls-1-13
abbrev limits_13 : Limits
limits_13 = record {
  prime_bound = 1;
  variables = 8;
  components = 16;
  elements = 64;
  exponent = 255;
  t_lines = 2048;
  file = 65536;
  field = 65535;
  vectors = 128;
  level_terms = 2048;
  levels = 9;
  working = 512;
  vector = 512;
  tree = 4096;
  numbering = λ code. 1;
}

abbrev list_13 : List Call
list_13 = reading true (text ("R,2,2,1,1" ∷ "T,1,1,1,1,0" ∷ "T,2,1,1,0,1" ∷ "T,3,1,1,1,0" ∷ "E,3" ∷ [])) ∷ fetching true 1 1 ∷ []

seen_13 : seen limits_13 2000 empty list_13 ≡ some (text ("A,2,1" ∷ "A,11,0" ∷ []))
seen_13 = refl

held_13 : held limits_13 2000 empty list_13 ≡ some (text ([]))
held_13 = refl

due_13 : due limits_13 2000 empty list_13 ≡ some (text ([]))
due_13 = refl

-- calls-1-14
abbrev limits_14 : Limits
limits_14 = record {
  prime_bound = 65535;
  variables = 8;
  components = 16;
  elements = 64;
  exponent = 255;
  t_lines = 2048;
  file = 65536;
  field = 65535;
  vectors = 128;
  level_terms = 2048;
  levels = 9;
  working = 512;
  vector = 512;
  tree = 4096;
  numbering = λ code. 1;
}

abbrev list_14 : List Call
list_14 = reading true (text ("R,32003,2,3,1" ∷ "T,1,29190,1,0,3" ∷ "E,1" ∷ [])) ∷ lifting true 1 (by_tree 3) ∷ lifting true 2 (by_hybrid 2 512)
    ∷ fetching true 2 1 ∷ lifting true 2 (by_hybrid 65535 512) ∷ lifting true 5 (by_tree 12) ∷ fetching true 1 1 ∷ []

seen_14 : seen limits_14 2000 empty list_14 ≡ some (text ("A,0,0" ∷ "A,0,0" ∷ "A,0,0" ∷ "A,12,0" ∷ "A,12,0" ∷ "A,11,0" ∷ "A,12,0" ∷ []))
seen_14 = refl

held_14 : held limits_14 2000 empty list_14 ≡ some (text ("S,0,1,29190,1,0,3,0,0,0,0,0,0" ∷ []))
held_14 = refl

due_14 : due limits_14 2000 empty list_14 ≡ some (text ("S,0,1,29190,1,0,3,0,0,0,0,0,0" ∷ []))
due_14 = refl

-- calls-1-15
abbrev limits_15 : Limits
limits_15 = record {
  prime_bound = 65535;
  variables = 8;
  components = 16;
  elements = 64;
  exponent = 255;
  t_lines = 2048;
  file = 65536;
  field = 65535;
  vectors = 128;
  level_terms = 2048;
  levels = 9;
  working = 512;
  vector = 512;
  tree = 4096;
  numbering = λ code. 1;
}

abbrev list_15 : List Call
list_15 = reading true (text ("R,32003,3,2,1" ∷ "D,255" ∷ "T,1,26478,1,1,0,3" ∷ "T,2,32002,1,2,1,0" ∷ "T,2,5525,1,1,0,2" ∷ "T,2,21868,1,0,3,0"
    ∷ "T,3,1,1,0,1,1" ∷ "E,5" ∷ [])) ∷ fetching true 1 129 ∷ lifting true 1 (by_tree 12) ∷ lifting true 1 (by_hybrid 2 512) ∷ lifting true 2 (by_hybrid 1 512)
    ∷ fetching true 2 1 ∷ lifting true 3 (by_tree 0) ∷ lifting true 3 (by_hybrid 2 512) ∷ []

seen_15 : seen limits_15 2000 empty list_15 ≡ some (text ("A,0,0" ∷ "A,11,0" ∷ "A,0,0" ∷ "A,0,0" ∷ "A,0,0" ∷ "A,0,0" ∷ "V,1,3,0,0,2,0,0,0,0,0"
    ∷ "V,32002,2,1,0,0,0,0,0,0,0" ∷ "V,32002,1,0,0,0,0,0,0,0,0" ∷ "A,0,0" ∷ "A,0,0" ∷ []))
seen_15 = refl

held_15 : held limits_15 2000 empty list_15 ≡ some (text ("S,0,1,26478,1,1,0,3,0,0,0,0,0" ∷ "S,0,2,32002,1,2,1,0,0,0,0,0,0" ∷ "S,0,2,5525,1,1,0,2,0,0,0,0,0"
    ∷ "S,0,2,21868,1,0,3,0,0,0,0,0,0" ∷ "S,0,3,1,1,0,1,1,0,0,0,0,0" ∷ "S,1,1,1,2,0,0,3,0,0,0,0,0" ∷ "S,1,1,1981,1,1,1,0,0,0,0,0,0"
    ∷ "S,1,1,1,1,0,0,2,0,0,0,0,0" ∷ "S,1,1,10135,3,0,2,2,0,0,0,0,0" ∷ "S,1,2,1,3,1,0,2,0,0,0,0,0" ∷ "S,1,2,30022,1,0,1,0,0,0,0,0,0"
    ∷ "S,1,3,1,3,2,0,0,0,0,0,0,0" ∷ "S,1,3,1,2,0,0,1,0,0,0,0,0" ∷ "S,1,3,1,1,0,0,0,0,0,0,0,0" ∷ "S,1,3,10135,3,0,2,0,0,0,0,0,0" ∷ "S,2,1,1,3,0,0,2,0,0,0,0,0"
    ∷ "S,2,1,32002,2,1,0,0,0,0,0,0,0" ∷ "S,2,1,32002,1,0,0,0,0,0,0,0,0" ∷ []))
held_15 = refl

due_15 : due limits_15 2000 empty list_15 ≡ some (text ("S,0,1,26478,1,1,0,3,0,0,0,0,0" ∷ "S,0,2,32002,1,2,1,0,0,0,0,0,0" ∷ "S,0,2,5525,1,1,0,2,0,0,0,0,0"
    ∷ "S,0,2,21868,1,0,3,0,0,0,0,0,0" ∷ "S,0,3,1,1,0,1,1,0,0,0,0,0" ∷ "S,1,1,1,2,0,0,3,0,0,0,0,0" ∷ "S,1,1,1981,1,1,1,0,0,0,0,0,0"
    ∷ "S,1,1,1,1,0,0,2,0,0,0,0,0" ∷ "S,1,1,10135,3,0,2,2,0,0,0,0,0" ∷ "S,1,2,1,3,1,0,2,0,0,0,0,0" ∷ "S,1,2,30022,1,0,1,0,0,0,0,0,0"
    ∷ "S,1,3,1,3,2,0,0,0,0,0,0,0" ∷ "S,1,3,1,2,0,0,1,0,0,0,0,0" ∷ "S,1,3,1,1,0,0,0,0,0,0,0,0" ∷ "S,1,3,10135,3,0,2,0,0,0,0,0,0" ∷ "S,2,1,1,3,0,0,2,0,0,0,0,0"
    ∷ "S,2,1,32002,2,1,0,0,0,0,0,0,0" ∷ "S,2,1,32002,1,0,0,0,0,0,0,0,0" ∷ []))
due_15 = refl

-- calls-1-16
abbrev limits_16 : Limits
limits_16 = record {
  prime_bound = 65535;
  variables = 8;
  components = 16;
  elements = 64;
  exponent = 0;
  t_lines = 2048;
  file = 65536;
  field = 65535;
  vectors = 128;
  level_terms = 2048;
  levels = 9;
  working = 512;
  vector = 512;
  tree = 4096;
  numbering = λ code. 1;
}

abbrev list_16 : List Call
list_16 = reading true (text ("R,101,4,1,1" ∷ "D,65536" ∷ "T,1,1,1,1,1,1,0" ∷ "T,1,1,1,0,1,1,1" ∷ "T,1,1,1,0,0,0,3" ∷ "T,2,100,1,1,0,0,0" ∷ "T,2,1,1,0,0,0,1"
    ∷ "T,3,1,1,0,2,0,0" ∷ "T,3,100,1,0,0,0,2" ∷ "E,7" ∷ [])) ∷ reading true (text ("R,7,5,1,1" ∷ "T,1,1,1,1,0,0,0,0" ∷ "T,1,6,1,0,1,0,0,1"
    ∷ "T,1,1,1,0,0,0,0,0" ∷ "E,3" ∷ [])) ∷ lifting true 1 (by_tree 5) ∷ lifting true 2 (by_hybrid 3 512) ∷ []

seen_16 : seen limits_16 2000 empty list_16 ≡ some (text ("A,1,2" ∷ "A,4,2" ∷ "A,11,0" ∷ "A,11,0" ∷ []))
seen_16 = refl

held_16 : held limits_16 2000 empty list_16 ≡ some (text ([]))
held_16 = refl

due_16 : due limits_16 2000 empty list_16 ≡ some (text ([]))
due_16 = refl

-- calls-1-17
abbrev limits_17 : Limits
limits_17 = record {
  prime_bound = 65535;
  variables = 8;
  components = 16;
  elements = 64;
  exponent = 255;
  t_lines = 2048;
  file = 65536;
  field = 65535;
  vectors = 128;
  level_terms = 2048;
  levels = 9;
  working = 512;
  vector = 512;
  tree = 4096;
  numbering = λ code. 1;
}

abbrev list_17 : List Call
list_17 = reading true (text ("R,3,3,1,2" ∷ "D,255,255" ∷ "T,1,1,1,1,0,3" ∷ "T,1,2,1,1,0,0" ∷ "T,2,2,1,1,0,1" ∷ "T,2,2,1,0,0,3" ∷ "T,3,2,1,0,0,3"
    ∷ "T,4,2,1,1,0,0" ∷ "T,5,2,1,0,3,0" ∷ "E,7" ∷ [])) ∷ lifting true 1 (by_hybrid 3 512) ∷ lifting true 2 by_division ∷ fetching true 1 5
    ∷ reading true (text ("R,251,3,1,1" ∷ "D,1" ∷ "T,1,124,1,3,0,0" ∷ "T,1,130,1,2,0,1" ∷ "T,1,121,1,1,0,2" ∷ "T,1,127,1,0,0,3" ∷ "T,2,250,1,3,0,0"
    ∷ "T,2,3,1,2,0,1" ∷ "T,2,248,1,1,0,2" ∷ "T,2,1,1,0,0,3" ∷ "T,3,58,1,3,0,0" ∷ "T,3,77,1,2,0,1" ∷ "T,3,174,1,1,0,2" ∷ "T,3,193,1,0,0,3" ∷ "E,12" ∷ []))
    ∷ lifting true 1 by_division ∷ reading true (text ("R,7,5,3,1" ∷ "D,0" ∷ "T,1,1,1,0,0,0,0,0" ∷ "T,2,3,1,1,1,0,0,0" ∷ "T,2,1,1,1,0,1,0,0" ∷ "E,3" ∷ [])) ∷ []

seen_17 : seen limits_17 2000 empty list_17 ≡ some (text ("A,0,0" ∷ "A,0,0" ∷ "A,0,0" ∷ "A,0,0" ∷ "V,1,5,1,0,0,0,0,0,0,0" ∷ "V,2,4,0,3,0,0,0,0,0,0" ∷ "A,0,0"
    ∷ "A,0,0" ∷ "A,0,0" ∷ []))
seen_17 = refl

held_17 : held limits_17 2000 empty list_17 ≡ some (text ("S,0,1,1,1,0,0,0,0,0,0,0,0" ∷ "S,0,2,3,1,1,1,0,0,0,0,0,0" ∷ "S,0,2,1,1,1,0,1,0,0,0,0,0" ∷ []))
held_17 = refl

due_17 : due limits_17 2000 empty list_17 ≡ some (text ("S,0,1,1,1,0,0,0,0,0,0,0,0" ∷ "S,0,2,3,1,1,1,0,0,0,0,0,0" ∷ "S,0,2,1,1,1,0,1,0,0,0,0,0" ∷ []))
due_17 = refl

-- calls-1-18
abbrev limits_18 : Limits
limits_18 = record {
  prime_bound = 65535;
  variables = 8;
  components = 16;
  elements = 64;
  exponent = 255;
  t_lines = 2048;
  file = 65536;
  field = 65535;
  vectors = 128;
  level_terms = 2048;
  levels = 9;
  working = 512;
  vector = 512;
  tree = 4096;
  numbering = λ code. 1;
}

abbrev list_18 : List Call
list_18 = reading true (text ("R,3,5,1,1" ∷ "T,1,2,1,1,0,0,0,0" ∷ "T,2,2,1,0,1,0,0,0" ∷ "T,2,2,1,0,0,0,0,0" ∷ "T,3,2,1,0,0,1,0,0" ∷ "T,3,2,1,0,0,0,0,0"
    ∷ "T,4,1,1,0,0,0,1,0" ∷ "T,4,2,1,0,0,0,0,0" ∷ "T,5,1,1,0,0,0,0,1" ∷ "E,8" ∷ [])) ∷ reading true (text ("R,251,4,1,1" ∷ "T,1,149,1,0,0,0,0"
    ∷ "T,2,106,1,0,0,0,2" ∷ "T,4,90,1,0,2,0,0" ∷ "T,5,250,1,2,0,0,0" ∷ "E,5" ∷ [])) ∷ reading true (text ("R,3,1,3,2" ∷ "T,1,2,2,2" ∷ "T,2,2,1,3"
    ∷ "T,3,1,1,2" ∷ "E,3" ∷ [])) ∷ lifting true 1 (by_tree 2) ∷ fetching true 1 1 ∷ []

seen_18 : seen limits_18 2000 empty list_18 ≡ some (text ("A,0,0" ∷ "A,5,4" ∷ "A,0,0" ∷ "A,0,0" ∷ "A,0,0" ∷ "V,1,3,1,0,0,0,0,0,0,0" ∷ "V,1,2,0,0,0,0,0,0,0,0"
    ∷ []))
seen_18 = refl

held_18 : held limits_18 2000 empty list_18 ≡ some (text ("S,0,1,2,2,2,0,0,0,0,0,0,0" ∷ "S,0,2,2,1,3,0,0,0,0,0,0,0" ∷ "S,0,3,1,1,2,0,0,0,0,0,0,0"
    ∷ "S,1,1,1,3,1,0,0,0,0,0,0,0" ∷ "S,1,1,1,2,0,0,0,0,0,0,0,0" ∷ []))
held_18 = refl

due_18 : due limits_18 2000 empty list_18 ≡ some (text ("S,0,1,2,2,2,0,0,0,0,0,0,0" ∷ "S,0,2,2,1,3,0,0,0,0,0,0,0" ∷ "S,0,3,1,1,2,0,0,0,0,0,0,0"
    ∷ "S,1,1,1,3,1,0,0,0,0,0,0,0" ∷ "S,1,1,1,2,0,0,0,0,0,0,0,0" ∷ []))
due_18 = refl

-- calls-1-19
abbrev limits_19 : Limits
limits_19 = record {
  prime_bound = 65535;
  variables = 8;
  components = 16;
  elements = 64;
  exponent = 255;
  t_lines = 2048;
  file = 65536;
  field = 2;
  vectors = 128;
  level_terms = 2048;
  levels = 9;
  working = 512;
  vector = 512;
  tree = 4096;
  numbering = λ code. 1;
}

abbrev list_19 : List Call
list_19 = lifting true 1 (by_tree 3) ∷ reading true (text ("R,3,2,2,1" ∷ "D,0" ∷ "T,1,2,1,2,0" ∷ "T,2,2,1,0,1" ∷ "E,2" ∷ [])) ∷ fetching true 1 0 ∷ []

seen_19 : seen limits_19 2000 empty list_19 ≡ some (text ("A,11,0" ∷ "A,1,1" ∷ "A,11,0" ∷ []))
seen_19 = refl

held_19 : held limits_19 2000 empty list_19 ≡ some (text ([]))
held_19 = refl

due_19 : due limits_19 2000 empty list_19 ≡ some (text ([]))
due_19 = refl

-- calls-1-20
abbrev limits_20 : Limits
limits_20 = record {
  prime_bound = 65535;
  variables = 8;
  components = 16;
  elements = 64;
  exponent = 255;
  t_lines = 2048;
  file = 65536;
  field = 65535;
  vectors = 128;
  level_terms = 2048;
  levels = 9;
  working = 512;
  vector = 512;
  tree = 4096;
  numbering = λ code. 1;
}

abbrev list_20 : List Call
list_20 = reading true (text ("R,5,1,1,1" ∷ "T,1,2,1,3" ∷ "T,2,3,1,3" ∷ "E,2" ∷ [])) ∷ lifting true 1 (by_hybrid 2 512) ∷ reading true (text ("R,7,3,3,1"
    ∷ "T,1,2,1,1,0,0" ∷ "T,2,1,1,0,3,0" ∷ "T,2,1,1,0,2,0" ∷ "E,3" ∷ [])) ∷ fetching true 1 1 ∷ lifting true 1 (by_tree 12) ∷ lifting true 2 (by_hybrid 2 512)
    ∷ lifting true 3 (by_tree 0) ∷ lifting true 3 (by_tree 1) ∷ []

seen_20 : seen limits_20 2000 empty list_20 ≡ some (text ("A,0,0" ∷ "A,0,0" ∷ "A,0,0" ∷ "A,11,0" ∷ "A,0,0" ∷ "A,0,0" ∷ "A,0,0" ∷ "A,0,0" ∷ []))
seen_20 = refl

held_20 : held limits_20 2000 empty list_20 ≡ some (text ("S,0,1,2,1,1,0,0,0,0,0,0,0" ∷ "S,0,2,1,1,0,3,0,0,0,0,0,0" ∷ "S,0,2,1,1,0,2,0,0,0,0,0,0"
    ∷ "S,1,1,1,2,1,0,0,0,0,0,0,0" ∷ "S,1,1,3,1,0,3,0,0,0,0,0,0" ∷ "S,1,1,3,1,0,2,0,0,0,0,0,0" ∷ []))
held_20 = refl

due_20 : due limits_20 2000 empty list_20 ≡ some (text ("S,0,1,2,1,1,0,0,0,0,0,0,0" ∷ "S,0,2,1,1,0,3,0,0,0,0,0,0" ∷ "S,0,2,1,1,0,2,0,0,0,0,0,0"
    ∷ "S,1,1,1,2,1,0,0,0,0,0,0,0" ∷ "S,1,1,3,1,0,3,0,0,0,0,0,0" ∷ "S,1,1,3,1,0,2,0,0,0,0,0,0" ∷ []))
due_20 = refl
