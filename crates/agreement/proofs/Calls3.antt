-- The definitions and the unrelated implementation agree: lists of calls.
-- Written by tools/agreement; do not edit.
use mathlib.Core.Path.{◌≡◌, refl}
use mathlib.Core.Bool.{true}
use mathlib.Core.Option.{some}
use mathlib.Core.List.{List, [], ◌∷◌, ◌++◌}
use Rattle.definitions.specs.Limits.{Limits}
use Rattle.definitions.specs.Lifting.{by_division, by_hybrid, by_tree}
use Rattle.definitions.specs.State.{empty}
use Rattle.definitions.specs.Calls.{Call, reading, lifting, fetching}
use Rattle.definitions.proofs.Text.{text, bytes}
use Rattle.definitions.proofs.Views.{seen, held, due}

-- calls-1-41
abbrev limits_1 : Limits
limits_1 = record {
  prime_bound = 65535;
  variables = 8;
  components = 16;
  elements = 64;
  exponent = 2;
  t_lines = 2048;
  file = 65536;
  field = 65535;
  vectors = 128;
  level_terms = 2048;
  levels = 9;
  working = 512;
  vector = 512;
  tree = 4096;
  numbering = λ code. 1;
}

abbrev list_1 : List Call
list_1 = lifting true 1 (by_tree 2) ∷ reading true (text ("R,7,3,2,1" ∷ "D,3" ∷ "T,1,5,1,1,1,1" ∷ "T,1,6,1,1,0,2" ∷ "T,1,2,1,0,2,1" ∷ "T,1,1,1,0,1,2"
    ∷ "T,1,2,1,1,0,1" ∷ "T,1,5,1,0,1,1" ∷ "T,2,6,1,1,0,0" ∷ "T,2,5,1,0,0,0" ∷ "T,3,2,1,0,1,0" ∷ "T,3,1,1,0,0,1" ∷ "T,3,5,1,0,0,0" ∷ "E,11" ∷ []))
    ∷ lifting true 1 (by_tree 1000) ∷ lifting true 2 (by_tree 12) ∷ lifting true 3 (by_hybrid 3 512) ∷ lifting true 3 (by_tree 0) ∷ fetching true 3 1
    ∷ lifting true 3 by_division ∷ []

seen_1 : seen limits_1 2000 empty list_1 ≡ some (text ("A,11,0" ∷ "A,0,0" ∷ "A,13,1" ∷ "A,11,0" ∷ "A,11,0" ∷ "A,11,0" ∷ "A,11,0" ∷ "A,11,0" ∷ []))
seen_1 = refl

held_1 : held limits_1 2000 empty list_1 ≡ some (text ([]))
held_1 = refl

due_1 : due limits_1 2000 empty list_1 ≡ some (text ([]))
due_1 = refl

-- calls-1-42
abbrev limits_2 : Limits
limits_2 = record {
  prime_bound = 65535;
  variables = 8;
  components = 16;
  elements = 64;
  exponent = 255;
  t_lines = 2048;
  file = 65536;
  field = 65535;
  vectors = 128;
  level_terms = 2048;
  levels = 9;
  working = 512;
  vector = 512;
  tree = 4096;
  numbering = λ code. 1;
}

abbrev list_2 : List Call
list_2 = reading true (text ("R,32003,3,1,1" ∷ "T,1,29849,1,0,1,1" ∷ "T,2,32002,1,0,1,2" ∷ "E,2" ∷ [])) ∷ lifting true 1 (by_hybrid 0 512)
    ∷ lifting true 1 by_division ∷ fetching true 1 1 ∷ lifting true 1 by_division ∷ []

seen_2 : seen limits_2 2000 empty list_2 ≡ some (text ("A,0,0" ∷ "A,12,0" ∷ "A,0,0" ∷ "A,0,0" ∷ "V,1,2,0,0,0,0,0,0,0,0" ∷ "V,12822,1,0,0,1,0,0,0,0,0"
    ∷ "A,0,0" ∷ []))
seen_2 = refl

held_2 : held limits_2 2000 empty list_2 ≡ some (text ("S,0,1,29849,1,0,1,1,0,0,0,0,0" ∷ "S,0,2,32002,1,0,1,2,0,0,0,0,0" ∷ "S,1,1,1,2,0,0,0,0,0,0,0,0"
    ∷ "S,1,1,12822,1,0,0,1,0,0,0,0,0" ∷ []))
held_2 = refl

due_2 : due limits_2 2000 empty list_2 ≡ some (text ("S,0,1,29849,1,0,1,1,0,0,0,0,0" ∷ "S,0,2,32002,1,0,1,2,0,0,0,0,0" ∷ "S,1,1,1,2,0,0,0,0,0,0,0,0"
    ∷ "S,1,1,12822,1,0,0,1,0,0,0,0,0" ∷ []))
due_2 = refl

-- calls-1-43
abbrev limits_3 : Limits
limits_3 = record {
  prime_bound = 65535;
  variables = 8;
  components = 16;
  elements = 64;
  exponent = 255;
  t_lines = 2048;
  file = 65536;
  field = 65535;
  vectors = 128;
  level_terms = 2048;
  levels = 9;
  working = 512;
  vector = 512;
  tree = 4096;
  numbering = λ code. 1;
}

abbrev list_3 : List Call
list_3 = reading true (text ("R,7,5,2,1" ∷ "D,3" ∷ "T,1,5,1,1,0,0,0,1" ∷ "T,2,5,1,0,0,2,2,0" ∷ "E,2" ∷ [])) ∷ lifting true 1 (by_hybrid 3 512)
    ∷ lifting true 1 (by_tree 60) ∷ lifting true 2 (by_hybrid 2 512) ∷ lifting true 3 (by_hybrid 1 512) ∷ fetching true 1 1 ∷ []

seen_3 : seen limits_3 2000 empty list_3 ≡ some (text ("A,0,0" ∷ "A,0,0" ∷ "A,0,0" ∷ "A,0,0" ∷ "A,0,0" ∷ "A,0,0" ∷ "V,1,2,1,0,0,0,1,0,0,0"
    ∷ "V,6,1,0,0,2,2,0,0,0,0" ∷ []))
seen_3 = refl

held_3 : held limits_3 2000 empty list_3 ≡ some (text ("S,0,1,5,1,1,0,0,0,1,0,0,0" ∷ "S,0,2,5,1,0,0,2,2,0,0,0,0" ∷ "S,1,1,1,2,1,0,0,0,1,0,0,0"
    ∷ "S,1,1,6,1,0,0,2,2,0,0,0,0" ∷ []))
held_3 = refl

due_3 : due limits_3 2000 empty list_3 ≡ some (text ("S,0,1,5,1,1,0,0,0,1,0,0,0" ∷ "S,0,2,5,1,0,0,2,2,0,0,0,0" ∷ "S,1,1,1,2,1,0,0,0,1,0,0,0"
    ∷ "S,1,1,6,1,0,0,2,2,0,0,0,0" ∷ []))
due_3 = refl

-- calls-1-44
abbrev limits_4 : Limits
limits_4 = record {
  prime_bound = 65535;
  variables = 8;
  components = 16;
  elements = 64;
  exponent = 255;
  t_lines = 2048;
  file = 65536;
  field = 65535;
  vectors = 128;
  level_terms = 2048;
  levels = 9;
  working = 512;
  vector = 3;
  tree = 4096;
  numbering = λ code. 1;
}

abbrev list_4 : List Call
list_4 = reading true (text ("R,101,4,3,3" ∷ "D,1,3,2" ∷ "T,1,1,2,0,3,0,0" ∷ "T,2,24,2,0,0,3,0" ∷ "T,2,77,2,0,0,2,1" ∷ "T,3,64,2,0,0,0,1" ∷ "E,4" ∷ []))
    ∷ fetching true 1 1 ∷ lifting true 1 (by_hybrid 3 512) ∷ lifting true 2 (by_hybrid 65535 512) ∷ lifting true 2 (by_hybrid 1 512) ∷ lifting true 3 by_division
    ∷ fetching true 1 0 ∷ []

seen_4 : seen limits_4 2000 empty list_4 ≡ some (text ("A,0,0" ∷ "A,11,0" ∷ "A,0,0" ∷ "A,12,0" ∷ "A,14,2" ∷ "A,11,0" ∷ "A,11,0" ∷ []))
seen_4 = refl

held_4 : held limits_4 2000 empty list_4 ≡ some (text ([]))
held_4 = refl

due_4 : due limits_4 2000 empty list_4 ≡ some (text ([]))
due_4 = refl

-- calls-1-45
abbrev limits_5 : Limits
limits_5 = record {
  prime_bound = 65535;
  variables = 8;
  components = 16;
  elements = 64;
  exponent = 255;
  t_lines = 2048;
  file = 65536;
  field = 65535;
  vectors = 128;
  level_terms = 2048;
  levels = 9;
  working = 512;
  vector = 512;
  tree = 4096;
  numbering = λ code. 1;
}

abbrev list_5 : List Call
list_5 = reading true (text ("R,2,1,2,1" ∷ "d,3" ∷ "T,1,1,1,2" ∷ "T,2,1,1,3" ∷ "T,3,1,1,1" ∷ "T,4,1,1,0" ∷ "T,5,1,1,3" ∷ "T,6,1,1,0" ∷ "E,6" ∷ []))
    ∷ fetching true 1 1 ∷ reading true (text ("R,32003,4,1,1" ∷ "T,1,32001,1,1,0,0,1" ∷ "T,2,22063,1,1,0,0,0" ∷ "T,2,9940,1,0,1,0,0" ∷ "T,3,32002,1,0,1,0,2"
    ∷ "T,4,32001,1,2,0,0,2" ∷ "T,4,18997,1,1,0,0,1" ∷ "E,6" ∷ [])) ∷ []

seen_5 : seen limits_5 2000 empty list_5 ≡ some (text ("A,1,2" ∷ "A,11,0" ∷ "A,9,1" ∷ "V,9940,1,0,1,0,1,0,0,0,0" ∷ []))
seen_5 = refl

held_5 : held limits_5 2000 empty list_5 ≡ some (text ([]))
held_5 = refl

due_5 : due limits_5 2000 empty list_5 ≡ some (text ([]))
due_5 = refl

-- calls-1-46
abbrev limits_6 : Limits
limits_6 = record {
  prime_bound = 65535;
  variables = 8;
  components = 16;
  elements = 64;
  exponent = 255;
  t_lines = 2048;
  file = 65536;
  field = 65535;
  vectors = 128;
  level_terms = 0;
  levels = 9;
  working = 512;
  vector = 512;
  tree = 0;
  numbering = λ code. 1;
}

abbrev list_6 : List Call
list_6 = reading true (text ("R,2,3,1,11" ∷ "D,2" ∷ "T,1,1,1,2,0,0" ∷ "T,1,1,1,1,0,1" ∷ "T,1,1,1,1,0,0" ∷ "T,1,1,1,0,2,0" ∷ "T,1,1,1,0,1,1" ∷ "T,1,1,1,0,1,0"
    ∷ "T,2,1,1,2,0,0" ∷ "T,2,1,1,1,0,1" ∷ "T,2,1,1,1,0,0" ∷ "T,2,1,1,0,2,0" ∷ "T,2,1,1,0,1,1" ∷ "T,2,1,1,0,1,0" ∷ "E,12" ∷ []))
    ∷ reading true (text ("R,5,5,1,3" ∷ "T,1,1,3,0,0,0,0,0" ∷ "T,2,1,3,1,0,0,0,0" ∷ "T,2,4,2,0,0,0,1,0" ∷ "T,3,4,2,1,1,0,0,0" ∷ "T,3,3,3,0,0,0,0,0"
    ∷ "T,3,1,1,0,0,0,0,0" ∷ "E,6" ∷ [])) ∷ lifting true 1 (by_hybrid 3 512) ∷ fetching true 1 1 ∷ reading true (text ("R,2,2,1,3" ∷ "D,0,0,0" ∷ "T,1,1,1,0,1"
    ∷ "T,2,1,1,0,1" ∷ "T,3,1,3,0,1" ∷ "T,3,1,2,0,1" ∷ "T,3,1,1,0,1" ∷ "E,5" ∷ [])) ∷ []

seen_6 : seen limits_6 2000 empty list_6 ≡ some (text ("A,1,2" ∷ "A,9,1" ∷ "V,4,2,0,0,0,1,0,0,0,0" ∷ "A,11,0" ∷ "A,11,0" ∷ "A,0,0" ∷ []))
seen_6 = refl

held_6 : held limits_6 2000 empty list_6 ≡ some (text ("S,0,1,1,1,0,1,0,0,0,0,0,0" ∷ "S,0,2,1,1,0,1,0,0,0,0,0,0" ∷ "S,0,3,1,3,0,1,0,0,0,0,0,0"
    ∷ "S,0,3,1,2,0,1,0,0,0,0,0,0" ∷ "S,0,3,1,1,0,1,0,0,0,0,0,0" ∷ []))
held_6 = refl

due_6 : due limits_6 2000 empty list_6 ≡ some (text ("S,0,1,1,1,0,1,0,0,0,0,0,0" ∷ "S,0,2,1,1,0,1,0,0,0,0,0,0" ∷ "S,0,3,1,3,0,1,0,0,0,0,0,0"
    ∷ "S,0,3,1,2,0,1,0,0,0,0,0,0" ∷ "S,0,3,1,1,0,1,0,0,0,0,0,0" ∷ []))
due_6 = refl

-- calls-1-47
abbrev limits_7 : Limits
limits_7 = record {
  prime_bound = 65535;
  variables = 8;
  components = 16;
  elements = 64;
  exponent = 255;
  t_lines = 2048;
  file = 65536;
  field = 65535;
  vectors = 128;
  level_terms = 2048;
  levels = 9;
  working = 512;
  vector = 512;
  tree = 0;
  numbering = λ code. 1;
}

abbrev list_7 : List Call
list_7 = reading true (text ("R,2,4,3,1" ∷ "D,0" ∷ "T,1,1,1,1,0,0,0" ∷ "T,1,1,1,0,0,0,0" ∷ "T,2,1,1,0,1,0,0" ∷ "T,3,1,1,0,0,1,0" ∷ "T,4,1,2,0,0,0,1"
    ∷ "T,4,1,1,0,0,0,0" ∷ "E,6" ∷ [])) ∷ reading true (text ("R,5,2,2,1" ∷ "T,1,3,1,1,0" ∷ "T,2,3,1,1,0" ∷ "T,3,3,1,0,1" ∷ "E,3" ∷ [])) ∷ fetching true 2 1
    ∷ lifting true 1 (by_tree 0) ∷ lifting true 2 (by_hybrid 2 512) ∷ lifting true 1 (by_tree 9) ∷ []

seen_7 : seen limits_7 2000 empty list_7 ≡ some (text ("A,4,7" ∷ "A,0,0" ∷ "A,11,0" ∷ "A,14,1" ∷ "A,11,0" ∷ "A,11,0" ∷ []))
seen_7 = refl

held_7 : held limits_7 2000 empty list_7 ≡ some (text ([]))
held_7 = refl

due_7 : due limits_7 2000 empty list_7 ≡ some (text ([]))
due_7 = refl

-- calls-1-48
abbrev limits_8 : Limits
limits_8 = record {
  prime_bound = 65535;
  variables = 8;
  components = 16;
  elements = 64;
  exponent = 255;
  t_lines = 2048;
  file = 65536;
  field = 65535;
  vectors = 128;
  level_terms = 2048;
  levels = 9;
  working = 512;
  vector = 512;
  tree = 4096;
  numbering = λ code. 1;
}

abbrev list_8 : List Call
list_8 = reading true (text ("R,32003,4,3,1" ∷ "T,1,13803,1,0,2,0,0" ∷ "T,1,18200,1,1,0,1,0" ∷ "T,2,23441,1,0,1,1,0" ∷ "T,2,8562,1,1,0,0,1"
    ∷ "T,3,21693,1,0,0,2,0" ∷ "T,3,10310,1,0,1,0,1" ∷ "E,6" ∷ [])) ∷ fetching true 1 1 ∷ lifting true 1 (by_hybrid 1 512) ∷ fetching true 1 2
    ∷ lifting true 10 (by_tree 6) ∷ reading true (text ("R,32749,2,1,2" ∷ "T,1,25481,2,1,0" ∷ "T,1,7268,1,0,0" ∷ "E,2" ∷ [])) ∷ lifting true 1 (by_hybrid 2 512)
    ∷ lifting true 2 (by_hybrid 3 512) ∷ []

seen_8 : seen limits_8 2000 empty list_8 ≡ some (text ("A,0,0" ∷ "A,11,0" ∷ "A,0,0" ∷ "A,0,0" ∷ "V,1,3,0,1,0,0,0,0,0,0" ∷ "V,5755,2,0,0,1,0,0,0,0,0"
    ∷ "V,405,1,0,0,0,1,0,0,0,0" ∷ "A,12,0" ∷ "A,0,0" ∷ "A,0,0" ∷ "A,0,0" ∷ []))
seen_8 = refl

held_8 : held limits_8 2000 empty list_8 ≡ some (text ("S,0,1,25481,2,1,0,0,0,0,0,0,0" ∷ "S,0,1,7268,1,0,0,0,0,0,0,0,0" ∷ []))
held_8 = refl

due_8 : due limits_8 2000 empty list_8 ≡ some (text ("S,0,1,25481,2,1,0,0,0,0,0,0,0" ∷ "S,0,1,7268,1,0,0,0,0,0,0,0,0" ∷ []))
due_8 = refl

-- calls-1-49
abbrev limits_9 : Limits
limits_9 = record {
  prime_bound = 65535;
  variables = 8;
  components = 16;
  elements = 64;
  exponent = 255;
  t_lines = 2048;
  file = 65536;
  field = 65535;
  vectors = 128;
  level_terms = 2048;
  levels = 9;
  working = 512;
  vector = 4;
  tree = 4096;
  numbering = λ code. 1;
}

abbrev list_9 : List Call
list_9 = reading true (text ("R,3,3,3,1" ∷ "T,1,2,1,3,0,0" ∷ "T,1,1,1,0,0,1" ∷ "T,2,2,1,0,0,3" ∷ "T,2,1,1,0,1,0" ∷ "T,3,2,1,0,2,0" ∷ "E,5" ∷ []))
    ∷ lifting true 1 (by_hybrid 3 512) ∷ lifting true 2 by_division ∷ []

seen_9 : seen limits_9 2000 empty list_9 ≡ some (text ("A,0,0" ∷ "A,0,0" ∷ "A,14,2" ∷ []))
seen_9 = refl

held_9 : held limits_9 2000 empty list_9 ≡ some (text ([]))
held_9 = refl

due_9 : due limits_9 2000 empty list_9 ≡ some (text ([]))
due_9 = refl

-- calls-1-50
abbrev limits_10 : Limits
limits_10 = record {
  prime_bound = 65535;
  variables = 8;
  components = 16;
  elements = 64;
  exponent = 255;
  t_lines = 2048;
  file = 65536;
  field = 65535;
  vectors = 128;
  level_terms = 2048;
  levels = 9;
  working = 512;
  vector = 512;
  tree = 4096;
  numbering = λ code. 1;
}

abbrev list_10 : List Call
list_10 = reading true (text ("R,101,3,3,1" ∷ "D,1" ∷ "T,1,34,1,0,2,0" ∷ "T,2,100,1,0,0,0" ∷ "T,3,1,1,0,0,0" ∷ "T,4,17,1,0,2,0" ∷ "T,4,70,1,0,1,0" ∷ "E,5"
    ∷ [])) ∷ reading true (text ("R,7,4,2,1" ∷ "T,1,6,1,0,1,0,0" ∷ "T,1,6,1,0,0,0,1" ∷ "T,2,4,1,0,0,0,0" ∷ "E,3" ∷ [])) ∷ lifting true 1 (by_tree 60)
    ∷ fetching true 1 1 ∷ []

seen_10 : seen limits_10 2000 empty list_10 ≡ some (text ("A,0,0" ∷ "A,0,0" ∷ "A,0,0" ∷ "A,0,0" ∷ "V,1,2,0,1,0,0,0,0,0,0" ∷ "V,4,1,0,0,0,0,0,0,0,0"
    ∷ "V,1,2,0,0,0,1,0,0,0,0" ∷ []))
seen_10 = refl

held_10 : held limits_10 2000 empty list_10 ≡ some (text ("S,0,1,6,1,0,1,0,0,0,0,0,0" ∷ "S,0,1,6,1,0,0,0,1,0,0,0,0" ∷ "S,0,2,4,1,0,0,0,0,0,0,0,0"
    ∷ "S,1,1,1,2,0,1,0,0,0,0,0,0" ∷ "S,1,1,4,1,0,0,0,0,0,0,0,0" ∷ "S,1,1,1,2,0,0,0,1,0,0,0,0" ∷ []))
held_10 = refl

due_10 : due limits_10 2000 empty list_10 ≡ some (text ("S,0,1,6,1,0,1,0,0,0,0,0,0" ∷ "S,0,1,6,1,0,0,0,1,0,0,0,0" ∷ "S,0,2,4,1,0,0,0,0,0,0,0,0"
    ∷ "S,1,1,1,2,0,1,0,0,0,0,0,0" ∷ "S,1,1,4,1,0,0,0,0,0,0,0,0" ∷ "S,1,1,1,2,0,0,0,1,0,0,0,0" ∷ []))
due_10 = refl

-- calls-1-51
abbrev limits_11 : Limits
limits_11 = record {
  prime_bound = 65535;
  variables = 8;
  components = 16;
  elements = 64;
  exponent = 0;
  t_lines = 2048;
  file = 65536;
  field = 65535;
  vectors = 128;
  level_terms = 2048;
  levels = 9;
  working = 512;
  vector = 512;
  tree = 4096;
  numbering = λ code. 1;
}

abbrev list_11 : List Call
list_11 = fetching true 1 1 ∷ lifting true 1 (by_hybrid 3 512) ∷ fetching true 1 1 ∷ fetching true 1 1 ∷ lifting true 1 (by_hybrid 3 512)
    ∷ lifting true 1 (by_hybrid 3 512) ∷ []

seen_11 : seen limits_11 2000 empty list_11 ≡ some (text ("A,11,0" ∷ "A,11,0" ∷ "A,11,0" ∷ "A,11,0" ∷ "A,11,0" ∷ "A,11,0" ∷ []))
seen_11 = refl

held_11 : held limits_11 2000 empty list_11 ≡ some (text ([]))
held_11 = refl

due_11 : due limits_11 2000 empty list_11 ≡ some (text ([]))
due_11 = refl

-- calls-1-52
abbrev limits_12 : Limits
limits_12 = record {
  prime_bound = 65535;
  variables = 8;
  components = 16;
  elements = 64;
  exponent = 255;
  t_lines = 2048;
  file = 65536;
  field = 65535;
  vectors = 128;
  level_terms = 2048;
  levels = 9;
  working = 512;
  vector = 512;
  tree = 0;
  numbering = λ code. 1;
}

abbrev list_12 : List Call
list_12 = reading true (text ("R,101,5,2,3" ∷ "T,1,97,1,2,0,0,0,0" ∷ "T,2,8,1,0,0,2,0,0" ∷ "T,2,44,1,0,0,1,1,0" ∷ "T,3,100,1,0,0,0,2,0" ∷ "T,4,64,1,0,0,0,0,2"
    ∷ "E,5" ∷ [])) ∷ lifting true 1 (by_tree 9) ∷ lifting true 2 (by_hybrid 1 512) ∷ reading true (text ("R,251,5,1,1" ∷ "D,3" ∷ "T,1,1,1,0,0,0,3,0"
    ∷ "T,2,250,1,0,0,3,0,0" ∷ "T,3,250,1,0,3,0,0,0" ∷ "T,4,1,1,0,1,0,0,0" ∷ "T,4,250,1,0,0,1,0,0" ∷ "T,5,1,1,3,0,0,0,0" ∷ "T,6,27,1,0,1,0,0,0"
    ∷ "T,6,224,1,0,0,1,0,0" ∷ "T,7,60,1,0,0,0,0,3" ∷ "E,9" ∷ [])) ∷ fetching true 1 0 ∷ reading true (text ("R,32003,5,2,1" ∷ "T,1,32002,1,0,0,1,0,0"
    ∷ "T,1,1,1,0,0,0,1,0" ∷ "T,2,28554,1,0,1,0,0,0" ∷ "T,2,3449,1,0,0,0,0,1" ∷ "E,4" ∷ [])) ∷ []

seen_12 : seen limits_12 2000 empty list_12 ≡ some (text ("A,0,0" ∷ "A,14,1" ∷ "A,11,0" ∷ "A,0,0" ∷ "A,11,0" ∷ "A,0,0" ∷ []))
seen_12 = refl

held_12 : held limits_12 2000 empty list_12 ≡ some (text ("S,0,1,32002,1,0,0,1,0,0,0,0,0" ∷ "S,0,1,1,1,0,0,0,1,0,0,0,0" ∷ "S,0,2,28554,1,0,1,0,0,0,0,0,0"
    ∷ "S,0,2,3449,1,0,0,0,0,1,0,0,0" ∷ []))
held_12 = refl

due_12 : due limits_12 2000 empty list_12 ≡ some (text ("S,0,1,32002,1,0,0,1,0,0,0,0,0" ∷ "S,0,1,1,1,0,0,0,1,0,0,0,0" ∷ "S,0,2,28554,1,0,1,0,0,0,0,0,0"
    ∷ "S,0,2,3449,1,0,0,0,0,1,0,0,0" ∷ []))
due_12 = refl

-- calls-1-53
abbrev limits_13 : Limits
limits_13 = record {
  prime_bound = 65535;
  variables = 8;
  components = 16;
  elements = 64;
  exponent = 255;
  t_lines = 2048;
  file = 65536;
  field = 65535;
  vectors = 128;
  level_terms = 2048;
  levels = 9;
  working = 512;
  vector = 3;
  tree = 4096;
  numbering = λ code. 1;
}

abbrev list_13 : List Call
list_13 = reading true (text ("R,32749,4,3,1" ∷ "D,246" ∷ "T,1,1,1,0,0,0,1" ∷ "T,2,32748,1,0,0,1,0" ∷ "T,3,1,1,0,1,0,0" ∷ "T,4,21682,1,1,0,0,0"
    ∷ "T,4,32748,1,0,0,1,0" ∷ "T,5,32748,1,1,0,0,0" ∷ "T,6,23618,1,0,1,1,1" ∷ "T,6,9131,1,0,0,0,1" ∷ "E,8" ∷ [])) ∷ lifting true 1 (by_hybrid 3 512)
    ∷ fetching true 1 3 ∷ fetching true 2 129 ∷ lifting true 2 (by_tree 20) ∷ fetching true 2 3 ∷ []

seen_13 : seen limits_13 2000 empty list_13 ≡ some (text ("A,0,0" ∷ "A,0,0" ∷ "A,0,0" ∷ "V,1,3,0,0,1,0,0,0,0,0" ∷ "V,1,2,0,1,0,0,0,0,0,0" ∷ "A,11,0"
    ∷ "A,14,2" ∷ "A,11,0" ∷ []))
seen_13 = refl

held_13 : held limits_13 2000 empty list_13 ≡ some (text ([]))
held_13 = refl

due_13 : due limits_13 2000 empty list_13 ≡ some (text ([]))
due_13 = refl

-- calls-1-54
abbrev limits_14 : Limits
limits_14 = record {
  prime_bound = 65535;
  variables = 8;
  components = 16;
  elements = 64;
  exponent = 0;
  t_lines = 2048;
  file = 65536;
  field = 65535;
  vectors = 128;
  level_terms = 0;
  levels = 9;
  working = 512;
  vector = 512;
  tree = 4096;
  numbering = λ code. 1;
}

abbrev list_14 : List Call
list_14 = fetching true 1 1 ∷ lifting true 1 by_division ∷ []

seen_14 : seen limits_14 2000 empty list_14 ≡ some (text ("A,11,0" ∷ "A,11,0" ∷ []))
seen_14 = refl

held_14 : held limits_14 2000 empty list_14 ≡ some (text ([]))
held_14 = refl

due_14 : due limits_14 2000 empty list_14 ≡ some (text ([]))
due_14 = refl

-- calls-1-55
abbrev limits_15 : Limits
limits_15 = record {
  prime_bound = 65535;
  variables = 8;
  components = 16;
  elements = 64;
  exponent = 255;
  t_lines = 2048;
  file = 65536;
  field = 65535;
  vectors = 128;
  level_terms = 2048;
  levels = 9;
  working = 512;
  vector = 512;
  tree = 4096;
  numbering = λ code. 1;
}

abbrev list_15 : List Call
list_15 = reading true (text ("R,2,2,2,1" ∷ "T,1,1,1,0,1" ∷ "T,2,1,1,0,1" ∷ "E,2" ∷ [])) ∷ lifting true 1 (by_hybrid 3 512) ∷ fetching true 1 1
    ∷ lifting true 2 (by_hybrid 1 512) ∷ lifting true 3 (by_tree 4) ∷ []

seen_15 : seen limits_15 2000 empty list_15 ≡ some (text ("A,0,0" ∷ "A,0,0" ∷ "A,0,0" ∷ "V,1,2,0,0,0,0,0,0,0,0" ∷ "V,1,1,0,0,0,0,0,0,0,0" ∷ "A,0,0" ∷ "A,0,0"
    ∷ []))
seen_15 = refl

held_15 : held limits_15 2000 empty list_15 ≡ some (text ("S,0,1,1,1,0,1,0,0,0,0,0,0" ∷ "S,0,2,1,1,0,1,0,0,0,0,0,0" ∷ "S,1,1,1,2,0,0,0,0,0,0,0,0"
    ∷ "S,1,1,1,1,0,0,0,0,0,0,0,0" ∷ []))
held_15 = refl

due_15 : due limits_15 2000 empty list_15 ≡ some (text ("S,0,1,1,1,0,1,0,0,0,0,0,0" ∷ "S,0,2,1,1,0,1,0,0,0,0,0,0" ∷ "S,1,1,1,2,0,0,0,0,0,0,0,0"
    ∷ "S,1,1,1,1,0,0,0,0,0,0,0,0" ∷ []))
due_15 = refl

-- calls-1-56
abbrev limits_16 : Limits
limits_16 = record {
  prime_bound = 65535;
  variables = 8;
  components = 16;
  elements = 64;
  exponent = 255;
  t_lines = 2048;
  file = 65536;
  field = 65535;
  vectors = 128;
  level_terms = 2048;
  levels = 9;
  working = 512;
  vector = 512;
  tree = 0;
  numbering = λ code. 1;
}

abbrev list_16 : List Call
list_16 = reading true (text ("R,3,4,2,1" ∷ "D,163" ∷ "T,1,2,1,2,0,0,0" ∷ "T,1,1,1,0,1,0,1" ∷ "T,2,2,1,0,2,0,1" ∷ "T,2,1,1,0,0,1,1" ∷ "E,4" ∷ []))
    ∷ lifting true 1 (by_tree 4) ∷ fetching true 1 1 ∷ []

seen_16 : seen limits_16 2000 empty list_16 ≡ some (text ("A,0,0" ∷ "A,14,1" ∷ "A,11,0" ∷ []))
seen_16 = refl

held_16 : held limits_16 2000 empty list_16 ≡ some (text ([]))
held_16 = refl

due_16 : due limits_16 2000 empty list_16 ≡ some (text ([]))
due_16 = refl

-- calls-1-57
abbrev limits_17 : Limits
limits_17 = record {
  prime_bound = 65535;
  variables = 8;
  components = 16;
  elements = 64;
  exponent = 255;
  t_lines = 2048;
  file = 65536;
  field = 65535;
  vectors = 128;
  level_terms = 2048;
  levels = 9;
  working = 512;
  vector = 512;
  tree = 4096;
  numbering = λ code. 1;
}

abbrev list_17 : List Call
list_17 = reading true (text ("R,251,3,2,1" ∷ "T,1,198,1,1,1,2" ∷ "T,1,243,1,1,0,3" ∷ "T,1,23,1,1,0,1" ∷ "T,2,53,1,0,1,1" ∷ "T,2,8,1,0,0,2" ∷ "T,3,1,1,0,0,1"
    ∷ "E,6" ∷ [])) ∷ lifting true 1 by_division ∷ lifting true 1 (by_tree 9) ∷ lifting true 2 (by_tree 6) ∷ lifting true 3 (by_tree 7) ∷ fetching true 4 65535
    ∷ fetching true 2 1 ∷ lifting true 3 (by_hybrid 3 512) ∷ []

seen_17 : seen limits_17 2000 empty list_17 ≡ some (text ("A,0,0" ∷ "A,0,0" ∷ "A,0,0" ∷ "A,0,0" ∷ "A,0,0" ∷ "A,11,0" ∷ "A,12,0" ∷ "A,0,0" ∷ []))
seen_17 = refl

held_17 : held limits_17 2000 empty list_17 ≡ some (text ("S,0,1,198,1,1,1,2,0,0,0,0,0" ∷ "S,0,1,243,1,1,0,3,0,0,0,0,0" ∷ "S,0,1,23,1,1,0,1,0,0,0,0,0"
    ∷ "S,0,2,53,1,0,1,1,0,0,0,0,0" ∷ "S,0,2,8,1,0,0,2,0,0,0,0,0" ∷ "S,0,3,1,1,0,0,1,0,0,0,0,0" ∷ "S,1,1,1,2,1,0,1,0,0,0,0,0" ∷ "S,1,1,1,1,0,0,0,0,0,0,0,0"
    ∷ "S,1,1,228,3,1,0,0,0,0,0,0,0" ∷ "S,1,2,1,3,0,1,0,0,0,0,0,0" ∷ "S,1,2,161,2,0,0,0,0,0,0,0,0" ∷ "S,1,2,218,3,0,0,1,0,0,0,0,0" ∷ []))
held_17 = refl

due_17 : due limits_17 2000 empty list_17 ≡ some (text ("S,0,1,198,1,1,1,2,0,0,0,0,0" ∷ "S,0,1,243,1,1,0,3,0,0,0,0,0" ∷ "S,0,1,23,1,1,0,1,0,0,0,0,0"
    ∷ "S,0,2,53,1,0,1,1,0,0,0,0,0" ∷ "S,0,2,8,1,0,0,2,0,0,0,0,0" ∷ "S,0,3,1,1,0,0,1,0,0,0,0,0" ∷ "S,1,1,1,2,1,0,1,0,0,0,0,0" ∷ "S,1,1,1,1,0,0,0,0,0,0,0,0"
    ∷ "S,1,1,228,3,1,0,0,0,0,0,0,0" ∷ "S,1,2,1,3,0,1,0,0,0,0,0,0" ∷ "S,1,2,161,2,0,0,0,0,0,0,0,0" ∷ "S,1,2,218,3,0,0,1,0,0,0,0,0" ∷ []))
due_17 = refl

-- calls-1-58
abbrev limits_18 : Limits
limits_18 = record {
  prime_bound = 65535;
  variables = 8;
  components = 16;
  elements = 64;
  exponent = 255;
  t_lines = 2048;
  file = 65536;
  field = 65535;
  vectors = 128;
  level_terms = 2048;
  levels = 9;
  working = 512;
  vector = 512;
  tree = 4096;
  numbering = λ code. 1;
}

abbrev list_18 : List Call
list_18 = reading true (text ("R,101,2,3,1" ∷ "D,73" ∷ "T,1,81,1,1,1" ∷ "T,1,14,1,0,2" ∷ "T,2,87,1,2,1" ∷ "T,2,30,1,1,2" ∷ "E,4" ∷ [])) ∷ fetching true 1 1
    ∷ lifting true 1 (by_hybrid 3 512) ∷ lifting true 2 (by_tree 9) ∷ lifting true 3 (by_tree 20) ∷ lifting true 10 (by_hybrid 1 512) ∷ lifting true 3 (by_tree 0) ∷ []

seen_18 : seen limits_18 2000 empty list_18 ≡ some (text ("A,0,0" ∷ "A,11,0" ∷ "A,0,0" ∷ "A,0,0" ∷ "A,0,0" ∷ "A,12,0" ∷ "A,0,0" ∷ []))
seen_18 = refl

held_18 : held limits_18 2000 empty list_18 ≡ some (text ("S,0,1,81,1,1,1,0,0,0,0,0,0" ∷ "S,0,1,14,1,0,2,0,0,0,0,0,0" ∷ "S,0,2,87,1,2,1,0,0,0,0,0,0"
    ∷ "S,0,2,30,1,1,2,0,0,0,0,0,0" ∷ "S,1,1,1,2,0,0,0,0,0,0,0,0" ∷ "S,1,1,70,1,1,0,0,0,0,0,0,0" ∷ []))
held_18 = refl

due_18 : due limits_18 2000 empty list_18 ≡ some (text ("S,0,1,81,1,1,1,0,0,0,0,0,0" ∷ "S,0,1,14,1,0,2,0,0,0,0,0,0" ∷ "S,0,2,87,1,2,1,0,0,0,0,0,0"
    ∷ "S,0,2,30,1,1,2,0,0,0,0,0,0" ∷ "S,1,1,1,2,0,0,0,0,0,0,0,0" ∷ "S,1,1,70,1,1,0,0,0,0,0,0,0" ∷ []))
due_18 = refl

-- calls-1-59
abbrev limits_19 : Limits
limits_19 = record {
  prime_bound = 65535;
  variables = 8;
  components = 16;
  elements = 64;
  exponent = 255;
  t_lines = 2048;
  file = 65536;
  field = 65535;
  vectors = 128;
  level_terms = 2048;
  levels = 9;
  working = 512;
  vector = 512;
  tree = 4096;
  numbering = λ code. 1;
}

abbrev list_19 : List Call
list_19 = reading true (text ("R,251,1,2,1" ∷ "E,1" ∷ "D,2" ∷ "T,1,1,1,1" ∷ "E,1" ∷ [])) ∷ lifting true 1 by_division ∷ reading true (text ("R,7,2,2,1"
    ∷ "D,99999" ∷ "T,1,4,1,1,1" ∷ "E,1" ∷ [])) ∷ fetching true 1 1 ∷ lifting true 1 (by_hybrid 0 512) ∷ lifting true 1 by_division
    ∷ reading true (text ("R,3,2,3,1" ∷ "D,2" ∷ "T,1,2,1,1,1" ∷ "T,1,2,1,0,1" ∷ "T,2,2,1,0,2" ∷ "T,2,1,1,0,1" ∷ "D,4" ∷ [])) ∷ lifting true 1 (by_hybrid 1 512) ∷ []

seen_19 : seen limits_19 2000 empty list_19 ≡ some (text ("A,7,2" ∷ "A,11,0" ∷ "A,1,2" ∷ "A,11,0" ∷ "A,11,0" ∷ "A,11,0" ∷ "A,1,7" ∷ "A,11,0" ∷ []))
seen_19 = refl

held_19 : held limits_19 2000 empty list_19 ≡ some (text ([]))
held_19 = refl

due_19 : due limits_19 2000 empty list_19 ≡ some (text ([]))
due_19 = refl

-- calls-1-60
abbrev limits_20 : Limits
limits_20 = record {
  prime_bound = 65535;
  variables = 8;
  components = 16;
  elements = 64;
  exponent = 255;
  t_lines = 2048;
  file = 65536;
  field = 65535;
  vectors = 128;
  level_terms = 2048;
  levels = 9;
  working = 512;
  vector = 512;
  tree = 4096;
  numbering = λ code. 1;
}

abbrev list_20 : List Call
list_20 = reading true (text ("R,251,2,2,1" ∷ "T,1,1,1,0,0" ∷ "E,1" ∷ [])) ∷ lifting true 1 (by_hybrid 2 512) ∷ fetching true 1 1 ∷ fetching true 1 1
    ∷ lifting true 2 by_division ∷ []

seen_20 : seen limits_20 2000 empty list_20 ≡ some (text ("A,0,0" ∷ "A,0,0" ∷ "A,12,0" ∷ "A,12,0" ∷ "A,0,0" ∷ []))
seen_20 = refl

held_20 : held limits_20 2000 empty list_20 ≡ some (text ("S,0,1,1,1,0,0,0,0,0,0,0,0" ∷ []))
held_20 = refl

due_20 : due limits_20 2000 empty list_20 ≡ some (text ("S,0,1,1,1,0,0,0,0,0,0,0,0" ∷ []))
due_20 = refl
