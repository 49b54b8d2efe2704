-- The definitions and the unrelated implementation agree: lists of calls.
-- Written by tools/agreement; do not edit.
use mathlib.Core.Path.{◌≡◌, refl}
use mathlib.Core.Bool.{true}
use mathlib.Core.Option.{some}
use mathlib.Core.List.{List, [], ◌∷◌, ◌++◌}
use Rattle.definitions.specs.Limits.{Limits}
use Rattle.definitions.specs.Lifting.{by_division, by_hybrid, by_tree}
use Rattle.definitions.specs.State.{empty}
use Rattle.definitions.specs.Calls.{Call, reading, lifting, fetching}
use Rattle.definitions.proofs.Text.{text, bytes}
use Rattle.definitions.proofs.Views.{seen, held, due}

-- calls-1-21
abbrev limits_1 : Limits
limits_1 = record {
  prime_bound = 65535;
  variables = 8;
  components = 16;
  elements = 64;
  exponent = 255;
  t_lines = 2048;
  file = 65536;
  field = 65535;
  vectors = 128;
  level_terms = 2048;
  levels = 9;
  working = 512;
  vector = 512;
  tree = 4096;
  numbering = λ code. 1;
}

abbrev list_1 : List Call
list_1 = reading true (text ("R,251,2,3,1" ∷ "D,1" ∷ "T,1,1,1,0,4" ∷ "T,2,250,1,0,4" ∷ "E,2" ∷ [])) ∷ lifting true 1 (by_hybrid 1 512) ∷ fetching true 1 0
    ∷ fetching true 1 1 ∷ lifting true 2 (by_hybrid 2 512) ∷ fetching true 2 1 ∷ lifting true 3 (by_hybrid 1 512) ∷ []

seen_1 : seen limits_1 2000 empty list_1 ≡ some (text ("A,0,0" ∷ "A,0,0" ∷ "A,12,0" ∷ "A,0,0" ∷ "V,1,2,0,0,0,0,0,0,0,0" ∷ "V,1,1,0,0,0,0,0,0,0,0" ∷ "A,0,0"
    ∷ "A,12,0" ∷ "A,0,0" ∷ []))
seen_1 = refl

held_1 : held limits_1 2000 empty list_1 ≡ some (text ("S,0,1,1,1,0,4,0,0,0,0,0,0" ∷ "S,0,2,250,1,0,4,0,0,0,0,0,0" ∷ "S,1,1,1,2,0,0,0,0,0,0,0,0"
    ∷ "S,1,1,1,1,0,0,0,0,0,0,0,0" ∷ []))
held_1 = refl

due_1 : due limits_1 2000 empty list_1 ≡ some (text ("S,0,1,1,1,0,4,0,0,0,0,0,0" ∷ "S,0,2,250,1,0,4,0,0,0,0,0,0" ∷ "S,1,1,1,2,0,0,0,0,0,0,0,0"
    ∷ "S,1,1,1,1,0,0,0,0,0,0,0,0" ∷ []))
due_1 = refl

-- calls-1-22
abbrev limits_2 : Limits
limits_2 = record {
  prime_bound = 65535;
  variables = 8;
  components = 16;
  elements = 64;
  exponent = 255;
  t_lines = 2048;
  file = 65536;
  field = 65535;
  vectors = 128;
  level_terms = 2048;
  levels = 9;
  working = 512;
  vector = 512;
  tree = 0;
  numbering = λ code. 1;
}

abbrev list_2 : List Call
list_2 = reading true (text ("R,32749,4,3,1" ∷ "D,255" ∷ "T,1,1,1,3,0,0,0" ∷ "T,2,32748,1,0,3,0,0" ∷ "T,3,32748,1,0,0,3,0" ∷ "T,4,1,1,0,0,2,1"
    ∷ "T,5,4047,1,0,0,0,3" ∷ "T,6,3353,1,1,0,0,1" ∷ "T,6,2002,1,0,0,0,2" ∷ "E,7" ∷ [])) ∷ lifting true 1 (by_hybrid 3 512) ∷ lifting true 2 by_division
    ∷ lifting true 5 by_division ∷ lifting true 3 (by_tree 0) ∷ []

seen_2 : seen limits_2 2000 empty list_2 ≡ some (text ("A,0,0" ∷ "A,0,0" ∷ "A,0,0" ∷ "A,11,0" ∷ "A,14,3" ∷ []))
seen_2 = refl

held_2 : held limits_2 2000 empty list_2 ≡ some (text ([]))
held_2 = refl

due_2 : due limits_2 2000 empty list_2 ≡ some (text ([]))
due_2 = refl

-- calls-1-23
abbrev limits_3 : Limits
limits_3 = record {
  prime_bound = 65535;
  variables = 8;
  components = 16;
  elements = 64;
  exponent = 255;
  t_lines = 2048;
  file = 65536;
  field = 65535;
  vectors = 128;
  level_terms = 0;
  levels = 9;
  working = 512;
  vector = 512;
  tree = 4;
  numbering = λ code. 1;
}

abbrev list_3 : List Call
list_3 = reading true (text ("R,32003,1,3,1" ∷ "D,3" ∷ "T,1,22982,1,4" ∷ "T,1,9021,1,3" ∷ "T,2,3855,1,6" ∷ "T,2,28148,1,5" ∷ "T,3,22982,1,5" ∷ "T,3,9021,1,4"
    ∷ "T,4,22982,1,3" ∷ "T,4,9021,1,2" ∷ "E,8" ∷ [])) ∷ lifting true 1 (by_tree 60) ∷ lifting true 1 (by_hybrid 1 512) ∷ lifting true 2 (by_hybrid 2 512)
    ∷ lifting true 3 (by_hybrid 3 512) ∷ fetching true 3 1 ∷ []

seen_3 : seen limits_3 2000 empty list_3 ≡ some (text ("A,0,0" ∷ "A,15,1" ∷ "A,11,0" ∷ "A,11,0" ∷ "A,11,0" ∷ "A,11,0" ∷ []))
seen_3 = refl

held_3 : held limits_3 2000 empty list_3 ≡ some (text ([]))
held_3 = refl

due_3 : due limits_3 2000 empty list_3 ≡ some (text ([]))
due_3 = refl

-- calls-1-24
abbrev limits_4 : Limits
limits_4 = record {
  prime_bound = 65535;
  variables = 8;
  components = 16;
  elements = 64;
  exponent = 255;
  t_lines = 2048;
  file = 65536;
  field = 65535;
  vectors = 128;
  level_terms = 2048;
  levels = 9;
  working = 512;
  vector = 512;
  tree = 4096;
  numbering = λ code. 1;
}

abbrev list_4 : List Call
list_4 = reading true (text ("R,2,4,1,1" ∷ "T,1,1,1,0,0,0,3" ∷ "T,2,1,1,0,0,2,0" ∷ "T,3,1,1,3,0,0,0" ∷ "E,3" ∷ [])) ∷ fetching true 1 1
    ∷ reading true (text ("R,7,5,3,1" ∷ "T,1,4,1,0,0,1,2,0" ∷ "T,1,1,1,0,0,0,1,2" ∷ "T,2,4,1,0,1,0,0,0" ∷ "T,2,6,1,0,0,1,0,0" ∷ "E,4" ∷ []))
    ∷ lifting true 1 by_division ∷ []

seen_4 : seen limits_4 2000 empty list_4 ≡ some (text ("A,0,0" ∷ "A,11,0" ∷ "A,0,0" ∷ "A,0,0" ∷ []))
seen_4 = refl

held_4 : held limits_4 2000 empty list_4 ≡ some (text ("S,0,1,4,1,0,0,1,2,0,0,0,0" ∷ "S,0,1,1,1,0,0,0,1,2,0,0,0" ∷ "S,0,2,4,1,0,1,0,0,0,0,0,0"
    ∷ "S,0,2,6,1,0,0,1,0,0,0,0,0" ∷ "S,1,1,1,2,0,0,1,2,0,0,0,0" ∷ "S,1,1,6,1,0,1,0,0,0,0,0,0" ∷ "S,1,1,2,1,0,0,1,0,0,0,0,0" ∷ "S,1,1,2,2,0,0,0,1,2,0,0,0" ∷ []))
held_4 = refl

due_4 : due limits_4 2000 empty list_4 ≡ some (text ("S,0,1,4,1,0,0,1,2,0,0,0,0" ∷ "S,0,1,1,1,0,0,0,1,2,0,0,0" ∷ "S,0,2,4,1,0,1,0,0,0,0,0,0"
    ∷ "S,0,2,6,1,0,0,1,0,0,0,0,0" ∷ "S,1,1,1,2,0,0,1,2,0,0,0,0" ∷ "S,1,1,6,1,0,1,0,0,0,0,0,0" ∷ "S,1,1,2,1,0,0,1,0,0,0,0,0" ∷ "S,1,1,2,2,0,0,0,1,2,0,0,0" ∷ []))
due_4 = refl

-- calls-1-25
abbrev limits_5 : Limits
limits_5 = record {
  prime_bound = 65535;
  variables = 8;
  components = 16;
  elements = 64;
  exponent = 255;
  t_lines = 2048;
  file = 65536;
  field = 65535;
  vectors = 128;
  level_terms = 2048;
  levels = 9;
  working = 512;
  vector = 512;
  tree = 4096;
  numbering = λ code. 1;
}

abbrev list_5 : List Call
list_5 = lifting true 1 (by_hybrid 3 512) ∷ reading true (text ("R,7,2,1,1" ∷ "D,2" ∷ "T,1,5,1,1,2" ∷ "T,1,4,1,0,3" ∷ "T,2,6,1,1,2" ∷ "T,3,3,1,1,1" ∷ "E,4" ∷ []))
    ∷ reading true (text ("T,2,5979,1,2,0" ∷ "T,1,1,1,2,0" ∷ "T,1,32748,1,0,2" ∷ "R,32749,2,2,1" ∷ "T,2,26770,1,1,1" ∷ "E,4" ∷ []))
    ∷ reading true (text ("R,32749,3,1,1" ∷ "D,0" ∷ "T,1,32748,1,1,0,0" ∷ "T,1,1,1,0,0,1" ∷ "T,2,10791,1,1,0,0" ∷ "T,2,21958,1,0,1,0" ∷ "T,3,32748,1,2,0,0"
    ∷ "T,3,1,1,0,1,1" ∷ "E,6" ∷ [])) ∷ []

seen_5 : seen limits_5 2000 empty list_5 ≡ some (text ("A,11,0" ∷ "A,9,1" ∷ "V,5,1,0,3,0,0,0,0,0,0" ∷ "A,1,1" ∷ "A,9,1" ∷ "V,21958,1,0,1,0,0,0,0,0,0"
    ∷ "V,10791,1,0,0,1,0,0,0,0,0" ∷ []))
seen_5 = refl

held_5 : held limits_5 2000 empty list_5 ≡ some (text ([]))
held_5 = refl

due_5 : due limits_5 2000 empty list_5 ≡ some (text ([]))
due_5 = refl

-- calls-1-26
abbrev limits_6 : Limits
limits_6 = record {
  prime_bound = 65535;
  variables = 8;
  components = 16;
  elements = 64;
  exponent = 255;
  t_lines = 2048;
  file = 65536;
  field = 65535;
  vectors = 128;
  level_terms = 3;
  levels = 9;
  working = 512;
  vector = 512;
  tree = 4096;
  numbering = λ code. 1;
}

abbrev list_6 : List Call
list_6 = reading true (text ("R,101,1,3,1" ∷ "D,3" ∷ "T,1,49,1,3" ∷ "T,1,52,1,1" ∷ "T,2,77,1,3" ∷ "T,2,24,1,1" ∷ "T,3,99,1,2" ∷ "T,3,2,1,0" ∷ "E,6" ∷ []))
    ∷ fetching true 1 1 ∷ lifting true 1 (by_hybrid 3 512) ∷ lifting true 2 (by_tree 3) ∷ lifting true 3 by_division ∷ []

seen_6 : seen limits_6 2000 empty list_6 ≡ some (text ("A,0,0" ∷ "A,11,0" ∷ "A,15,1" ∷ "A,11,0" ∷ "A,11,0" ∷ []))
seen_6 = refl

held_6 : held limits_6 2000 empty list_6 ≡ some (text ([]))
held_6 = refl

due_6 : due limits_6 2000 empty list_6 ≡ some (text ([]))
due_6 = refl

-- calls-1-27
abbrev limits_7 : Limits
limits_7 = record {
  prime_bound = 65535;
  variables = 8;
  components = 16;
  elements = 64;
  exponent = 255;
  t_lines = 2048;
  file = 65536;
  field = 65535;
  vectors = 128;
  level_terms = 2048;
  levels = 0;
  working = 2;
  vector = 512;
  tree = 4096;
  numbering = λ code. 1;
}

abbrev list_7 : List Call
list_7 = fetching true 1 1 ∷ reading true (text ("R,32749,4,2,1" ∷ "T,1,19473,1,0,0,0,1" ∷ "T,2,20723,1,0,1,0,0" ∷ "T,2,1,1,0,0,0,1" ∷ "T,3,9486,1,0,2,0,0"
    ∷ "T,3,2580,1,0,1,0,1" ∷ "T,3,32738,1,0,0,0,2" ∷ "E,6" ∷ [])) ∷ lifting true 1 (by_hybrid 3 2) ∷ fetching true 1 3 ∷ fetching true 2 50 ∷ []

seen_7 : seen limits_7 2000 empty list_7 ≡ some (text ("A,11,0" ∷ "A,14,0" ∷ "A,11,0" ∷ "A,11,0" ∷ "A,11,0" ∷ []))
seen_7 = refl

held_7 : held limits_7 2000 empty list_7 ≡ some (text ([]))
held_7 = refl

due_7 : due limits_7 2000 empty list_7 ≡ some (text ([]))
due_7 = refl

-- calls-1-28
abbrev limits_8 : Limits
limits_8 = record {
  prime_bound = 65535;
  variables = 8;
  components = 16;
  elements = 64;
  exponent = 255;
  t_lines = 2048;
  file = 65536;
  field = 65535;
  vectors = 128;
  level_terms = 0;
  levels = 9;
  working = 512;
  vector = 512;
  tree = 4096;
  numbering = λ code. 1;
}

abbrev list_8 : List Call
list_8 = fetching true 1 1 ∷ lifting true 1 (by_tree 1) ∷ reading true (text ("R,2,4,1,1" ∷ "D" ∷ "T,1,1,1,1,0,0,0" ∷ "T,1,1,1,0,0,0,0" ∷ "T,2,1,1,0,1,1,0"
    ∷ "T,2,1,1,0,0,2,0" ∷ "T,3,1,1,0,0,0,1" ∷ "T,3,1,1,0,0,0,0" ∷ "E,6" ∷ [])) ∷ reading true (text ("R,5,2,2,1" ∷ "D,0" ∷ "T,1,1,1,1,1" ∷ "T,2,1,1,1,1"
    ∷ "T,3,1,1,1,0" ∷ "T,4,1,1,0,2" ∷ "T,5,2,1,1,0" ∷ "T,6,1,1,2,2" ∷ "E,6" ∷ [])) ∷ lifting true 0 (by_hybrid 0 512) ∷ reading true (text ("R,5,3,2,2"
    ∷ "T,1,1,2,1,1,0" ∷ "T,1,2,2,0,0,0" ∷ "T,2,4,2,2,1,0" ∷ "T,2,4,2,1,1,1" ∷ "T,2,3,2,1,0,0" ∷ "T,2,3,2,0,0,1" ∷ "E,6" ∷ [])) ∷ []

seen_8 : seen limits_8 2000 empty list_8 ≡ some (text ("A,11,0" ∷ "A,11,0" ∷ "A,1,2" ∷ "A,0,0" ∷ "A,12,0" ∷ "A,0,0" ∷ []))
seen_8 = refl

held_8 : held limits_8 2000 empty list_8 ≡ some (text ("S,0,1,1,2,1,1,0,0,0,0,0,0" ∷ "S,0,1,2,2,0,0,0,0,0,0,0,0" ∷ "S,0,2,4,2,2,1,0,0,0,0,0,0"
    ∷ "S,0,2,4,2,1,1,1,0,0,0,0,0" ∷ "S,0,2,3,2,1,0,0,0,0,0,0,0" ∷ "S,0,2,3,2,0,0,1,0,0,0,0,0" ∷ []))
held_8 = refl

due_8 : due limits_8 2000 empty list_8 ≡ some (text ("S,0,1,1,2,1,1,0,0,0,0,0,0" ∷ "S,0,1,2,2,0,0,0,0,0,0,0,0" ∷ "S,0,2,4,2,2,1,0,0,0,0,0,0"
    ∷ "S,0,2,4,2,1,1,1,0,0,0,0,0" ∷ "S,0,2,3,2,1,0,0,0,0,0,0,0" ∷ "S,0,2,3,2,0,0,1,0,0,0,0,0" ∷ []))
due_8 = refl

-- calls-1-29
abbrev limits_9 : Limits
limits_9 = record {
  prime_bound = 65535;
  variables = 8;
  components = 16;
  elements = 64;
  exponent = 255;
  t_lines = 2048;
  file = 65536;
  field = 65535;
  vectors = 128;
  level_terms = 2048;
  levels = 9;
  working = 512;
  vector = 512;
  tree = 4096;
  numbering = λ code. 1;
}

abbrev list_9 : List Call
list_9 = reading true (text ("R,2,5,1,3" ∷ "D,0,2,2" ∷ "T,1,1,1,1,0,2,1,1" ∷ "T,1,1,1,0,1,1,3,0" ∷ "T,2,1,2,1,0,1,0,0" ∷ "T,2,1,1,0,0,1,1,0"
    ∷ "T,3,1,2,0,1,0,2,0" ∷ "T,3,1,1,0,0,1,1,1" ∷ "T,4,1,3,0,0,7,1,0" ∷ "E,7" ∷ [])) ∷ lifting true 1 by_division ∷ lifting true 2 by_division
    ∷ lifting true 3 by_division ∷ reading true (text ("R,11,3,3,1" ∷ "T,1,6,1,0,2,0" ∷ "T,2,7,1,0,0,3" ∷ "T,3,10,1,3,0,0" ∷ "E,3" ∷ [])) ∷ []

seen_9 : seen limits_9 2000 empty list_9 ≡ some (text ("A,0,0" ∷ "A,0,0" ∷ "A,0,0" ∷ "A,0,0" ∷ "A,0,0" ∷ []))
seen_9 = refl

held_9 : held limits_9 2000 empty list_9 ≡ some (text ("S,0,1,6,1,0,2,0,0,0,0,0,0" ∷ "S,0,2,7,1,0,0,3,0,0,0,0,0" ∷ "S,0,3,10,1,3,0,0,0,0,0,0,0" ∷ []))
held_9 = refl

due_9 : due limits_9 2000 empty list_9 ≡ some (text ("S,0,1,6,1,0,2,0,0,0,0,0,0" ∷ "S,0,2,7,1,0,0,3,0,0,0,0,0" ∷ "S,0,3,10,1,3,0,0,0,0,0,0,0" ∷ []))
due_9 = refl

-- calls-1-30
abbrev limits_10 : Limits
limits_10 = record {
  prime_bound = 65535;
  variables = 8;
  components = 16;
  elements = 64;
  exponent = 2;
  t_lines = 2048;
  file = 65536;
  field = 65535;
  vectors = 128;
  level_terms = 2048;
  levels = 9;
  working = 512;
  vector = 512;
  tree = 4096;
  numbering = λ code. 1;
}

abbrev list_10 : List Call
list_10 = reading true (text ("R,3,4,1,1" ∷ "T,1,1,1,3,0,0,0" ∷ "T,2,1,1,0,3,0,0" ∷ "T,2,1,1,,0,0,0,1" ∷ "T,3,2,1,0,0,1,0" ∷ "T,3,1,1,0,0,0,0"
    ∷ "T,4,1,1,0,0,0,2" ∷ "T,4,1,1,0,0,0,0" ∷ "E,7" ∷ [])) ∷ reading true (text ("R,5,3,3,1" ∷ "D,0" ∷ "T,1,1,1,0,0,3" ∷ "T,2,1,1,2,0,0" ∷ "T,3,4,1,0,1,0"
    ∷ "E,3" ∷ [])) ∷ reading true (text ("R,32003,4,3,3" ∷ "D,2,2,1" ∷ "T,1,31180,2,0,2,0,0" ∷ "T,1,823,2,1,0,1,0" ∷ "T,2,1,2,0,1,1,0" ∷ "T,2,32002,2,1,0,0,1"
    ∷ "T,3,1,2,0,0,2,0" ∷ "T,3,32002,2,0,1,0,1" ∷ "E,6" ∷ [])) ∷ []

seen_10 : seen limits_10 2000 empty list_10 ≡ some (text ("A,4,2" ∷ "A,4,3" ∷ "A,0,0" ∷ []))
seen_10 = refl

held_10 : held limits_10 2000 empty list_10 ≡ some (text ("S,0,1,31180,2,0,2,0,0,0,0,0,0" ∷ "S,0,1,823,2,1,0,1,0,0,0,0,0" ∷ "S,0,2,1,2,0,1,1,0,0,0,0,0"
    ∷ "S,0,2,32002,2,1,0,0,1,0,0,0,0" ∷ "S,0,3,1,2,0,0,2,0,0,0,0,0" ∷ "S,0,3,32002,2,0,1,0,1,0,0,0,0" ∷ []))
held_10 = refl

due_10 : due limits_10 2000 empty list_10 ≡ some (text ("S,0,1,31180,2,0,2,0,0,0,0,0,0" ∷ "S,0,1,823,2,1,0,1,0,0,0,0,0" ∷ "S,0,2,1,2,0,1,1,0,0,0,0,0"
    ∷ "S,0,2,32002,2,1,0,0,1,0,0,0,0" ∷ "S,0,3,1,2,0,0,2,0,0,0,0,0" ∷ "S,0,3,32002,2,0,1,0,1,0,0,0,0" ∷ []))
due_10 = refl

-- calls-1-31
abbrev limits_11 : Limits
limits_11 = record {
  prime_bound = 65535;
  variables = 8;
  components = 16;
  elements = 64;
  exponent = 255;
  t_lines = 2048;
  file = 65536;
  field = 65535;
  vectors = 128;
  level_terms = 1;
  levels = 9;
  working = 512;
  vector = 512;
  tree = 4096;
  numbering = λ code. 1;
}

abbrev list_11 : List Call
list_11 = reading true (text ("R,11,4,2,1" ∷ "T,1,10,1,0,0,1,0" ∷ "T,2,1,1,0,2,0,0" ∷ "T,3,10,1,0,0,0,3" ∷ "T,4,1,1,3,0,0,0" ∷ "E,4" ∷ []))
    ∷ lifting true 1 by_division ∷ lifting true 2 (by_tree 3) ∷ []

seen_11 : seen limits_11 2000 empty list_11 ≡ some (text ("A,0,0" ∷ "A,15,1" ∷ "A,11,0" ∷ []))
seen_11 = refl

held_11 : held limits_11 2000 empty list_11 ≡ some (text ([]))
held_11 = refl

due_11 : due limits_11 2000 empty list_11 ≡ some (text ([]))
due_11 = refl

-- calls-1-32
abbrev limits_12 : Limits
limits_12 = record {
  prime_bound = 65535;
  variables = 8;
  components = 16;
  elements = 64;
  exponent = 2;
  t_lines = 2048;
  file = 65536;
  field = 65535;
  vectors = 128;
  level_terms = 2048;
  levels = 9;
  working = 512;
  vector = 512;
  tree = 4096;
  numbering = λ code. 1;
}

abbrev list_12 : List Call
list_12 = reading true (text ("R,251,4,2,3" ∷ "D,125,1,255" ∷ "T,1,231,1,1,1,0,0" ∷ "T,1,20,2,0,0,1,1" ∷ "T,2,145,2,1,1,1,0" ∷ "T,2,106,3,0,0,2,1"
    ∷ "T,3,1,2,2,0,0,1" ∷ "T,3,250,2,0,0,2,1" ∷ "E,6" ∷ [])) ∷ reading true (text ("R,32003,5,2,1" ∷ "T,1,29154,1,0,0,0,0,1" ∷ "T,2,2000,1,1,0,0,1,0"
    ∷ "T,2,16918,1,0,0,0,2,0" ∷ "E,3" ∷ [])) ∷ fetching true 1 1 ∷ reading true (text ("R,101,2,2,1" ∷ "T,1,1,1,2,2" ∷ "T,2,1,1,3,2" ∷ "T,2,1,1,2,2" ∷ "E,3"
    ∷ [])) ∷ []

seen_12 : seen limits_12 2000 empty list_12 ≡ some (text ("A,13,0" ∷ "A,0,0" ∷ "A,11,0" ∷ "A,4,3" ∷ []))
seen_12 = refl

held_12 : held limits_12 2000 empty list_12 ≡ some (text ([]))
held_12 = refl

due_12 : due limits_12 2000 empty list_12 ≡ some (text ([]))
due_12 = refl

-- calls-1-33
abbrev limits_13 : Limits
limits_13 = record {
  prime_bound = 65535;
  variables = 8;
  components = 16;
  elements = 64;
  exponent = 255;
  t_lines = 2048;
  file = 65536;
  field = 65535;
  vectors = 128;
  level_terms = 2048;
  levels = 9;
  working = 512;
  vector = 512;
  tree = 4096;
  numbering = λ code. 1;
}

abbrev list_13 : List Call
list_13 = reading true (text ("R,2,5,2,1" ∷ "T,1,1,1,0,0,0,0,2" ∷ "T,1,1,1,1,0,0,0,0" ∷ "T,1,1,1,0,0,0,0,0" ∷ "T,2,1,1,0,0,2,0,0" ∷ "T,3,1,1,0,1,0,0,0"
    ∷ "T,4,1,1,0,0,0,2,0" ∷ "E,6" ∷ [])) ∷ lifting true 1 (by_tree 12) ∷ lifting true 2 (by_hybrid 3 512) ∷ []

seen_13 : seen limits_13 2000 empty list_13 ≡ some (text ("A,0,0" ∷ "A,0,0" ∷ "A,0,0" ∷ []))
seen_13 = refl

held_13 : held limits_13 2000 empty list_13 ≡ some (text ("S,0,1,1,1,0,0,0,0,2,0,0,0" ∷ "S,0,1,1,1,1,0,0,0,0,0,0,0" ∷ "S,0,1,1,1,0,0,0,0,0,0,0,0"
    ∷ "S,0,2,1,1,0,0,2,0,0,0,0,0" ∷ "S,0,3,1,1,0,1,0,0,0,0,0,0" ∷ "S,0,4,1,1,0,0,0,2,0,0,0,0" ∷ "S,1,1,1,2,0,0,0,0,2,0,0,0" ∷ "S,1,1,1,1,0,0,2,0,0,0,0,0"
    ∷ "S,1,1,1,2,1,0,0,0,0,0,0,0" ∷ "S,1,1,1,2,0,0,0,0,0,0,0,0" ∷ "S,1,2,1,3,0,0,0,0,2,0,0,0" ∷ "S,1,2,1,1,0,1,0,0,0,0,0,0" ∷ "S,1,2,1,3,1,0,0,0,0,0,0,0"
    ∷ "S,1,2,1,3,0,0,0,0,0,0,0,0" ∷ "S,1,3,1,3,0,0,2,0,0,0,0,0" ∷ "S,1,3,1,2,0,1,0,0,0,0,0,0" ∷ "S,1,4,1,4,0,0,0,0,2,0,0,0" ∷ "S,1,4,1,1,0,0,0,2,0,0,0,0"
    ∷ "S,1,4,1,4,1,0,0,0,0,0,0,0" ∷ "S,1,4,1,4,0,0,0,0,0,0,0,0" ∷ "S,1,5,1,4,0,0,2,0,0,0,0,0" ∷ "S,1,5,1,2,0,0,0,2,0,0,0,0" ∷ "S,1,6,1,4,0,1,0,0,0,0,0,0"
    ∷ "S,1,6,1,3,0,0,0,2,0,0,0,0" ∷ "S,2,1,1,3,0,0,0,0,2,0,0,0" ∷ "S,2,1,1,2,0,0,2,0,0,0,0,0" ∷ "S,2,1,1,1,0,1,0,0,0,0,0,0" ∷ "S,2,1,1,3,1,0,0,0,0,0,0,0"
    ∷ "S,2,1,1,3,0,0,0,0,0,0,0,0" ∷ "S,2,2,1,5,0,0,0,0,2,0,0,0" ∷ "S,2,2,1,4,0,0,2,0,0,0,0,0" ∷ "S,2,2,1,1,0,0,0,2,0,0,0,0" ∷ "S,2,2,1,5,1,0,0,0,0,0,0,0"
    ∷ "S,2,2,1,5,0,0,0,0,0,0,0,0" ∷ "S,2,3,1,6,0,0,0,0,2,0,0,0" ∷ "S,2,3,1,4,0,1,0,0,0,0,0,0" ∷ "S,2,3,1,2,0,0,0,2,0,0,0,0" ∷ "S,2,3,1,6,1,0,0,0,0,0,0,0"
    ∷ "S,2,3,1,6,0,0,0,0,0,0,0,0" ∷ "S,2,4,1,6,0,0,2,0,0,0,0,0" ∷ "S,2,4,1,5,0,1,0,0,0,0,0,0" ∷ "S,2,4,1,3,0,0,0,2,0,0,0,0" ∷ []))
held_13 = refl

due_13 : due limits_13 2000 empty list_13 ≡ some (text ("S,0,1,1,1,0,0,0,0,2,0,0,0" ∷ "S,0,1,1,1,1,0,0,0,0,0,0,0" ∷ "S,0,1,1,1,0,0,0,0,0,0,0,0"
    ∷ "S,0,2,1,1,0,0,2,0,0,0,0,0" ∷ "S,0,3,1,1,0,1,0,0,0,0,0,0" ∷ "S,0,4,1,1,0,0,0,2,0,0,0,0" ∷ "S,1,1,1,2,0,0,0,0,2,0,0,0" ∷ "S,1,1,1,1,0,0,2,0,0,0,0,0"
    ∷ "S,1,1,1,2,1,0,0,0,0,0,0,0" ∷ "S,1,1,1,2,0,0,0,0,0,0,0,0" ∷ "S,1,2,1,3,0,0,0,0,2,0,0,0" ∷ "S,1,2,1,1,0,1,0,0,0,0,0,0" ∷ "S,1,2,1,3,1,0,0,0,0,0,0,0"
    ∷ "S,1,2,1,3,0,0,0,0,0,0,0,0" ∷ "S,1,3,1,3,0,0,2,0,0,0,0,0" ∷ "S,1,3,1,2,0,1,0,0,0,0,0,0" ∷ "S,1,4,1,4,0,0,0,0,2,0,0,0" ∷ "S,1,4,1,1,0,0,0,2,0,0,0,0"
    ∷ "S,1,4,1,4,1,0,0,0,0,0,0,0" ∷ "S,1,4,1,4,0,0,0,0,0,0,0,0" ∷ "S,1,5,1,4,0,0,2,0,0,0,0,0" ∷ "S,1,5,1,2,0,0,0,2,0,0,0,0" ∷ "S,1,6,1,4,0,1,0,0,0,0,0,0"
    ∷ "S,1,6,1,3,0,0,0,2,0,0,0,0" ∷ "S,2,1,1,3,0,0,0,0,2,0,0,0" ∷ "S,2,1,1,2,0,0,2,0,0,0,0,0" ∷ "S,2,1,1,1,0,1,0,0,0,0,0,0" ∷ "S,2,1,1,3,1,0,0,0,0,0,0,0"
    ∷ "S,2,1,1,3,0,0,0,0,0,0,0,0" ∷ "S,2,2,1,5,0,0,0,0,2,0,0,0" ∷ "S,2,2,1,4,0,0,2,0,0,0,0,0" ∷ "S,2,2,1,1,0,0,0,2,0,0,0,0" ∷ "S,2,2,1,5,1,0,0,0,0,0,0,0"
    ∷ "S,2,2,1,5,0,0,0,0,0,0,0,0" ∷ "S,2,3,1,6,0,0,0,0,2,0,0,0" ∷ "S,2,3,1,4,0,1,0,0,0,0,0,0" ∷ "S,2,3,1,2,0,0,0,2,0,0,0,0" ∷ "S,2,3,1,6,1,0,0,0,0,0,0,0"
    ∷ "S,2,3,1,6,0,0,0,0,0,0,0,0" ∷ "S,2,4,1,6,0,0,2,0,0,0,0,0" ∷ "S,2,4,1,5,0,1,0,0,0,0,0,0" ∷ "S,2,4,1,3,0,0,0,2,0,0,0,0" ∷ []))
due_13 = refl

-- calls-1-34
abbrev limits_14 : Limits
limits_14 = record {
  prime_bound = 65535;
  variables = 8;
  components = 16;
  elements = 64;
  exponent = 255;
  t_lines = 2048;
  file = 65536;
  field = 65535;
  vectors = 128;
  level_terms = 2048;
  levels = 9;
  working = 512;
  vector = 512;
  tree = 4096;
  numbering = λ code. 1;
}

abbrev list_14 : List Call
list_14 = reading true (text ("R,251,5,2,1" ∷ "T,1,250,1,0,0,0,0,2" ∷ "T,2,219,1,1,1,0,1,0" ∷ "T,2,88,1,0,0,1,1,1" ∷ "T,2,96,1,0,0,0,2,1" ∷ "E,4" ∷ []))
    ∷ lifting true 1 (by_hybrid 1 512) ∷ lifting true 1 (by_hybrid 2 512) ∷ lifting true 2 by_division ∷ fetching true 1 1 ∷ lifting true 3 (by_hybrid 2 512)
    ∷ lifting true 3 (by_tree 4) ∷ []

seen_14 : seen limits_14 2000 empty list_14 ≡ some (text ("A,0,0" ∷ "A,0,0" ∷ "A,0,0" ∷ "A,0,0" ∷ "A,0,0" ∷ "V,1,2,0,0,0,0,2,0,0,0"
    ∷ "V,219,1,1,1,0,1,0,0,0,0" ∷ "V,88,1,0,0,1,1,1,0,0,0" ∷ "V,96,1,0,0,0,2,1,0,0,0" ∷ "A,0,0" ∷ "A,0,0" ∷ []))
seen_14 = refl

held_14 : held limits_14 2000 empty list_14 ≡ some (text ("S,0,1,250,1,0,0,0,0,2,0,0,0" ∷ "S,0,2,219,1,1,1,0,1,0,0,0,0" ∷ "S,0,2,88,1,0,0,1,1,1,0,0,0"
    ∷ "S,0,2,96,1,0,0,0,2,1,0,0,0" ∷ "S,1,1,1,2,0,0,0,0,2,0,0,0" ∷ "S,1,1,219,1,1,1,0,1,0,0,0,0" ∷ "S,1,1,88,1,0,0,1,1,1,0,0,0" ∷ "S,1,1,96,1,0,0,0,2,1,0,0,0"
    ∷ []))
held_14 = refl

due_14 : due limits_14 2000 empty list_14 ≡ some (text ("S,0,1,250,1,0,0,0,0,2,0,0,0" ∷ "S,0,2,219,1,1,1,0,1,0,0,0,0" ∷ "S,0,2,88,1,0,0,1,1,1,0,0,0"
    ∷ "S,0,2,96,1,0,0,0,2,1,0,0,0" ∷ "S,1,1,1,2,0,0,0,0,2,0,0,0" ∷ "S,1,1,219,1,1,1,0,1,0,0,0,0" ∷ "S,1,1,88,1,0,0,1,1,1,0,0,0" ∷ "S,1,1,96,1,0,0,0,2,1,0,0,0"
    ∷ []))
due_14 = refl

-- calls-1-35
abbrev limits_15 : Limits
limits_15 = record {
  prime_bound = 65535;
  variables = 8;
  components = 16;
  elements = 64;
  exponent = 255;
  t_lines = 2048;
  file = 65536;
  field = 65535;
  vectors = 128;
  level_terms = 2048;
  levels = 9;
  working = 512;
  vector = 512;
  tree = 4096;
  numbering = λ code. 1;
}

abbrev list_15 : List Call
list_15 = fetching true 11 1 ∷ reading true (text ("R,7,2,2,1" ∷ "T,1,6,1,0,1" ∷ "T,1,5,1,0,0" ∷ "T,2,3,1,2,0" ∷ "T,2,1,1,0,0" ∷ "E,4" ∷ []))
    ∷ lifting true 1 (by_hybrid 2 512) ∷ lifting true 2 (by_hybrid 3 512) ∷ []

seen_15 : seen limits_15 2000 empty list_15 ≡ some (text ("A,11,0" ∷ "A,0,0" ∷ "A,0,0" ∷ "A,0,0" ∷ []))
seen_15 = refl

held_15 : held limits_15 2000 empty list_15 ≡ some (text ("S,0,1,6,1,0,1,0,0,0,0,0,0" ∷ "S,0,1,5,1,0,0,0,0,0,0,0,0" ∷ "S,0,2,3,1,2,0,0,0,0,0,0,0"
    ∷ "S,0,2,1,1,0,0,0,0,0,0,0,0" ∷ "S,1,1,1,2,0,1,0,0,0,0,0,0" ∷ "S,1,1,3,1,2,0,0,0,0,0,0,0" ∷ "S,1,1,2,2,0,0,0,0,0,0,0,0" ∷ "S,1,1,1,1,0,0,0,0,0,0,0,0" ∷ []))
held_15 = refl

due_15 : due limits_15 2000 empty list_15 ≡ some (text ("S,0,1,6,1,0,1,0,0,0,0,0,0" ∷ "S,0,1,5,1,0,0,0,0,0,0,0,0" ∷ "S,0,2,3,1,2,0,0,0,0,0,0,0"
    ∷ "S,0,2,1,1,0,0,0,0,0,0,0,0" ∷ "S,1,1,1,2,0,1,0,0,0,0,0,0" ∷ "S,1,1,3,1,2,0,0,0,0,0,0,0" ∷ "S,1,1,2,2,0,0,0,0,0,0,0,0" ∷ "S,1,1,1,1,0,0,0,0,0,0,0,0" ∷ []))
due_15 = refl

-- calls-1-36
abbrev limits_16 : Limits
limits_16 = record {
  prime_bound = 65535;
  variables = 8;
  components = 16;
  elements = 64;
  exponent = 255;
  t_lines = 2048;
  file = 65536;
  field = 65535;
  vectors = 128;
  level_terms = 2048;
  levels = 9;
  working = 512;
  vector = 512;
  tree = 4096;
  numbering = λ code. 1;
}

abbrev list_16 : List Call
list_16 = reading true (text ("R,3,5,1,1" ∷ "T,1,1,1,0,0,0,0,0" ∷ "T,2,2,1,3,0,0,1,0" ∷ "T,3,1,1,0,0,0,0,0" ∷ "T,4,1,1,1,0,0,0,0" ∷ "T,5,2,1,0,0,1,2,0"
    ∷ "T,6,2,1,0,1,1,2,0" ∷ "E,6" ∷ [])) ∷ lifting true 1 by_division ∷ lifting true 2 (by_tree 1000) ∷ lifting true 3 (by_tree 1)
    ∷ reading true (text ("R,7,2,2,1" ∷ "D,3" ∷ "T,1,6,1,0,1" ∷ "E,2" ∷ [])) ∷ reading true (text ("R,2,3,3,2" ∷ "T,1,1,1,0,2,0" ∷ "T,1,1,1,1,0,1"
    ∷ "T,2,1,1,0,2,0" ∷ "T,2,1,1,1,0,1" ∷ "T,3,1,1,0,2,0" ∷ "T,3,1,1,1,0,1" ∷ "E,6" ∷ [])) ∷ fetching true 1 1 ∷ lifting true 1 (by_hybrid 1 512) ∷ []

seen_16 : seen limits_16 2000 empty list_16 ≡ some (text ("A,0,0" ∷ "A,0,0" ∷ "A,0,0" ∷ "A,0,0" ∷ "A,7,4" ∷ "A,0,0" ∷ "A,11,0" ∷ "A,0,0" ∷ []))
seen_16 = refl

held_16 : held limits_16 2000 empty list_16 ≡ some (text ("S,0,1,1,1,0,2,0,0,0,0,0,0" ∷ "S,0,1,1,1,1,0,1,0,0,0,0,0" ∷ "S,0,2,1,1,0,2,0,0,0,0,0,0"
    ∷ "S,0,2,1,1,1,0,1,0,0,0,0,0" ∷ "S,0,3,1,1,0,2,0,0,0,0,0,0" ∷ "S,0,3,1,1,1,0,1,0,0,0,0,0" ∷ "S,1,1,1,2,0,0,0,0,0,0,0,0" ∷ "S,1,1,1,1,0,0,0,0,0,0,0,0"
    ∷ "S,1,2,1,3,0,0,0,0,0,0,0,0" ∷ "S,1,2,1,1,0,0,0,0,0,0,0,0" ∷ []))
held_16 = refl

due_16 : due limits_16 2000 empty list_16 ≡ some (text ("S,0,1,1,1,0,2,0,0,0,0,0,0" ∷ "S,0,1,1,1,1,0,1,0,0,0,0,0" ∷ "S,0,2,1,1,0,2,0,0,0,0,0,0"
    ∷ "S,0,2,1,1,1,0,1,0,0,0,0,0" ∷ "S,0,3,1,1,0,2,0,0,0,0,0,0" ∷ "S,0,3,1,1,1,0,1,0,0,0,0,0" ∷ "S,1,1,1,2,0,0,0,0,0,0,0,0" ∷ "S,1,1,1,1,0,0,0,0,0,0,0,0"
    ∷ "S,1,2,1,3,0,0,0,0,0,0,0,0" ∷ "S,1,2,1,1,0,0,0,0,0,0,0,0" ∷ []))
due_16 = refl

-- calls-1-37
abbrev limits_17 : Limits
limits_17 = record {
  prime_bound = 65535;
  variables = 8;
  components = 16;
  elements = 64;
  exponent = 255;
  t_lines = 2048;
  file = 65536;
  field = 65535;
  vectors = 128;
  level_terms = 2048;
  levels = 9;
  working = 512;
  vector = 512;
  tree = 4096;
  numbering = λ code. 1;
}

abbrev list_17 : List Call
list_17 = reading true (text ("R,5,2,3,1" ∷ "D,3" ∷ "T,1,1,1,1,0" ∷ "T,2,3,1,1,1" ∷ "T,3,4,1,2,0" ∷ "E,3" ∷ [])) ∷ lifting true 1 (by_hybrid 1 512)
    ∷ fetching true 1 2 ∷ lifting true 2 (by_hybrid 3 512) ∷ fetching true 0 1 ∷ lifting true 3 (by_hybrid 3 512) ∷ lifting true 3 (by_hybrid 3 512)
    ∷ lifting true 3 (by_hybrid 3 512) ∷ []

seen_17 : seen limits_17 2000 empty list_17 ≡ some (text ("A,0,0" ∷ "A,0,0" ∷ "A,0,0" ∷ "V,1,3,0,0,0,0,0,0,0,0" ∷ "V,1,1,1,0,0,0,0,0,0,0" ∷ "A,0,0" ∷ "A,12,0"
    ∷ "A,0,0" ∷ "A,0,0" ∷ "A,0,0" ∷ []))
seen_17 = refl

held_17 : held limits_17 2000 empty list_17 ≡ some (text ("S,0,1,1,1,1,0,0,0,0,0,0,0" ∷ "S,0,2,3,1,1,1,0,0,0,0,0,0" ∷ "S,0,3,4,1,2,0,0,0,0,0,0,0"
    ∷ "S,1,1,1,2,0,0,0,0,0,0,0,0" ∷ "S,1,1,2,1,0,1,0,0,0,0,0,0" ∷ "S,1,2,1,3,0,0,0,0,0,0,0,0" ∷ "S,1,2,1,1,1,0,0,0,0,0,0,0" ∷ []))
held_17 = refl

due_17 : due limits_17 2000 empty list_17 ≡ some (text ("S,0,1,1,1,1,0,0,0,0,0,0,0" ∷ "S,0,2,3,1,1,1,0,0,0,0,0,0" ∷ "S,0,3,4,1,2,0,0,0,0,0,0,0"
    ∷ "S,1,1,1,2,0,0,0,0,0,0,0,0" ∷ "S,1,1,2,1,0,1,0,0,0,0,0,0" ∷ "S,1,2,1,3,0,0,0,0,0,0,0,0" ∷ "S,1,2,1,1,1,0,0,0,0,0,0,0" ∷ []))
due_17 = refl

-- calls-1-38
abbrev limits_18 : Limits
limits_18 = record {
  prime_bound = 65535;
  variables = 8;
  components = 16;
  elements = 64;
  exponent = 255;
  t_lines = 2048;
  file = 65536;
  field = 65535;
  vectors = 128;
  level_terms = 2048;
  levels = 9;
  working = 512;
  vector = 6;
  tree = 4096;
  numbering = λ code. 1;
}

abbrev list_18 : List Call
list_18 = reading true (text ("R,5,3,3,1" ∷ "D,1" ∷ "T,1,1,1,0,0,2" ∷ "T,2,4,1,1,0,1" ∷ "T,3,4,1,0,2,0" ∷ "T,4,4,1,1,1,0" ∷ "T,4,1,1,0,1,1" ∷ "T,5,1,1,2,0,0"
    ∷ "E,6" ∷ [])) ∷ reading true (text ("R,2,4,3,1" ∷ "D,3" ∷ "T,1,1,1,0,1,1,0" ∷ "T,2,1,1,0,1,0,0" ∷ "T,3,11,0,0,0,0" ∷ "E,3" ∷ []))
    ∷ reading true (text ("R,5,2,1,3" ∷ "D,1,3,2" ∷ "T,1,3,1,2,1" ∷ "T,1,3,1,1,2" ∷ "T,1,2,2,0,3" ∷ "T,2,4,1,2,1" ∷ "T,2,4,2,1,2" ∷ "T,3,1,1,1,0"
    ∷ "T,3,1,1,0,1" ∷ "E,7" ∷ [])) ∷ reading true (text ("R,251,5,1,1" ∷ "D,245" ∷ "T,1,250,1,1,0,2,0,0" ∷ "T,1,243,1,0,2,0,1,0" ∷ "T,2,235,1,1,0,0,0,1"
    ∷ "T,2,235,1,0,1,1,0,0" ∷ "T,3,213,1,0,2,0,1,1" ∷ "T,3,193,1,0,1,3,0,0" ∷ "E,6" ∷ [])) ∷ reading true (text ("R,101,5,3,1" ∷ "D,0" ∷ "T,1,81,1,1,0,0,0,0"
    ∷ "T,1,100,1,0,0,1,0,0" ∷ "T,1,47,1,0,0,0,0,0" ∷ "T,2,33,1,0,1,1,0,0" ∷ "T,2,1,1,1,0,0,1,0" ∷ "T,2,100,1,0,0,0,0,0" ∷ "T,3,78,1,1,1,0,0,0" ∷ "E,7" ∷ []))
    ∷ reading true (text ("R,32749,5,3,1" ∷ "D,3" ∷ "T,1,12958,1,0,0,1,0,0" ∷ "T,1,3110,1,0,0,0,0,0" ∷ "T,2,1,1,0,1,0,0,0" ∷ "T,2,25141,1,0,0,0,0,1"
    ∷ "T,2,1,1,0,0,0,0,0" ∷ "T,3,1,1,1,0,0,0,0" ∷ "T,3,1,1,0,0,0,0,0" ∷ "E,7" ∷ [])) ∷ lifting true 1 (by_hybrid 1 512) ∷ lifting true 2 (by_tree 20) ∷ []

seen_18 : seen limits_18 2000 empty list_18 ≡ some (text ("A,0,0" ∷ "A,1,5" ∷ "A,9,1" ∷ "V,4,2,1,2,0,0,0,0,0,0" ∷ "V,1,1,1,2,0,0,0,0,0,0"
    ∷ "V,4,2,0,3,0,0,0,0,0,0" ∷ "A,0,0" ∷ "A,9,2" ∷ "V,97,1,0,0,1,1,0,0,0,0" ∷ "V,52,1,0,1,0,0,0,0,0,0" ∷ "V,87,1,0,0,0,1,0,0,0,0" ∷ "V,21,1,0,0,0,0,0,0,0,0"
    ∷ "A,0,0" ∷ "A,0,0" ∷ "A,14,2" ∷ []))
seen_18 = refl

held_18 : held limits_18 2000 empty list_18 ≡ some (text ([]))
held_18 = refl

due_18 : due limits_18 2000 empty list_18 ≡ some (text ([]))
due_18 = refl

-- calls-1-39
abbrev limits_19 : Limits
limits_19 = record {
  prime_bound = 65535;
  variables = 8;
  components = 16;
  elements = 64;
  exponent = 255;
  t_lines = 2048;
  file = 65536;
  field = 65535;
  vectors = 128;
  level_terms = 2048;
  levels = 9;
  working = 2;
  vector = 5;
  tree = 4096;
  numbering = λ code. 1;
}

abbrev list_19 : List Call
list_19 = reading true (text ([])) ∷ reading true (text ("R,11,5,2,1" ∷ "T,1,1,1,0,1,0,0,0" ∷ "T,1,10,1,0,0,1,0,0" ∷ "T,2,1,1,1,0,0,0,0"
    ∷ "T,2,10,1,0,0,0,0,0" ∷ "T,3,10,1,0,0,1,1,1" ∷ "T,3,1,1,0,0,0,1,0" ∷ "T,4,4,1,0,1,0,1,1" ∷ "T,4,7,1,0,0,0,1,0" ∷ "E,8" ∷ [])) ∷ fetching true 1 1
    ∷ lifting true 1 (by_hybrid 3 2) ∷ fetching true 1 4 ∷ lifting true 2 (by_hybrid 2 2) ∷ []

seen_19 : seen limits_19 2000 empty list_19 ≡ some (text ("A,1,1" ∷ "A,0,0" ∷ "A,11,0" ∷ "A,0,0" ∷ "A,0,0" ∷ "V,1,4,0,0,0,0,0,0,0,0" ∷ "V,7,1,0,0,0,1,1,0,0,0"
    ∷ "V,4,3,0,0,0,0,0,0,0,0" ∷ "A,14,2" ∷ []))
seen_19 = refl

held_19 : held limits_19 2000 empty list_19 ≡ some (text ([]))
held_19 = refl

due_19 : due limits_19 2000 empty list_19 ≡ some (text ([]))
due_19 = refl

-- calls-1-40
abbrev limits_20 : Limits
limits_20 = record {
  prime_bound = 65535;
  variables = 8;
  components = 16;
  elements = 64;
  exponent = 255;
  t_lines = 2048;
  file = 65536;
  field = 65535;
  vectors = 128;
  level_terms = 2048;
  levels = 9;
  working = 0;
  vector = 512;
  tree = 4096;
  numbering = λ code. 1;
}

abbrev list_20 : List Call
list_20 = reading true (text ("R,7,2,2,1" ∷ "T,1,3,1,0,1" ∷ "T,2,1,1,1,0" ∷ "E,2" ∷ [])) ∷ lifting true 1 (by_hybrid 3 0) ∷ lifting true 2 by_division
    ∷ lifting true 1 (by_tree 1000) ∷ fetching true 1 2 ∷ lifting true 2 (by_hybrid 1 0) ∷ fetching true 1 1 ∷ lifting true 3 (by_hybrid 1 0) ∷ []

seen_20 : seen limits_20 2000 empty list_20 ≡ some (text ("A,14,0" ∷ "A,11,0" ∷ "A,11,0" ∷ "A,11,0" ∷ "A,11,0" ∷ "A,11,0" ∷ "A,11,0" ∷ "A,11,0" ∷ []))
seen_20 = refl

held_20 : held limits_20 2000 empty list_20 ≡ some (text ([]))
held_20 = refl

due_20 : due limits_20 2000 empty list_20 ≡ some (text ([]))
due_20 = refl
