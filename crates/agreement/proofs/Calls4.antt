-- The definitions and the unrelated implementation agree: lists of calls.
-- Written by tools/agreement; do not edit.
use mathlib.Core.Path.{◌≡◌, refl}
use mathlib.Core.Bool.{true}
use mathlib.Core.Option.{some}
use mathlib.Core.List.{List, [], ◌∷◌, ◌++◌}
use Rattle.definitions.specs.Limits.{Limits}
use Rattle.definitions.specs.Lifting.{by_division, by_hybrid, by_tree}
use Rattle.definitions.specs.State.{empty}
use Rattle.definitions.specs.Calls.{Call, reading, lifting, fetching}
use Rattle.definitions.proofs.Text.{text, bytes}
use Rattle.definitions.proofs.Views.{seen, held, due}

-- eight
abbrev limits_1 : Limits
limits_1 = record {
  prime_bound = 65535;
  variables = 8;
  components = 16;
  elements = 64;
  exponent = 255;
  t_lines = 2;
  file = 65536;
  field = 65535;
  vectors = 128;
  level_terms = 2048;
  levels = 9;
  working = 512;
  vector = 512;
  tree = 4096;
  numbering = λ code. 1;
}

abbrev list_1 : List Call
list_1 = reading true (text ("R,7,2,1,1" ∷ "T,1,1,1,1,0" ∷ "T,2,1,1,0,1" ∷ "T,9,0,9,0,0" ∷ "E,3" ∷ [])) ∷ lifting true 1 by_division ∷ []

seen_1 : seen limits_1 2000 empty list_1 ≡ some (text ("A,8,4" ∷ "A,11,0" ∷ []))
seen_1 = refl

held_1 : held limits_1 2000 empty list_1 ≡ some (text ([]))
held_1 = refl

due_1 : due limits_1 2000 empty list_1 ≡ some (text ([]))
due_1 = refl
