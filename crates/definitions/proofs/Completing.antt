-- Completing a basis (A6) by computation: files as bytes, places, small limits.
use mathlib.Core.Path.{◌≡◌, refl}
use mathlib.Core.Option.{some}
use mathlib.Core.List.{List, [], ◌∷◌}
use Prim.Native.Nat.{ℕ}
use Prim.Native.String.{String}
use Rattle.definitions.specs.Limits.{Limits, document_01}
use Rattle.definitions.specs.Result.{refused}
use Rattle.definitions.specs.Calls.{read}
use Rattle.definitions.specs.Completing.{completing}
use Rattle.definitions.proofs.Instances.{xy}
use Rattle.definitions.proofs.Text.{text}

abbrev prints : List String → List String → Type 0
prints file lines = completing document_01 99 (text file) ≡ some (text lines)

-- ## Files

-- "one accepted at once is printed unchanged"
unchanged : prints
    ("R,7,2,1,1" ∷ "T,1,1,1,1,0" ∷ "T,1,1,1,0,1" ∷ "T,2,1,1,0,2" ∷ "T,2,1,1,0,0" ∷ "E,4" ∷ [])
    ("R,7,2,1,1" ∷ "T,1,1,1,1,0" ∷ "T,1,1,1,0,1" ∷ "T,2,1,1,0,2" ∷ "T,2,1,1,0,0" ∷ "E,4" ∷ [])
unchanged = refl

-- 2xy + 1, y² + 3: x + y is added
one_more : prints
    ("R,7,2,1,1" ∷ "T,1,2,1,1,1" ∷ "T,1,1,1,0,0" ∷ "T,2,1,1,0,2" ∷ "T,2,3,1,0,0" ∷ "E,4" ∷ [])
    ("R,7,2,1,1" ∷ "T,1,2,1,1,1" ∷ "T,1,1,1,0,0" ∷ "T,2,1,1,0,2" ∷ "T,2,3,1,0,0" ∷ "T,3,1,1,1,0" ∷ "T,3,1,1,0,1" ∷ "E,6" ∷ [])
one_more = refl

-- .. with a D and a G line, which stay
one_more_graded : prints
    ("R,7,2,1,1" ∷ "D,3" ∷ "G,1,0,0,1" ∷ "T,1,2,1,1,1" ∷ "T,1,1,1,0,0" ∷ "T,2,1,1,0,2" ∷ "T,2,3,1,0,0" ∷ "E,4" ∷ [])
    ("R,7,2,1,1" ∷ "D,3" ∷ "G,1,0,0,1" ∷ "T,1,2,1,1,1" ∷ "T,1,1,1,0,0" ∷ "T,2,1,1,0,2" ∷ "T,2,3,1,0,0" ∷ "T,3,1,1,1,0" ∷ "T,3,1,1,0,1" ∷ "E,6" ∷ [])
one_more_graded = refl

-- x², xy + y²: y³ is added
instance_6 : prints
    ("R,7,2,1,1" ∷ "T,1,1,1,2,0" ∷ "T,2,1,1,1,1" ∷ "T,2,1,1,0,2" ∷ "E,3" ∷ [])
    ("R,7,2,1,1" ∷ "T,1,1,1,2,0" ∷ "T,2,1,1,1,1" ∷ "T,2,1,1,0,2" ∷ "T,3,1,1,0,3" ∷ "E,4" ∷ [])
instance_6 = refl

-- ## Refusals

-- a file that is not read; 9 is never printed
not_read : prints ("R,7,2,1,1" ∷ "T,1,0,1,2,0" ∷ "E,1" ∷ []) ("X,4,2" ∷ [])
not_read = refl

-- limits on elements, a file's bytes, T lines, a vector's terms
abbrev small : ℕ → ℕ → ℕ → ℕ → Limits
small elements file t_lines vector = record {
  prime_bound = 65_535;
  variables = 8;
  components = 16;
  elements = elements;
  exponent = 255;
  t_lines = t_lines;
  file = file;
  field = 65_535;
  vectors = 128;
  level_terms = 2_048;
  levels = 9;
  working = 512;
  vector = vector;
  tree = 4_096;
  numbering = λ code. 1;
}

-- instance 6 within these; with y³ its file has 62 bytes
abbrev within : Limits → List String → Type 0
within lim lines = completing lim 99 (text ("R,7,2,1,1" ∷ "T,1,1,1,2,0" ∷ "T,2,1,1,1,1" ∷ "T,2,1,1,0,2" ∷ "E,3" ∷ [])) ≡ some (text lines)

abbrev whole : List String
whole = "R,7,2,1,1" ∷ "T,1,1,1,2,0" ∷ "T,2,1,1,1,1" ∷ "T,2,1,1,0,2" ∷ "T,3,1,1,0,3" ∷ "E,4" ∷ []

pub record Places : Type 0 where
  nine_first : read (small 3 62 4 3) 99 (text ("R,7,2,1,1" ∷ "T,1,1,1,2,0" ∷ "T,2,1,1,1,1" ∷ "T,2,1,1,0,2" ∷ "E,3" ∷ []))
      ≡ refused 9 1 ((6, xy 0 3 1) ∷ [])
  fits : within (small 3 62 4 4) whole
  -- "19 when a 65th element would be added (place 65), 1 at line 0 for a result too long for a problem file, 8 for a 2,049th T line": in this order
  an_element : within (small 2 61 3 4) ("X,19,3" ∷ [])
  a_byte : within (small 3 61 3 4) ("X,1,0" ∷ [])
  a_line : within (small 3 62 3 4) ("X,8,5" ∷ [])
  -- "Limits 13 to 15 end the work as in acceptance.": the file given ends in 9 with three terms in the vector; with y³ in the file its frame term takes a
  -- fourth
  a_term : within (small 3 62 4 3) ("X,14,0" ∷ [])
  -- the T lines are counted, D and G move their numbers
  behind_weights : completing (small 3 99 3 4) 99
      (text ("R,7,2,1,1" ∷ "D,0" ∷ "G,1,0,0,1" ∷ "T,1,1,1,2,0" ∷ "T,2,1,1,1,1" ∷ "T,2,1,1,0,2" ∷ "E,3" ∷ []))
      ≡ some (text ("X,8,7" ∷ []))

places : Places
places = record { nine_first = refl; fits = refl; an_element = refl; a_byte = refl; a_line = refl; a_term = refl; behind_weights = refl }
