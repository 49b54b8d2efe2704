-- Closed cases of the prime test as sheets. They stand here because each tries thousands of divisors, and an edit of definitions tries all its closed
-- cases.
use mathlib.Core.Path.{◌≡◌, refl}
use mathlib.Core.Option.{some}
use mathlib.Core.List.{List, [], ◌∷◌}
use Prim.Native.String.{String}
use Rattle.definitions.specs.Limits.{document_01}
use Rattle.definitions.specs.Sheet.{sheet}
use Rattle.definitions.proofs.Text.{text}

abbrev prints : List String → List String → Type 0
prints file lines = sheet document_01 99 (text file) ≡ some (text lines)

-- instance 10: "p = 32,749 accepted, 32,761 = 181·181 refused 2"
prime_32749 : prints ("R,32749,2,1,1" ∷ "T,1,1,1,1,0" ∷ "E,1" ∷ []) ("Z,1,0" ∷ [])
prime_32749 = refl

square_32761 : prints ("R,32761,2,1,1" ∷ "T,1,1,1,1,0" ∷ "E,1" ∷ []) ("X,2,1" ∷ [])
square_32761 = refl

-- A4: "65,521, refused until now, is read", with coefficients of 65,520
prime_65521 : prints ("R,65521,2,1,1" ∷ "T,1,65520,1,1,0" ∷ "T,1,65520,1,0,1" ∷ "T,2,65520,1,0,1" ∷ "E,3" ∷ [])
    ("S,1,1,1,2,1,0" ∷ "S,1,1,65520,1,0,1" ∷ "S,1,1,1,2,0,1" ∷ "Z,1,1" ∷ "Z,2,0" ∷ [])
prime_65521 = refl

-- 65,533 = 13·71·71
not_prime_65533 : prints ("R,65533,2,1,1" ∷ "T,1,1,1,1,0" ∷ "E,1" ∷ []) ("X,2,1" ∷ [])
not_prime_65533 = refl
