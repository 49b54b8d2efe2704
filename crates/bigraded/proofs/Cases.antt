-- Closed cases: lines by the definitions, 17 and 25 apart, and the hypotheses on files with G met.
use mathlib.Core.Path.{◌≡◌, refl}
use mathlib.Core.Option.{some}
use mathlib.Core.List.{[], ◌∷◌}
use Prim.Native.Nat.{ℕ}
use lib.Dec.{lit≤}
use Rattle.definitions.specs.Limits.{document_01}
use Rattle.definitions.specs.Problem.{Bytes, Parameters, problem}
use Rattle.definitions.specs.Result.{refused}
use Rattle.definitions.specs.Betti.{betti}
use Rattle.definitions.specs.Bidegrees.{bidegrees}
use Rattle.definitions.proofs.Text.{text}
use Rattle.definitions.proofs.Instances.{f₁}
use Rattle.files.specs.Files.{WellFormedFile}
use Rattle.files.proofs.Only.{taken_only}
use Rattle.bigraded.specs.Notions.{AlikeFiles, BothRead, WeightTooLarge}
use Rattle.bigraded.proofs.Same.{document_same_with_G}

-- ## Lines

-- x², xy, y² on a product of two spaces: x has (1, 0), y has (0, 1)
abbrev squares : Bytes
squares = text ("R,7,2,1,1" ∷ "G,1,0,0,1" ∷ "T,1,1,1,2,0" ∷ "T,2,1,1,1,1" ∷ "T,3,1,1,0,2" ∷ "E,3" ∷ [])

squares_lines : bidegrees document_01 100 squares
    ≡ some (text ("B,0,0,0,1" ∷ "B,1,0,2,1" ∷ "B,1,1,1,1" ∷ "B,1,2,0,1" ∷ "B,2,1,2,1" ∷ "B,2,2,1,1" ∷ []))
squares_lines = refl

-- without G, and with D: b is 0, and the counts of a are A1's
squares_plain : bidegrees document_01 100 (text ("R,7,2,1,1" ∷ "D,4" ∷ "T,1,1,1,2,0" ∷ "T,2,1,1,1,1" ∷ "T,3,1,1,0,2" ∷ "E,3" ∷ []))
    ≡ some (text ("B,0,4,0,1" ∷ "B,1,6,0,3" ∷ "B,2,7,0,2" ∷ []))
squares_plain = refl

-- ## 17 and 25 are apart

-- x² + y with (1, 0) and (2, 0): two degrees, one bidegree
abbrev one_bidegree : Bytes
one_bidegree = text ("R,7,2,1,1" ∷ "G,1,0,2,0" ∷ "T,1,1,1,2,0" ∷ "T,1,1,1,0,1" ∷ "E,2" ∷ [])

no_page : betti document_01 100 one_bidegree ≡ some (text ("X,17,1" ∷ []))
no_page = refl

yet_lines : bidegrees document_01 100 one_bidegree ≡ some (text ("B,0,0,0,1" ∷ "B,1,2,0,1" ∷ []))
yet_lines = refl

-- x + y with (1, 0) and (0, 1): one degree, two bidegrees
abbrev two_bidegrees : Bytes
two_bidegrees = text ("R,7,2,1,1" ∷ "G,1,0,0,1" ∷ "T,1,1,1,1,0" ∷ "T,1,1,1,0,1" ∷ "E,2" ∷ [])

no_lines : bidegrees document_01 100 two_bidegrees ≡ some (text ("X,25,1" ∷ []))
no_lines = refl

-- ## The printed example with and without G

abbrev without_line : Bytes
without_line = text ("R,7,2,1,1" ∷ "T,1,1,1,1,0" ∷ "T,1,1,1,0,1" ∷ "T,2,1,1,0,2" ∷ "T,2,1,1,0,0" ∷ "E,4" ∷ [])

abbrev with_line : Bytes
with_line = text ("R,7,2,1,1" ∷ "G,1,15,0,3" ∷ "T,1,1,1,1,0" ∷ "T,1,1,1,0,1" ∷ "T,2,1,1,0,2" ∷ "T,2,1,1,0,0" ∷ "E,4" ∷ [])

abbrev printed_parameters : Parameters
printed_parameters = record { p = 7; n = 2; code = 1; s = 1; degrees = 0 ∷ [] }

alike : AlikeFiles with_line without_line
alike = refl

well_without : WellFormedFile document_01 without_line printed_parameters f₁
well_without = let t = taken_only document_01 (lit≤ tt) without_line printed_parameters f₁ refl in
    record { given = t.0; text = t.1; well = t.2; fits = lit≤ tt }

well_with : WellFormedFile document_01 with_line printed_parameters f₁
well_with = let t = taken_only document_01 (lit≤ tt) with_line printed_parameters f₁ refl in
    record { given = t.0; text = t.1; well = t.2; fits = lit≤ tt }

both_read : BothRead document_01 with_line without_line
both_read = record {
  parameters = printed_parameters;
  elements = f₁;
  well = well_with;
  parameters' = printed_parameters;
  elements' = f₁;
  well' = well_without;
}

pub same_page : (n : ℕ) → betti document_01 n with_line ≡ betti document_01 n without_line
same_page n = document_same_with_G.pages n with_line without_line alike both_read

-- ## 24

abbrev large_weight : Bytes
large_weight = text ("R,7,2,1,1" ∷ "D,9" ∷ "G,1,0,16,0" ∷ "E,0" ∷ [])

pub too_large : WeightTooLarge document_01 large_weight 3
too_large = (document_same_with_G.twenty_four large_weight 3 (lit≤ tt)).1 refl

-- a weight too few is no G line, whatever the others are
no_shape_first : problem document_01 (text ("R,7,2,1,1" ∷ "G,1,0,16" ∷ "E,0" ∷ [])) ≡ refused 1 2 []
no_shape_first = refl
