-- The hypotheses are met: the printed example with and without D, its degrees on two levels, and a line with 256.
use mathlib.Core.Path.{◌≡◌, refl}
use mathlib.Core.List.{[], ◌∷◌}
use Prim.Native.Nat.{ℕ, suc}
use lib.Dec.{T, lit≤, lit<}
use Rattle.definitions.specs.Limits.{document_01}
use Rattle.definitions.specs.Problem.{Bytes, Parameters, problem}
use Rattle.definitions.specs.Result.{refused}
use Rattle.definitions.specs.State.{State, sound?}
use Rattle.definitions.specs.Sheet.{sheet}
use Rattle.definitions.proofs.Text.{text}
use Rattle.definitions.proofs.Instances.{f₁, g₁}
use Rattle.files.specs.Files.{WellFormedFile}
use Rattle.files.proofs.Only.{taken_only}
use Rattle.degrees.specs.Notions.{degree_at, HasVector, AlikeFiles, DegreeTooLarge}
use Rattle.degrees.proofs.Degrees.{document_carries}
use Rattle.degrees.proofs.Same.{document_same}

abbrev without_line : Bytes
without_line = text ("R,7,2,1,1" ∷ "T,1,1,1,1,0" ∷ "T,1,1,1,0,1" ∷ "T,2,1,1,0,2" ∷ "T,2,1,1,0,0" ∷ "E,4" ∷ [])

abbrev with_line : Bytes
with_line = text ("R,7,2,1,1" ∷ "D,4" ∷ "T,1,1,1,1,0" ∷ "T,1,1,1,0,1" ∷ "T,2,1,1,0,2" ∷ "T,2,1,1,0,0" ∷ "E,4" ∷ [])

abbrev of_degree : ℕ → Parameters
of_degree d = record { p = 7; n = 2; code = 1; s = 1; degrees = d ∷ [] }

-- ## Files

alike : AlikeFiles with_line without_line
alike = refl

well_without : WellFormedFile document_01 without_line (of_degree 0) f₁
well_without = let t = taken_only document_01 (lit≤ tt) without_line (of_degree 0) f₁ refl in
    record { given = t.0; text = t.1; well = t.2; fits = lit≤ tt }

well_with : WellFormedFile document_01 with_line (of_degree 4) f₁
well_with = let t = taken_only document_01 (lit≤ tt) with_line (of_degree 4) f₁ refl in
    record { given = t.0; text = t.1; well = t.2; fits = lit≤ tt }

pub same_sheet : (n : ℕ) → sheet document_01 n with_line ≡ sheet document_01 n without_line
same_sheet n = document_same.sheets n with_line without_line (of_degree 4) (of_degree 0) f₁ f₁ alike well_with well_without

-- ## Levels

abbrev two_levels : State
two_levels = record { parameters = of_degree 4; levels = g₁ ∷ f₁ ∷ [] }

is_sound : T (sound? document_01 two_levels)
is_sound = tt

first_of_level_1 : HasVector two_levels.levels 1 1
first_of_level_1 = record { level = lit< tt; from = lit≤ tt; to = lit≤ tt }

-- its degree is 7: 1 of x, and 6 of f_2 = y² + 1
seven : degree_at (4 ∷ []) two_levels.levels 1 1 ≡ suc (degree_at (4 ∷ []) two_levels.levels 0 2)
seven = document_carries.above two_levels 0 1 is_sound first_of_level_1

-- ## 18

abbrev too_large_line : Bytes
too_large_line = text ("R,7,2,1,2" ∷ "D,9,256" ∷ "E,0" ∷ [])

is_refused : problem document_01 too_large_line ≡ refused 18 2 []
is_refused = refl

pub too_large : DegreeTooLarge document_01 too_large_line
too_large = (document_same.eighteen too_large_line (lit≤ tt)).1 is_refused
