-- The sheet's bytes in front of a buffer, and the lines of a state's levels.
use Rattle.std.specs.Prelude.{◌≡◌, [], ◌∷◌, ◌++◌, ℕ, zero, suc, ◌-◌, eqb, get_or}
use Rattle.std.proofs.Math.Option.{Option, some}
use Rattle.definitions.specs.Limits.{document_01}
use Rattle.definitions.specs.Lists.{choose}
use Rattle.definitions.specs.Problem.{Bytes}
use Rattle.definitions.specs.Layout.{Words, decode, level_at}
use Rattle.definitions.specs.Sheet.{printed, letter_X, level_lines, levels_from}
use Rattle.definitions.specs.Places.{most_levels}
use Rattle.pages.specs.bytes.Printing.{Printed}

-- what a definition gives, within some bound, was printed
pub record Prints (F : ℕ → Option Bytes) (before after : Bytes) (at r : ℕ) : Type 0 where
  pub bound : ℕ
  pub bytes : Bytes
  pub gives : some bytes ≡ F bound
  pub printed : Printed before after at r bytes

-- the lines of level k of the state that the words hold
abbrev pub lines_of : Words → ℕ → Bytes
lines_of s k = level_lines (get_or s 1 0) k (level_at document_01 s k)

-- .. of levels 1 to j
abbrev pub lines_to : Words → ℕ → Bytes
lines_to s zero = []
lines_to s (suc j) = lines_to s j ++ lines_of s (suc j)

-- .. of all its levels above 0
abbrev pub all_lines_of : Words → Bytes
all_lines_of s = lines_to s (get_or s 4 0 - 1)

-- the X line of a refusal, none for number 0
abbrev pub refusal_line : ℕ → ℕ → Bytes
refusal_line number place = choose (eqb number 0) [] (printed letter_X (number ∷ place ∷ []))

-- all levels over the state that the words hold
abbrev pub levels_sheet : ℕ → Words → Option Bytes
levels_sheet n s = levels_from document_01 n most_levels 1 (decode document_01 s)
