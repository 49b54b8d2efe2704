-- What one try of a file comes to.
use Rattle.std.specs.Prelude.{◌≡◌, [], ◌∷◌, ℕ, suc, ◌-◌, ◌≤◌, length, take, Result as CodeResult, Ok, Err}
use Rattle.definitions.specs.Limits.{document_01}
use Rattle.definitions.specs.Monomial.{Vector, Level}
use Rattle.definitions.specs.Result.{Result, done, refused}
use Rattle.definitions.specs.Problem.{Bytes, Parameters, problem}
use Rattle.definitions.specs.Layout.{Words}
use Rattle.definitions.specs.Sheet.{printed, letter_X}
use Rattle.definitions.specs.Completing.{completed}
use Rattle.definitions.specs.Places.{file_length, pair_line_length}
use Rattle.completions.specs.Resuming.{Same, Passed}
use Rattle.pages.specs.bytes.Printing.{Printed}
use Rattle.reader.specs.problem.Reading.{words_read}
use Rattle.completing.specs.adding.Additions.{added_over}
use Rattle.completing.specs.declared.whole.Tried.{Tried}
use Rattle.completing.specs.declared.whole.Tried.TheVariants.{Accepted, Grown}

-- the words hold what the file says
pub record Read_in (file : Bytes) (s : Words) : Type 0 where
  pub said : Parameters × Level
  pub says : problem document_01 file ≡ done said
  pub words : s ≡ words_read (length s) said

-- the X line of a refusal stands in front
pub record Refuses (F : ℕ → Result Bytes) (before after : Bytes) (r : ℕ) : Type 0 where
  pub number : ℕ
  pub place : ℕ
  pub same : Same F (λ n. refused number place [])
  pub line : Printed before after 0 r (printed letter_X (number ∷ place ∷ []))
  pub fits : r ≤ pair_line_length

-- a value added to the file, where division stopped at a frame term: the longer file and the frame terms before that one, or a refusal
abbrev pub GrownAs : CodeResult Tried ℕ → Words → Bytes → Vector → ℕ → Bytes → Bytes → Type 0
GrownAs (Ok Accepted) s file v t out out' = ⊥
GrownAs (Ok (Grown r from)) s file v t out out' = (added_over s file v ≡ done (take r out')) × (r ≤ file_length) × (from ≡ t - 1)
GrownAs (Err r) s file v t out out' = Refuses (λ n. added_over s file v) out out' r

-- one of so many tries
abbrev pub TriedAs : CodeResult Tried ℕ → Bytes → Bytes → Bytes → Type 0
TriedAs (Ok Accepted) file out out' = ((left : ℕ) → Same (λ n. completed document_01 n (suc left) file) (λ n. done file)) × (out' ≡ out)
TriedAs (Ok (Grown r from)) file out out' =
    ((left : ℕ) → Same (λ n. completed document_01 n (suc left) file) (λ n. completed document_01 n left (take r out')))
    × Passed document_01 (take r out') from × (r ≤ file_length)
TriedAs (Err r) file out out' = (left : ℕ) → Refuses (λ n. completed document_01 n (suc left) file) out out' r
