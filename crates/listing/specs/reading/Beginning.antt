-- What a program has after reading and acceptance: an accepted basis, or the lines of a refusal.
use Rattle.std.specs.Prelude.{◌≡◌, ℕ, ◌+◌, ◌*◌, ◌≤◌, get_or, Result as CodeResult, Ok, Err}
use Rattle.definitions.specs.Limits.{document_01}
use Rattle.definitions.specs.Monomial.{Vector, Level}
use Rattle.definitions.specs.Result.{Result, done, refused}
use Rattle.definitions.specs.Problem.{Bytes, Parameters, problem}
use Rattle.definitions.specs.Calls.{read}
use Rattle.definitions.specs.Layout.{Words, decode}
use Rattle.definitions.specs.Sheet.{x_lines, variables_of}
use Rattle.definitions.specs.Places.{most_terms, w_line_length, pair_line_length}
use Rattle.level.specs.by_runs.Stages.{Base, accepted_over}
use Rattle.pages.specs.bytes.Printing.{Printed}

-- within some bound this refuses, and the refusal's lines were printed, with v exponents in the W lines
pub record Stops {A : Type 0} (x : ℕ → Result A) (v : ℕ) (before after : Bytes) (r : ℕ) : Type 0 where
  pub bound : ℕ
  pub number : ℕ
  pub place : ℕ
  pub value : Vector
  pub refuses : x bound ≡ refused number place value
  pub printed : Printed before after 0 r (x_lines v number place value)
  pub fits : r ≤ pair_line_length + most_terms * w_line_length

-- of a state that was read
abbrev pub AcceptedAs : CodeResult (Unit {0}) ℕ → Words → Bytes → Bytes → Type 0
AcceptedAs (Ok u) s out out' = (n : ℕ) × (accepted_over s n ≡ done tt)
AcceptedAs (Err r) s out out' = Stops (accepted_over s) (get_or s 1 0) out out' r

-- the words hold the accepted basis of a file, and nothing above it
pub record Basis (file : Bytes) (s : Words) : Type 0 where
  pub base : Base s 0
  pub alone : get_or s 4 0 ≡ 1
  pub bound : ℕ
  pub reads : read document_01 bound file ≡ done (decode document_01 s)
  -- what stands in the file, and that the parameters are its
  pub said : Parameters × Level
  pub says : problem document_01 file ≡ done said
  pub parameters : (decode document_01 s).parameters ≡ said.0

abbrev pub BegunAs : CodeResult (Unit {0}) ℕ → Bytes → Words → Bytes → Bytes → Type 0
BegunAs (Ok u) file s out out' = Basis file s
BegunAs (Err r) file s out out' = Stops (λ n. read document_01 n file) (variables_of (problem document_01 file)) out out' r
