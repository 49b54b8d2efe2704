-- What may be answered to a file: what it says if it is well-formed, else a number from 1 to 8, 18 or 24, at its first bad line, for its reason.
use Rattle.std.specs.Prelude.{◌≡◌, ◌⊎◌, List, [], ◌∷◌, ℕ, ◌≤◌, ◌<◌, length}
use Rattle.std.proofs.Math.Option.{some}
use Rattle.definitions.specs.Limits.{Limits}
use Rattle.definitions.specs.Monomial.{Level}
use Rattle.definitions.specs.Result.{Result, done, refused, unfinished}
use Rattle.definitions.specs.Problem.{Bytes, Parameters, Head, head, problem}
use Rattle.definitions.specs.Calls.{accepted}
use Rattle.definitions.specs.Sheet.{printed, letter_X, sheet, sheet_of}
use Rattle.files.specs.Files.{Given, file_of, weights_of, WellFormed, WellFormedFile, FirstBadLine}
use Rattle.files.specs.Reasons.{Reason}

-- the numbers that refuse a line: 1 to 8, 18 of request A5, 24 of request A14
abbrev pub LineNumber : ℕ → Type 0
LineNumber number = ((1 ≤ number) × (number ≤ 8)) ⊎ ((number ≡ 18) ⊎ (number ≡ 24))

-- "1: .. file too long (line 0, tested first)", else a number from 1 to 8, 18 (A5) or 24 (A14) at the first bad line, the one that the order of tests gives
pub data RefusedRight (lim : Limits) (bytes : Bytes) (number place : ℕ) : Type 0 where
  too_long : number ≡ 1 → place ≡ 0 → lim.file < length bytes → RefusedRight lim bytes number place
  at_line : LineNumber number → length bytes ≤ lim.file → FirstBadLine lim bytes place → Reason lim bytes number place
      → RefusedRight lim bytes number place

abbrev pub Answered : Limits → Bytes → Result (Parameters × Level) → Type 0
Answered lim bytes (done x) = WellFormedFile lim bytes x.0 x.1
Answered lim bytes (refused number place value) = RefusedRight lim bytes number place × (value ≡ [])
Answered lim bytes unfinished = ⊥

-- the lines before the first T line are read, with these parameters and these weights of the variables
pub record Head-read (lim : Limits) (bytes : Bytes) (q : Parameters) (weights : List (ℕ × ℕ)) : Type 0 where
  pub said : Head
  pub read : head lim bytes ≡ done said
  pub parameters : said.parameters ≡ q
  pub weighed : said.weights ≡ weights

pub record ReaderRight (lim : Limits) : Type 0 where
  -- each well-formed file is read as what it says
  pub taken : (bytes : Bytes) (q : Parameters) (f : Level) → WellFormedFile lim bytes q f → problem lim bytes ≡ done (q, f)
  -- .. with the weights of its G line, or 1 and 0 (A14): they are in no state
  pub weighed : (bytes : Bytes) (q : Parameters) (f : Level) (w : WellFormedFile lim bytes q f) → Head-read lim bytes q (weights_of w.given q)
  -- where there is a reason to refuse, there is the refusal
  pub refuses : (bytes : Bytes) (number place : ℕ) → RefusedRight lim bytes number place → problem lim bytes ≡ refused number place []
  -- and each file is the one or the other
  pub answered : (bytes : Bytes) → Answered lim bytes (problem lim bytes)
  -- a text says one thing, its weights included
  pub once : (given given' : Given) (q r : Parameters) (f g : Level) → WellFormed lim given q f → WellFormed lim given' r g
      → file_of given q f ≡ file_of given' r g
      → (◌≡◌ {A = Parameters × Level} (q, f) (r, g)) × (weights_of given q ≡ weights_of given' r)

-- the sheet of a file is that of its parameters and elements, or `X,number,place` alone
pub data SheetRight (lim : Limits) (bytes : Bytes) : Type 0 where
  of_elements : (q : Parameters) (f : Level) → WellFormedFile lim bytes q f
      → ((bound : ℕ) → sheet lim bound bytes ≡ sheet_of lim bound q.n (accepted lim bound (q, f))) → SheetRight lim bytes
  of_refusal : (number place : ℕ) → RefusedRight lim bytes number place
      → ((bound : ℕ) → sheet lim bound bytes ≡ some (printed letter_X (number ∷ place ∷ [])))
      → SheetRight lim bytes
