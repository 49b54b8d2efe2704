-- What a program prints: of a state with all levels, of a state that was accepted, of a file.
use Rattle.std.specs.Prelude.{ℕ}
use Rattle.std.proofs.Math.Option.{Option, none, some}
use Rattle.definitions.specs.Limits.{document_01}
use Rattle.definitions.specs.Result.{Result, done, refused, unfinished, ◌>>=◌}
use Rattle.definitions.specs.Problem.{Bytes}
use Rattle.definitions.specs.State.{State}
use Rattle.definitions.specs.Layout.{Words, decode}
use Rattle.definitions.specs.Sheet.{x_lines}
use Rattle.definitions.specs.Program.{lifted, printed_or_refused}
use Rattle.listing.specs.whole.Listed.{Prints}

-- the page of the state with all its levels
abbrev pub paged : (State → Bytes) → ℕ → State → Result Bytes
paged page n X = lifted document_01 n X >>= λ Y. done (page Y)

-- .. after a test
abbrev pub tested : (State → Result (Unit {0})) → (State → Bytes) → ℕ → State → Result Bytes
tested test page n X = test X >>= λ u. paged page n X

-- what a program gives, within some bound, for the state that the words hold was printed; v is the number of exponents in W lines, of which there are none
abbrev pub AcceptedPrints : (ℕ → State → Result Bytes) → Words → Bytes → Bytes → ℕ → Type 0
AcceptedPrints of s out out' r = (v : ℕ) → Prints (λ n. printed_or_refused v (of n (decode document_01 s))) out out' 0 r

-- .. its page, all levels lifted
abbrev pub LiftedPrints : (State → Bytes) → Words → Bytes → Bytes → ℕ → Type 0
LiftedPrints page s out out' r = AcceptedPrints (paged page) s out out' r

-- what follows reading: what is printed for the state, or the lines of the refusal
abbrev pub then_printed : ℕ → (State → Option Bytes) → Result State → Option Bytes
then_printed v of (done X) = of X
then_printed v of (refused number place value) = some (x_lines v number place value)
then_printed v of unfinished = none
