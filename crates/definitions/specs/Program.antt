-- What the programs of the requests share: the levels that the sheet lifts, and "When the program of a request refuses, the X line is the first that it
-- prints."
use Rattle.std.specs.Prelude.{Bool, true, false, ℕ, zero, suc}
use Rattle.std.proofs.Math.Option.{Option, none, some}
use Rattle.definitions.specs.Limits.{Limits}
use Rattle.definitions.specs.Lists.{empty?}
use Rattle.definitions.specs.Result.{Result, done, refused, unfinished, ◌>>=◌}
use Rattle.definitions.specs.Lifting.{by_hybrid}
use Rattle.definitions.specs.Problem.{Bytes, problem}
use Rattle.definitions.specs.State.{State}
use Rattle.definitions.specs.Stage.{highest}
use Rattle.definitions.specs.Calls.{read, lift}
use Rattle.definitions.specs.Sheet.{x_lines, variables_of}

-- the next level unless this one's count is 0
abbrev pub unless_empty : Bool → State → (State → Result State) → Result State
unless_empty true X go = done X
unless_empty false X go = go X

-- "Levels 1 on, hybrid, pick code 2, until a count is 0 or level 9 is printed", as for the sheet: so many levels from level k on; n bounds the steps of each
-- run
abbrev pub lifted_from : Limits → ℕ → ℕ → ℕ → State → Result State
lifted_from lim n zero k X = done X
lifted_from lim n (suc left) k X =
    lift lim n X k (by_hybrid 2 lim.working) >>= λ Y. unless_empty (empty? (highest Y.levels)) Y (λ Z. lifted_from lim n left (suc k) Z)

abbrev pub lifted : Limits → ℕ → State → Result State
lifted lim n X = lifted_from lim n lim.levels 1 X

-- the bytes; or the X line and, after X,9, the W lines; none only where the bound on steps does not suffice
abbrev pub printed_or_refused : ℕ → Result Bytes → Option Bytes
printed_or_refused n (done bytes) = some bytes
printed_or_refused n (refused number place value) = some (x_lines n number place value)
printed_or_refused n unfinished = none

-- a program that reads a file and prints what the accepted state gives
abbrev pub program : (State → Result Bytes) → Limits → ℕ → Bytes → Option Bytes
program page lim n bytes = printed_or_refused (variables_of (problem lim bytes)) (read lim n bytes >>= page)
