-- "Levels 1 on, hybrid, pick code 2, until a count is 0 or level 9 is printed": as the sheet and other programs lift them.
use Rattle.std.specs.Prelude.{Bool, true, false, ℕ, zero, suc}
use Rattle.std.proofs.Math.Option.{Option, none, some}
use Rattle.definitions.specs.Limits.{Limits}
use Rattle.definitions.specs.Lists.{empty?}
use Rattle.definitions.specs.Result.{Result, done, refused, unfinished}
use Rattle.definitions.specs.Lifting.{by_hybrid}
use Rattle.definitions.specs.State.{State}
use Rattle.definitions.specs.Stage.{highest}
use Rattle.definitions.specs.Calls.{lift}

-- ## As `lifted`, with the levels that are complete where one is refused

-- number and place of the refusal, 0 and 0 where there is none; the state with the levels that are complete
abbrev pub Levels : Type 0
Levels = ℕ × ℕ × State

abbrev pub unless_last : Bool → State → (State → Option Levels) → Option Levels
unless_last true X go = some (0, 0, X)
unless_last false X go = go X

abbrev pub then_levels : State → (State → Option Levels) → Result State → Option Levels
then_levels X go (done Y) = unless_last (empty? (highest Y.levels)) Y go
then_levels X go (refused number place value) = some (number, place, X)
then_levels X go unfinished = none

-- so many levels from level k on; none where the bound does not suffice
abbrev pub reached_from : Limits → ℕ → ℕ → ℕ → State → Option Levels
reached_from lim n zero k X = some (0, 0, X)
reached_from lim n (suc left) k X = then_levels X (λ Y. reached_from lim n left (suc k) Y) (lift lim n X k (by_hybrid 2 lim.working))

abbrev pub reached : Limits → ℕ → State → Option Levels
reached lim n X = reached_from lim n lim.levels 1 X
