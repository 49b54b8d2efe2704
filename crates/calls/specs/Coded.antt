-- The calls' answers in the types of other languages.
use Rattle.std.specs.Prelude.{◌≡◌, ℕ}
use Rattle.std.proofs.Math.Option.{some}
use Rattle.definitions.specs.Limits.{document_01}
use Rattle.definitions.specs.Problem.{Bytes}
use Rattle.definitions.specs.Layout.{Words, Way, Read, Lift, Fetch, Divide, read_call, lift_call, fetch_call, divide_call}

abbrev pub read_told : ℕ → ℕ → Words → Words → Read
read_told number place state work = (number, place, state, work)

abbrev pub lift_told : ℕ → ℕ → Words → Words → Words → Lift
lift_told number place state work cache = (number, place, state, work, cache)

abbrev pub fetch_told : ℕ → ℕ → Words → Fetch
fetch_told number place out = (number, place, out)

abbrev pub divide_told : ℕ → ℕ → Words → Words → Divide
divide_told number place quotients remainder = (number, place, quotients, remainder)

-- ## What the contracts say, in one place: the functions' `ensures` and `Made` both cite these

abbrev pub ReadSays : ℕ → ℕ → Words → Words → Bytes → Words → Words → Type 0
ReadSays number place state' work' file state work = (n : ℕ) × (some (read_told number place state' work') ≡ read_call document_01 n file state work)

abbrev pub LiftSays : ℕ → ℕ → Words → Words → Words → ℕ → Way → Words → Words → Words → Type 0
LiftSays number place state' work' cache' k way state work cache =
    (n : ℕ) × (some (lift_told number place state' work' cache') ≡ lift_call document_01 n k way state work cache)

abbrev pub FetchSays : ℕ → ℕ → Words → ℕ → ℕ → Words → Words → Type 0
FetchSays number place out' k v state out = fetch_told number place out' ≡ fetch_call document_01 k v state out

abbrev pub DivideSays : ℕ → ℕ → Words → Words → Words → Words → Words → Words → Type 0
DivideSays number place quotients' remainder' state vector quotients remainder =
    (n : ℕ) × (some (divide_told number place quotients' remainder') ≡ divide_call document_01 n state vector quotients remainder)
