-- What a call that prints a page returns and leaves.
use Rattle.std.specs.Prelude.{Bool, ℕ, leb, length}
use Rattle.std.proofs.Math.Option.{Option, some}
use Rattle.definitions.specs.Lists.{◌and◌, ◌then◌, choose}
use Rattle.definitions.specs.Problem.{Bytes}
use Rattle.definitions.specs.Layout.{Words, padded, zeros}
use Rattle.definitions.specs.Places.{state_length, value_length}
use Rattle.lending.specs.declared.Answer.{Answer}

-- number, how many bytes; the words of the state and of the work area, the buffer's bytes
abbrev pub Told : Type 0
Told = ℕ × ℕ × Words × Words × Bytes

abbrev pub told_of : ℕ → ℕ → Words → Words → Bytes → Option Told
told_of number long state work out = some (number, long, state, work, out)

abbrev pub told : Answer → Words → Words → Bytes → Option Told
told r state work out = told_of r.number r.length state work out

-- the lengths of the state's words, the work area and the buffer, for a page of so many bytes at the most
abbrev pub long_enough? : ℕ → ℕ → ℕ → ℕ → Bool
long_enough? size state work out = leb state_length state and leb value_length work and leb size out

-- 16: "a lent buffer is shorter than its limit"; else what is printed, zeros after it and in the other buffers
abbrev pub called : ℕ → (ℕ → Bytes → Option Bytes) → ℕ → Bytes → Words → Words → Bytes → Option Told
called size prints n file state work out =
    choose (long_enough? size (length state) (length work) (length out))
    (prints n file then λ bytes. told_of 0 (length bytes) (zeros state) (zeros work) (padded (length out) bytes)) (told_of 16 0 state work out)
