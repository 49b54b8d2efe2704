-- A9's input has no bound, and of a longer one the first bytes say what is printed: a file, an L line, as many P lines as may be, and a byte more.
use mathlib.Core.Path.{◌≡◌}
use Prim.Native.Nat.{ℕ, ◌+◌, ◌*◌}
use native.Mathlib.Omega.{arith}
use lib.ListN.{take}
use Rattle.definitions.specs.Limits.{document_01}
use Rattle.definitions.specs.Problem.{Bytes}
use Rattle.definitions.specs.Replay.{l_first, replay}
use Rattle.definitions.specs.Places.{most_picks, l_line_length, p_line_length, log_length}
use Rattle.inputs.proofs.Enough as inputs
use Rattle.replays.proofs.Cut.{log_cut}

pub enough : (n : ℕ) (bytes : Bytes) → replay document_01 n bytes ≡ replay document_01 n (take log_length bytes)
enough n bytes =
    inputs.enough n (λ place ls X. l_first document_01 n most_picks place ls X) (l_line_length + most_picks * p_line_length)
    (λ q f s place m rest l. log_cut n place q f s m rest l) log_length (omega arith) bytes
