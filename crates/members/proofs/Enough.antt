-- A12's input has no bound, and of a longer one the first bytes say what is printed: a file, as many V lines as may be, and a byte more.
use mathlib.Core.Path.{◌≡◌, ap}
use mathlib.Core.List.{[], ◌∷◌}
use Prim.Native.Nat.{ℕ, ◌*◌}
use native.Mathlib.Omega.{arith}
use lib.ListN.{take}
use Rattle.definitions.specs.Limits.{document_01}
use Rattle.definitions.specs.Result.{◌>>=◌}
use Rattle.definitions.specs.Problem.{Bytes}
use Rattle.definitions.specs.State.{State}
use Rattle.definitions.specs.Membership.{v_lines, membership_by, membership}
use Rattle.definitions.specs.Places.{most_terms, v_line_length, brought_length}
use Rattle.demands.proofs.Over.{sound_eight}
use Rattle.inputs.proofs.Enough as inputs
use Rattle.members.proofs.Cut.{lines_cut}

pub enough : (n : ℕ) (bytes : Bytes) → membership document_01 n bytes ≡ membership document_01 n (take brought_length bytes)
enough n bytes =
    inputs.enough n (λ place ls X. v_lines document_01 X.parameters place [] ls >>= membership_by document_01 n X) (most_terms * v_line_length)
    (λ q f s place m rest l. let X : State = record { parameters = q; levels = f ∷ [] } in
    ap (λ y. y >>= membership_by document_01 n X) (lines_cut q (sound_eight document_01 tt X s) place m rest l)) brought_length (omega arith) bytes
