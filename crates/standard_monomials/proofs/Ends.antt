-- A larger bound on the steps changes no answer.
use Rattle.definitions.specs.Limits.{Limits}
use Rattle.definitions.specs.Result.{done, finished?, ◌>>=◌}
use Rattle.definitions.specs.Problem.{Bytes, problem}
use Rattle.definitions.specs.State.{State}
use Rattle.definitions.specs.Calls.{read}
use Rattle.definitions.specs.Sheet.{variables_of}
use Rattle.definitions.specs.Program.{lifted, printed_or_refused}
use Rattle.definitions.specs.Hilbert.{hilbert_lines, hilbert_of, hilbert}
use Rattle.laws.proofs.Steady.{answered?, Steady, bind_steady, bind_fixed, result_steady}
use Rattle.laws.proofs.Bound.{read_steady}
use Rattle.betti.proofs.Ends.{lifted_steady}

pub hilbert_of_steady : (lim : Limits) (X : State) → Steady finished? (λ n. hilbert_of lim n X)
hilbert_of_steady lim X = bind_fixed (λ Y. done (hilbert_lines Y)) (λ n. lifted lim n X) (lifted_steady lim lim.levels 1 X)

pub hilbert_steady : (lim : Limits) (bytes : Bytes) → Steady answered? (λ n. hilbert lim n bytes)
hilbert_steady lim bytes =
    result_steady answered? (printed_or_refused (variables_of (problem lim bytes))) (λ t. t) (λ n. read lim n bytes >>= hilbert_of lim n)
    (bind_steady (λ n. read lim n bytes) (hilbert_of lim) (read_steady lim bytes) (hilbert_of_steady lim))
