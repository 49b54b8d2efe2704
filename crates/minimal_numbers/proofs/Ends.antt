-- A larger bound on the steps changes no answer.
use Rattle.definitions.specs.Limits.{Limits}
use Rattle.definitions.specs.Result.{done, finished?, ◌>>=◌}
use Rattle.definitions.specs.Problem.{Bytes, problem}
use Rattle.definitions.specs.State.{State}
use Rattle.definitions.specs.Calls.{read}
use Rattle.definitions.specs.Sheet.{variables_of}
use Rattle.definitions.specs.Program.{lifted, printed_or_refused}
use Rattle.definitions.specs.Betti.{homogeneous}
use Rattle.definitions.specs.Minimal.{minimal_page, last_empty, minimal_of, minimal}
use Rattle.laws.proofs.Steady.{answered?, Steady, steady_fixed, bind_steady, bind_fixed, result_steady}
use Rattle.laws.proofs.Bound.{read_steady}
use Rattle.betti.proofs.Ends.{lifted_steady}

pub minimal_of_steady : (lim : Limits) (X : State) → Steady finished? (λ n. minimal_of lim n X)
minimal_of_steady lim X =
    bind_steady (λ n. homogeneous X) (λ n u. lifted lim n X >>= λ Y. last_empty lim Y >>= λ u'. done (minimal_page Y))
    (steady_fixed finished? (homogeneous X)) λ u.
    bind_fixed (λ Y. last_empty lim Y >>= λ u'. done (minimal_page Y)) (λ n. lifted lim n X) (lifted_steady lim lim.levels 1 X)

pub minimal_steady : (lim : Limits) (bytes : Bytes) → Steady answered? (λ n. minimal lim n bytes)
minimal_steady lim bytes =
    result_steady answered? (printed_or_refused (variables_of (problem lim bytes))) (λ t. t) (λ n. read lim n bytes >>= minimal_of lim n)
    (bind_steady (λ n. read lim n bytes) (minimal_of lim) (read_steady lim bytes) (minimal_of_steady lim))
