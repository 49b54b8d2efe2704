-- For every file some bound on the steps makes the lines come, and a larger one changes nothing.
use mathlib.Core.List.{List}
use Prim.Native.Nat.{ℕ}
use Rattle.definitions.specs.Limits.{Limits}
use Rattle.definitions.specs.Result.{done, finished?, ◌>>=◌}
use Rattle.definitions.specs.Problem.{Bytes, head, problem}
use Rattle.definitions.specs.State.{State}
use Rattle.definitions.specs.Calls.{read}
use Rattle.definitions.specs.Sheet.{variables_of}
use Rattle.definitions.specs.Program.{lifted, printed_or_refused}
use Rattle.definitions.specs.Bidegrees.{bihomogeneous, bidegree_lines, bidegrees_of, bidegrees}
use Rattle.laws.proofs.Steady.{answered?, Steady, steady_fixed, bind_steady, bind_fixed, result_steady}
use Rattle.laws.proofs.Bound.{read_steady}
use Rattle.betti.proofs.Ends.{lifted_steady}

pub bidegrees_of_steady : (lim : Limits) (ws : List (ℕ × ℕ)) (X : State) → Steady finished? (λ n. bidegrees_of lim n ws X)
bidegrees_of_steady lim ws X =
    bind_steady (λ n. bihomogeneous ws X) (λ n u. lifted lim n X >>= λ Y. done (bidegree_lines ws Y)) (steady_fixed finished? (bihomogeneous ws X)) λ u.
    bind_fixed (λ Y. done (bidegree_lines ws Y)) (λ n. lifted lim n X) (lifted_steady lim lim.levels 1 X)

pub bidegrees_steady : (lim : Limits) (bytes : Bytes) → Steady answered? (λ n. bidegrees lim n bytes)
bidegrees_steady lim bytes =
    result_steady answered? (printed_or_refused (variables_of (problem lim bytes))) (λ t. t)
    (λ n. read lim n bytes >>= λ X. head lim bytes >>= λ h. bidegrees_of lim n h.weights X)
    (bind_steady (λ n. read lim n bytes) (λ n X. head lim bytes >>= λ h. bidegrees_of lim n h.weights X) (read_steady lim bytes) λ X.
    bind_steady (λ n. head lim bytes) (λ n h. bidegrees_of lim n h.weights X) (steady_fixed finished? (head lim bytes)) λ h.
    bidegrees_of_steady lim h.weights X)
