-- For every file some bound on the steps makes the page answer, and a larger one changes nothing.
use mathlib.Core.Bool.{Bool, true, false}
use mathlib.Core.Option.{Option, none, some}
use mathlib.Core.List.{◌++◌}
use Prim.Native.Nat.{ℕ, zero, suc}
use lib.Dec.{T}
use Rattle.definitions.specs.Limits.{Limits}
use Rattle.definitions.specs.Lists.{◌then◌, empty?}
use Rattle.definitions.specs.Monomial.{Level}
use Rattle.definitions.specs.Result.{Result, done, refused, unfinished, finished?, ◌>>=◌}
use Rattle.definitions.specs.Stage.{highest}
use Rattle.definitions.specs.Lifting.{by_hybrid}
use Rattle.definitions.specs.Problem.{Bytes, problem}
use Rattle.definitions.specs.State.{State}
use Rattle.definitions.specs.Calls.{read, lift}
use Rattle.definitions.specs.Sheet.{level_lines, if_more, level_then, levels_from, variables_of, sheet_of, sheet}
use Rattle.definitions.specs.Program.{unless_empty, lifted_from, lifted, printed_or_refused}
use Rattle.definitions.specs.Betti.{first_mixed, unless_mixed, same_degree?, homogeneous, betti_page, betti_of, betti}
use Rattle.laws.proofs.Steady.{answered?, Steady, steady_fixed, bind_steady, bind_fixed, result_steady}
use Rattle.laws.proofs.Bound.{read_steady, lift_steady}

-- ## A larger bound

pub lifted_steady : (lim : Limits) (left k : ℕ) (X : State) → Steady finished? (λ n. lifted_from lim n left k X)
lifted_steady lim zero k X = steady_fixed finished? (done X)
lifted_steady lim (suc left) k X =
    bind_steady (λ n. lift lim n X k (by_hybrid 2 lim.working))
    (λ n Y. unless_empty (empty? (highest Y.levels)) Y (λ Z. lifted_from lim n left (suc k) Z))
    (lift_steady lim X k (by_hybrid 2 lim.working)) (λ Y. next (empty? (highest Y.levels)) Y (lifted_steady lim left (suc k) Y))
  where
    next : (b : Bool) (Y : State) → Steady finished? (λ n. lifted_from lim n left (suc k) Y)
        → Steady finished? (λ n. unless_empty b Y (λ Z. lifted_from lim n left (suc k) Z))
    next true Y s = steady_fixed finished? (done Y)
    next false Y s = s

pub betti_of_steady : (lim : Limits) (X : State) → Steady finished? (λ n. betti_of lim n X)
betti_of_steady lim X =
    bind_steady (λ n. homogeneous X) (λ n u. lifted lim n X >>= λ Y. done (betti_page Y)) (steady_fixed finished? (homogeneous X)) λ u.
    bind_fixed (λ Y. done (betti_page Y)) (λ n. lifted lim n X) (lifted_steady lim lim.levels 1 X)

pub betti_steady : (lim : Limits) (bytes : Bytes) → Steady answered? (λ n. betti lim n bytes)
betti_steady lim bytes =
    result_steady answered? (printed_or_refused (variables_of (problem lim bytes))) (λ t. t) (λ n. read lim n bytes >>= betti_of lim n)
    (bind_steady (λ n. read lim n bytes) (betti_of lim) (read_steady lim bytes) (betti_of_steady lim))

-- ## A bound that suffices for the sheet suffices for the page

module _ (lim : Limits) (n : ℕ) where
  then_answered : {A B : Type 0} (f : A → B) (x : Option A) → T (answered? (x then λ a. some (f a))) → T (answered? x)
  then_answered f none t = t
  then_answered f (some a) t = tt

  lifted_ends : (left k : ℕ) (X : State) → T (answered? (levels_from lim n left k X)) → T (finished? (lifted_from lim n left k X))
  lifted_ends zero k X t = tt
  lifted_ends (suc left) k X t = go (lift lim n X k (by_hybrid 2 lim.working)) t (lifted_ends left (suc k))
    where
      next : (b : Bool) (f : Level) (Y : State) → T (answered? (if_more b X.parameters.n k f (λ u. levels_from lim n left (suc k) Y)))
          → (T (answered? (levels_from lim n left (suc k) Y)) → T (finished? (lifted_from lim n left (suc k) Y)))
          → T (finished? (unless_empty b Y (λ Z. lifted_from lim n left (suc k) Z)))
      next true f Y t ih = tt
      next false f Y t ih = ih (then_answered (λ bytes. level_lines X.parameters.n k f ++ bytes) (levels_from lim n left (suc k) Y) t)

      go : (x : Result State) → T (answered? (level_then X.parameters.n k (λ Y. levels_from lim n left (suc k) Y) x))
          → ((Y : State) → T (answered? (levels_from lim n left (suc k) Y)) → T (finished? (lifted_from lim n left (suc k) Y)))
          → T (finished? (x >>= λ Y. unless_empty (empty? (highest Y.levels)) Y (λ Z. lifted_from lim n left (suc k) Z)))
      go (done Y) t ih = next (empty? (highest Y.levels)) (highest Y.levels) Y t (ih Y)
      go (refused number place value) t ih = tt
      go unfinished t ih = t

  paged_ends : (v : ℕ) (X : State) → T (finished? (lifted lim n X)) → T (answered? (printed_or_refused v (betti_of lim n X)))
  paged_ends v X t = go (first_mixed (same_degree? X.parameters.degrees) 1 (highest X.levels)) (lifted lim n X) t
    where
      go : (o : Option ℕ) (x : Result State) → T (finished? x)
          → T (answered? (printed_or_refused v (unless_mixed o 17 >>= λ u. x >>= λ Y. done (betti_page Y))))
      go none (done Y) t = tt
      go none (refused number place value) t = tt
      go none unfinished t = t
      go (some i) x t = tt

  pub betti_ends : (bytes : Bytes) → T (answered? (sheet lim n bytes)) → T (answered? (betti lim n bytes))
  betti_ends bytes = go (read lim n bytes)
    where
      v : ℕ
      v = variables_of (problem lim bytes)

      go : (x : Result State) → T (answered? (sheet_of lim n v x)) → T (answered? (printed_or_refused v (x >>= betti_of lim n)))
      go (done X) t = paged_ends v X (lifted_ends lim.levels 1 X t)
      go (refused number place value) t = tt
      go unfinished t = t
