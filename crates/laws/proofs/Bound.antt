-- More steps change nothing: what finished within a bound is the same within every larger one. So "for some bound" determines the result.
use mathlib.Core.Path.{◌≡◌, refl}
use mathlib.Core.Bool.{Bool, true, false, not}
use mathlib.Core.Option.{Option, none, some}
use mathlib.Core.List.{List, [], ◌∷◌, ◌++◌}
use Prim.Native.Nat.{ℕ, zero, suc, ◌-◌}
use lib.Dec.{T}
use Rattle.definitions.specs.Limits.{Limits}
use Rattle.definitions.specs.Lists.{◌then◌, choose, empty?}
use Rattle.definitions.specs.Monomial.{Monomial, Level}
use Rattle.definitions.specs.Result.{Result, done, refused, unfinished, finished?, at_level, ◌>>=◌}
use Rattle.definitions.specs.Stage.{Stage, highest, stage_over, narrowed}
use Rattle.definitions.specs.Run.{Run, Strategy, Step, on, end, start, step, continued, runs, run, division_strategy, hybrid_strategy}
use Rattle.definitions.specs.Run.{accepting_strategy}
use Rattle.definitions.specs.Tree.{Cache, Sum}
use Rattle.definitions.specs.Lifting.{Lifting, by_division, by_hybrid, by_tree, lift_one, Lifted, with_vector, lift_all, limited_frame}
use Rattle.definitions.specs.Lifting.{lift_level, at_frame_term, accept_from, accept}
use Rattle.definitions.specs.Problem.{Bytes, Parameters, problem}
use Rattle.definitions.specs.State.{State, up_to}
use Rattle.definitions.specs.Calls.{Call, reading, lifting, fetching, refuse, settled, accepted, read, lift, eleven?, lifts?, read_reply}
use Rattle.definitions.specs.Calls.{lift_reply, call, calls}
use Rattle.definitions.specs.Layout.{Words, Lent, read_with, lift_with, fetch_with, division, lifting_by, long_enough?, meant, read_left}
use Rattle.definitions.specs.Layout.{lift_left, lent_call, lent_calls}
use Rattle.definitions.specs.Sheet.{level_lines, if_more, level_then, levels_from, variables_of, sheet_of, sheet}
use Rattle.laws.proofs.Steady.{Steady, steady_fixed, steady_after, answered?, bind_steady, bind_fixed, then_steady, then_fixed, result_steady}

-- ## Runs

pub runs_steady : (S : Stage) (W : Strategy) (r : Run) → Steady finished? (λ n. runs S W n r)
runs_steady S W r zero t = absurd t
runs_steady S W r (suc n) t = go (step S W r) (λ r'. runs_steady S W r' n) t
  where
    go : (s : Result Step) → ((r' : Run) → T (finished? (runs S W n r')) → runs S W (suc n) r' ≡ runs S W n r')
        → T (finished? (continued S (λ r'. runs S W n r') s)) → continued S (λ r'. runs S W (suc n) r') s ≡ continued S (λ r'. runs S W n r') s
    go (done (on r')) ih t = ih r' t
    go (done (end v)) ih t = refl
    go (refused number place value) ih t = refl
    go unfinished ih t = refl

pub run_steady : (S : Stage) (W : Strategy) (m : Monomial) → Steady finished? (λ n. run S W n m)
run_steady S W m = bind_steady (λ n. start S W m) (λ n r. runs S W n r) (steady_fixed finished? (start S W m)) (runs_steady S W)

-- ## Levels

pub lift_one_steady : (S : Stage) (way : Lifting) (cache : Cache) (m : Monomial) → Steady finished? (λ n. lift_one S way n cache m)
lift_one_steady S by_division cache m = bind_fixed (λ v. done (v, cache)) (λ n. run S (division_strategy S) n m) (run_steady S (division_strategy S) m)
lift_one_steady S (by_hybrid pick w) cache m =
    let N = narrowed w S in
    bind_fixed (λ v. done (v, cache)) (λ n. run N (hybrid_strategy N pick) n m) (run_steady N (hybrid_strategy N pick) m)
lift_one_steady S (by_tree room) cache m = steady_fixed finished? (lift_one S (by_tree room) 0 cache m)

-- what follows a lifted vector
pub later_steady : (S : Stage) (way : Lifting) (l : Lifted) (s : Sum) (ms : List Monomial)
    → ((l' : Lifted) → Steady finished? (λ n. lift_all S (lift_one S way n) l' s.1 ms))
    → Steady finished? (λ n. with_vector S l s >>= λ l'. lift_all S (lift_one S way n) l' s.1 ms)
later_steady S way l s ms k =
    bind_steady (λ n. with_vector S l s) (λ n l'. lift_all S (lift_one S way n) l' s.1 ms) (steady_fixed finished? (with_vector S l s)) k

pub lift_all_steady : (S : Stage) (way : Lifting) (l : Lifted) (cache : Cache) (ms : List Monomial)
    → Steady finished? (λ n. lift_all S (lift_one S way n) l cache ms)
lift_all_steady S way l cache [] = steady_fixed finished? (done l.0)
lift_all_steady S way l cache (m ∷ ms) =
    bind_steady (λ n. lift_one S way n cache m) (λ n s. with_vector S l s >>= λ l'. lift_all S (lift_one S way n) l' s.1 ms)
    (lift_one_steady S way cache m) λ s.
    later_steady S way l s ms λ l'. lift_all_steady S way l' s.1 ms

pub lift_level_steady : (lim : Limits) (p code : ℕ) (below : List Level) (way : Lifting) → Steady finished? (lift_level lim p code below way)
lift_level_steady lim p code below way =
    let S = stage_over lim p code below in
    bind_steady (λ n. limited_frame lim code (highest below)) (λ n ms. lift_all S (lift_one S way n) ([], 0) [] ms)
    (steady_fixed finished? (limited_frame lim code (highest below))) λ ms.
    lift_all_steady S way ([], 0) [] ms

-- ## Acceptance

pub accept_from_steady : (S : Stage) (i : ℕ) (ms : List Monomial) → Steady finished? (λ n. accept_from S n i ms)
accept_from_steady S i [] = steady_fixed finished? (done tt)
accept_from_steady S i (m ∷ ms) =
    bind_steady (λ n. at_frame_term i (run S (accepting_strategy S) n m)) (λ n v. accept_from S n (suc i) ms)
    (result_steady finished? (at_frame_term i) (λ t. t) (λ n. run S (accepting_strategy S) n m) (run_steady S (accepting_strategy S) m)) λ v.
    accept_from_steady S (suc i) ms

pub accept_steady : (lim : Limits) (p code : ℕ) (f : Level) → Steady finished? (accept lim p code f)
accept_steady lim p code f =
    let S = stage_over lim p code (f ∷ []) in
    bind_steady (λ n. limited_frame lim code f) (λ n ms. accept_from S n 1 ms) (steady_fixed finished? (limited_frame lim code f))
    (accept_from_steady S 1)

-- ## Calls

pub accepted_steady : (lim : Limits) (f : Parameters × Level) → Steady finished? (λ n. accepted lim n f)
accepted_steady lim f =
    bind_fixed (λ u. done (record { parameters = f.0; levels = f.1 ∷ [] })) (accept lim f.0.p f.0.code f.1)
    (accept_steady lim f.0.p f.0.code f.1)

pub read_steady : (lim : Limits) (bytes : Bytes) → Steady finished? (λ n. read lim n bytes)
read_steady lim bytes = bind_steady (λ n. problem lim bytes) (accepted lim) (steady_fixed finished? (problem lim bytes)) (accepted_steady lim)

pub lift_steady : (lim : Limits) (X : State) (k : ℕ) (way : Lifting) → Steady finished? (λ n. lift lim n X k way)
lift_steady lim X k way =
    let below = up_to X (k - 1) in
    let g = lift_level lim X.parameters.p X.parameters.code below way in
    bind_fixed (λ f. done (record { parameters = X.parameters; levels = f ∷ below })) (λ n. at_level k (g n))
    (result_steady finished? (at_level k) (λ t. t) g (lift_level_steady lim X.parameters.p X.parameters.code below way))

settled_steady : (g : ℕ → Result State) → Steady finished? g → Steady answered? (λ n. settled (g n))
settled_steady = result_steady answered? settled (λ t. t)

pub read_reply_steady : (lim : Limits) (X : State) (long : Bool) (bytes : Bytes) → Steady answered? (λ n. read_reply lim n X long bytes)
read_reply_steady lim X false bytes = steady_fixed answered? (some (refuse 16 X))
read_reply_steady lim X true bytes = settled_steady (λ n. read lim n bytes) (read_steady lim bytes)

pub lift_reply_steady : (lim : Limits) (X : State) (long : Bool) (k : ℕ) (way : Lifting) → Steady answered? (λ n. lift_reply lim n X long k way)
lift_reply_steady lim X false k way = steady_fixed answered? (some (refuse 16 X))
lift_reply_steady lim X true k way = eleven (eleven? lim X k (k - 1))
  where
    twelve : (b : Bool) → Steady answered? (λ n. choose (not b) (some (refuse 12 X)) (settled (lift lim n X k way)))
    twelve false = steady_fixed answered? (some (refuse 12 X))
    twelve true = settled_steady (λ n. lift lim n X k way) (lift_steady lim X k way)

    eleven : (b : Bool)
        → Steady answered? (λ n. choose b (some (refuse 11 X)) (choose (not (lifts? lim k way)) (some (refuse 12 X)) (settled (lift lim n X k way))))
    eleven true = steady_fixed answered? (some (refuse 11 X))
    eleven false = twelve (lifts? lim k way)

pub call_steady : (lim : Limits) (X : State) (c : Call) → Steady answered? (λ n. call lim n X c)
call_steady lim X (reading long bytes) = read_reply_steady lim X long bytes
call_steady lim X (lifting long k way) = lift_reply_steady lim X long k way
call_steady lim X (fetching long k v) = steady_fixed answered? (call lim 0 X (fetching long k v))

pub calls_steady : (lim : Limits) (X : State) (cs : List Call) → Steady answered? (λ n. calls lim n X cs)
calls_steady lim X [] = steady_fixed answered? (some [])
calls_steady lim X (c ∷ cs) =
    then_steady (λ n. call lim n X c) (λ n a. calls lim n a.state cs then λ replies. some (a ∷ replies)) (call_steady lim X c) λ a.
    then_fixed (λ replies. some (a ∷ replies)) (λ n. calls lim n a.state cs) (calls_steady lim a.state cs)

-- ## The sheet

module _ (n k : ℕ) (more : ℕ → State → Option Bytes) (m : (Y : State) → Steady answered? (λ b. more b Y)) where
  if_more_steady : (f : Level) (last : Bool) (Y : State) → Steady answered? (λ b. if_more last n k f (λ u. more b Y))
  if_more_steady f true Y = steady_fixed answered? (some (level_lines n k f))
  if_more_steady f false Y = then_fixed (λ bytes. some (level_lines n k f ++ bytes)) (λ b. more b Y) (m Y)

  -- the level's result is given
  pub level_then_steady : (x : Result State) → Steady answered? (λ b. level_then n k (more b) x)
  level_then_steady (done Y) = if_more_steady (highest Y.levels) (empty? (highest Y.levels)) Y
  level_then_steady (refused number place value) = steady_fixed answered? (level_then n k (more 0) (refused number place value))
  level_then_steady unfinished = steady_fixed answered? none

  level_then_strict : (b : ℕ) (x : Result State) → T (answered? (level_then n k (more b) x)) → T (finished? x)
  level_then_strict b (done Y) t = tt
  level_then_strict b (refused number place value) t = tt
  level_then_strict b unfinished t = t

  level_steady : (g : ℕ → Result State) → Steady finished? g → Steady answered? (λ b. level_then n k (more b) (g b))
  level_steady g s = steady_after finished? answered? (λ b x. level_then n k (more b) x) level_then_strict g s level_then_steady

pub levels_from_steady : (lim : Limits) (left k : ℕ) (X : State) → Steady answered? (λ b. levels_from lim b left k X)
levels_from_steady lim zero k X = steady_fixed answered? (some [])
levels_from_steady lim (suc left) k X =
    level_steady X.parameters.n k (λ b Y. levels_from lim b left (suc k) Y) (levels_from_steady lim left (suc k))
    (λ b. lift lim b X k (by_hybrid 2 lim.working)) (lift_steady lim X k (by_hybrid 2 lim.working))

-- what reading gave is given
pub sheet_of_steady : (lim : Limits) (n : ℕ) (x : Result State) → Steady answered? (λ b. sheet_of lim b n x)
sheet_of_steady lim n (done X) = levels_from_steady lim lim.levels 1 X
sheet_of_steady lim n (refused number place value) = steady_fixed answered? (sheet_of lim 0 n (refused number place value))
sheet_of_steady lim n unfinished = steady_fixed answered? none

pub sheet_steady : (lim : Limits) (bytes : Bytes) → Steady answered? (λ b. sheet lim b bytes)
sheet_steady lim bytes =
    steady_after finished? answered? (λ b x. sheet_of lim b n x) strict (λ b. read lim b bytes) (read_steady lim bytes) (sheet_of_steady lim n)
  where
    n : ℕ
    n = variables_of (problem lim bytes)

    strict : (b : ℕ) (x : Result State) → T (answered? (sheet_of lim b n x)) → T (finished? x)
    strict b (done Y) t = tt
    strict b (refused number place value) t = tt
    strict b unfinished t = t

-- ## Calls over lent buffers

pub lent_call_steady : (lim : Limits) (state : Words) (c : Lent) → Steady answered? (λ n. lent_call lim n state c)
lent_call_steady lim state (read_with file work) =
    let long = long_enough? lim division state work in
    then_fixed (λ a. some (record { number = a.0; place = a.1; state = a.2; out = [] }))
    (λ n. read_reply lim n (meant lim state) long file then λ a. some (read_left lim state work a))
    (then_fixed (λ a. some (read_left lim state work a)) (λ n. read_reply lim n (meant lim state) long file)
    (read_reply_steady lim (meant lim state) long file))
lent_call_steady lim state (lift_with k way work cache) =
    let long = long_enough? lim way state work in
    let by = lifting_by lim way work cache in
    then_fixed (λ a. some (record { number = a.0; place = a.1; state = a.2; out = [] }))
    (λ n. lift_reply lim n (meant lim state) long k by then λ a. some (lift_left lim state work cache a))
    (then_fixed (λ a. some (lift_left lim state work cache a)) (λ n. lift_reply lim n (meant lim state) long k by)
    (lift_reply_steady lim (meant lim state) long k by))
lent_call_steady lim state (fetch_with k v out) = steady_fixed answered? (lent_call lim 0 state (fetch_with k v out))

pub lent_calls_steady : (lim : Limits) (state : Words) (cs : List Lent) → Steady answered? (λ n. lent_calls lim n state cs)
lent_calls_steady lim state [] = steady_fixed answered? (some [])
lent_calls_steady lim state (c ∷ cs) =
    then_steady (λ n. lent_call lim n state c) (λ n a. lent_calls lim n a.state cs then λ lefts. some (a ∷ lefts))
    (lent_call_steady lim state c) λ a.
    then_fixed (λ lefts. some (a ∷ lefts)) (λ n. lent_calls lim n a.state cs) (lent_calls_steady lim a.state cs)
