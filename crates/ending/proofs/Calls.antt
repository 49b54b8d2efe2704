-- Every call ends: for every file, every state and every call some bound makes it answer. What is asked of the limits is that exponents fit 255
-- and that there are at most eight variables.
use mathlib.Core.Bool.{Bool, true, false, not, ◌||◌}
use mathlib.Core.Option.{some}
use mathlib.Core.List.{List, [], ◌∷◌}
use Prim.Native.Nat.{ℕ, suc, ◌-◌}
use lib.Dec.{T, lit≤}
use lib.ListN.{length}
use Rattle.definitions.specs.Limits.{Limits, document_01}
use Rattle.definitions.specs.Lists.{◌and◌, ◌then◌, choose, between}
use Rattle.definitions.specs.Monomial.{Level}
use Rattle.definitions.specs.Result.{Result, done, refused, unfinished, finished?, at_level}
use Rattle.definitions.specs.Lifting.{Lifting, lift_level, accept}
use Rattle.definitions.specs.Problem.{Bytes, problem}
use Rattle.definitions.specs.State.{State, has_level?, up_to, sound?}
use Rattle.definitions.specs.Calls.{Call, reading, lifting, fetching, refuse, settled, accepted, read, lift, lifts?, read_reply, lift_reply, call, calls}
use Rattle.definitions.specs.Layout.{Words, Lent, read_with, lift_with, fetch_with, division, lifting_by, long_enough?, meant, read_left, lift_left}
use Rattle.definitions.specs.Layout.{lent_call, lent_calls}
use Rattle.laws.proofs.Modular.{Prime}
use Rattle.laws.proofs.Reading.{basis_state, problem_sound}
use Rattle.laws.proofs.Finished.{problem_finished}
use Rattle.laws.proofs.Steady.{Ends, steady_fixed, answered?, bind_ends, bind_fixed_ends, then_fixed, then_ends, then_fixed_ends}
use Rattle.laws.proofs.Bound.{accepted_steady, call_steady, calls_steady, lent_call_steady, lent_calls_steady}
use Rattle.ending.specs.Well.{DescendingLevels, Bytewise}
use Rattle.ending.proofs.Soundness.{drop_descending, sound_prime, sound_levels}
use Rattle.ending.proofs.Levels.{lift_level_ends, accept_ends}

pub document_01_bytewise : Bytewise document_01
document_01_bytewise = record { exponents = lit≤ tt; variables = lit≤ tt }

module _ (lim : Limits) (B : Bytewise lim) where
  -- ## Reading

  pub read_ends : (bytes : Bytes) → Ends finished? (λ n. read lim n bytes)
  read_ends bytes =
      bind_ends (λ f. T (sound? lim (basis_state f))) (λ n. problem lim bytes) (accepted lim) (steady_fixed finished? (problem lim bytes))
      (accepted_steady lim)
      (λ n. problem_sound lim B.variables bytes) (0, problem_finished lim bytes) λ f s.
      bind_fixed_ends (λ u. done (basis_state f)) (accept lim f.0.p f.0.code f.1)
      (accept_ends lim f.0.p f.0.code f.1 (sound_prime lim (basis_state f) s) B.exponents (sound_levels lim (basis_state f) s)) (λ u. tt)

  -- ## Lifting

  -- a prime and descending levels, as the next levels of a sheet have them
  pub lift_ends : (X : State) → Prime X.parameters.p → DescendingLevels X.parameters.p X.parameters.code X.levels
      → (k : ℕ) (way : Lifting) → Ends finished? (λ n. lift lim n X k way)
  lift_ends X P d k way =
      bind_fixed_ends (λ f. done (record { parameters = X.parameters; levels = f ∷ below })) (λ n. at_level k (g n))
      (ends.0, kept (g ends.0) ends.1) (λ f. tt)
    where
      below : List Level
      below = up_to X (k - 1)

      g : ℕ → Result Level
      g = lift_level lim X.parameters.p X.parameters.code below way

      ends : Ends finished? g
      ends = lift_level_ends lim X.parameters.p X.parameters.code below P B.exponents
          (drop_descending X.parameters.p X.parameters.code (length X.levels - suc (k - 1)) X.levels d) way

      kept : (x : Result Level) → T (finished? x) → T (finished? (at_level k x))
      kept (done f) t = tt
      kept (refused number place value) t = tt
      kept unfinished t = t

  pub sound_lift_ends : (X : State) → T (sound? lim X) → (k : ℕ) (way : Lifting) → Ends finished? (λ n. lift lim n X k way)
  sound_lift_ends X s = lift_ends X (sound_prime lim X s) (sound_levels lim X s)

  -- ## Calls

  settled_answers : (x : Result State) → T (finished? x) → T (answered? (settled x))
  settled_answers (done X) t = tt
  settled_answers (refused number place value) t = tt
  settled_answers unfinished t = t

  settled_ends : (g : ℕ → Result State) → Ends finished? g → Ends answered? (λ n. settled (g n))
  settled_ends g (n, t) = (n, settled_answers (g n) t)

  pub read_reply_ends : (X : State) (long : Bool) (bytes : Bytes) → Ends answered? (λ n. read_reply lim n X long bytes)
  read_reply_ends X false bytes = (0, tt)
  read_reply_ends X true bytes = settled_ends (λ n. read lim n bytes) (read_ends bytes)

  -- 11 refuses what is not sound
  pub lift_reply_ends : (X : State) (long : Bool) (k : ℕ) (way : Lifting) → Ends answered? (λ n. lift_reply lim n X long k way)
  lift_reply_ends X false k way = (0, tt)
  lift_reply_ends X true k way = eleven (sound? lim X) (λ s. s) (between 1 k lim.levels and not (has_level? X (k - 1)))
    where
      twelve : T (sound? lim X) → (b : Bool) → Ends answered? (λ n. choose (not b) (some (refuse 12 X)) (settled (lift lim n X k way)))
      twelve s false = (0, tt)
      twelve s true = settled_ends (λ n. lift lim n X k way) (sound_lift_ends X s k way)

      eleven : (sound : Bool) → (T sound → T (sound? lim X)) → (missing : Bool)
          → Ends answered? (λ n. choose (not sound || missing) (some (refuse 11 X))
          (choose (not (lifts? lim k way)) (some (refuse 12 X)) (settled (lift lim n X k way))))
      eleven false s missing = (0, tt)
      eleven true s true = (0, tt)
      eleven true s false = twelve (s tt) (lifts? lim k way)

  pub call_ends : (X : State) (c : Call) → Ends answered? (λ n. call lim n X c)
  call_ends X (reading long bytes) = read_reply_ends X long bytes
  call_ends X (lifting long k way) = lift_reply_ends X long k way
  call_ends X (fetching long k v) = (0, tt)

  pub calls_end : (X : State) (cs : List Call) → Ends answered? (λ n. calls lim n X cs)
  calls_end X [] = (0, tt)
  calls_end X (c ∷ cs) =
      then_ends (λ n. call lim n X c) (λ n a. calls lim n a.state cs then λ replies. some (a ∷ replies)) (call_steady lim X c)
      (λ a. then_fixed (λ replies. some (a ∷ replies)) (λ n. calls lim n a.state cs) (calls_steady lim a.state cs)) (call_ends X c) λ a.
      then_fixed_ends (λ replies. a ∷ replies) (λ n. calls lim n a.state cs) (calls_end a.state cs)

  -- ## Calls over lent buffers

  pub lent_call_ends : (state : Words) (c : Lent) → Ends answered? (λ n. lent_call lim n state c)
  lent_call_ends state (read_with file work) =
      let long = long_enough? lim division state work in
      then_fixed_ends (λ a. record { number = a.0; place = a.1; state = a.2; out = [] })
      (λ n. read_reply lim n (meant lim state) long file then λ a. some (read_left lim state work a))
      (then_fixed_ends (λ a. read_left lim state work a) (λ n. read_reply lim n (meant lim state) long file)
      (read_reply_ends (meant lim state) long file))
  lent_call_ends state (lift_with k way work cache) =
      let long = long_enough? lim way state work in
      let by = lifting_by lim way work cache in
      then_fixed_ends (λ a. record { number = a.0; place = a.1; state = a.2; out = [] })
      (λ n. lift_reply lim n (meant lim state) long k by then λ a. some (lift_left lim state work cache a))
      (then_fixed_ends (λ a. lift_left lim state work cache a) (λ n. lift_reply lim n (meant lim state) long k by)
      (lift_reply_ends (meant lim state) long k by))
  lent_call_ends state (fetch_with k v out) = (0, tt)

  pub lent_calls_end : (state : Words) (cs : List Lent) → Ends answered? (λ n. lent_calls lim n state cs)
  lent_calls_end state [] = (0, tt)
  lent_calls_end state (c ∷ cs) =
      then_ends (λ n. lent_call lim n state c) (λ n a. lent_calls lim n a.state cs then λ lefts. some (a ∷ lefts)) (lent_call_steady lim state c)
      (λ a. then_fixed (λ lefts. some (a ∷ lefts)) (λ n. lent_calls lim n a.state cs) (lent_calls_steady lim a.state cs))
      (lent_call_ends state c) λ a.
      then_fixed_ends (λ lefts. a ∷ lefts) (λ n. lent_calls lim n a.state cs) (lent_calls_end a.state cs)
