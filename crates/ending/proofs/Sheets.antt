-- The sheet ends: for every file some bound makes it answer. Each level that hybrid lifts is descending again, so that the next one ends too.
use mathlib.Core.Bool.{Bool, true, false}
use mathlib.Core.Option.{Option}
use mathlib.Core.List.{List, [], ◌∷◌, ◌++◌}
use Prim.Native.Nat.{ℕ, zero, suc, ◌+◌, ◌-◌, ◌≤◌}
use lib.Dec.{T, leb}
use lib.ListN.{length}
use Rattle.definitions.specs.Limits.{Limits, with_working}
use Rattle.definitions.specs.Lists.{empty?}
use Rattle.definitions.specs.Monomial.{Monomial, Vector, Level}
use Rattle.definitions.specs.Order.{compare_over}
use Rattle.definitions.specs.Result.{Result, done, refused, unfinished, finished?, at_level, ◌>>=◌}
use Rattle.definitions.specs.Stage.{Stage, highest, stage_over, narrowed}
use Rattle.definitions.specs.Run.{run, hybrid_strategy}
use Rattle.definitions.specs.Tree.{Cache, Sum}
use Rattle.definitions.specs.Lifting.{by_hybrid, lift_one, Lifted, add_vector, with_vector, lift_all, limited_frame, lift_level, accept}
use Rattle.definitions.specs.Problem.{Bytes, problem}
use Rattle.definitions.specs.State.{State, up_to, sound?}
use Rattle.definitions.specs.Calls.{accepted, read, lift}
use Rattle.definitions.specs.Sheet.{level_lines, if_more, level_then, levels_from, variables_of, sheet_of, sheet}
use Rattle.laws.proofs.Members.{All, all_append}
use Rattle.laws.proofs.Modular.{Prime}
use Rattle.laws.proofs.Induced.{Shaped, compare_order}
use Rattle.laws.proofs.Results.{IfDone, if_done_bind, if_done_always}
use Rattle.laws.proofs.Reading.{basis_state, problem_sound}
use Rattle.laws.proofs.Steady.{Ends, answered?, ends_after, then_fixed_ends}
use Rattle.laws.proofs.Bound.{read_steady, lift_steady, level_then_steady, levels_from_steady, sheet_of_steady}
use Rattle.ending.specs.Well.{Descending, DescendingLevels, Bytewise}
use Rattle.ending.proofs.Picking.{picks_by_code}
use Rattle.ending.proofs.Soundness.{levels_lead, drop_descending, descending_well, sound_prime, sound_levels}
use Rattle.ending.proofs.Lifted.{run_descending}
use Rattle.ending.proofs.Levels.{limited_frame_shaped}
use Rattle.ending.proofs.Calls.{read_ends, lift_ends}

-- ## A lifted level

-- a way whose vectors have a property lifts a level of such vectors
module _ (S : Stage) (D : Vector → Type 0) (lift : Cache → Monomial → Result Sum)
    (h : (cache : Cache) (m : Monomial) → Shaped 8 m → IfDone (λ s. D s.0) (lift cache m)) where
  with_vector_all : (l : Lifted) → All D l.0 → (s : Sum) → D s.0 → IfDone (λ l'. All D l'.0) (with_vector S l s)
  with_vector_all l a s d = go (leb (l.1 + length s.0) S.reduction.limits.level_terms)
    where
      go : (b : Bool) → IfDone (λ l'. All D l'.0) (add_vector b l s.0)
      go true = all_append D l.0 (s.0 ∷ []) a (d, tt)
      go false = tt

  lift_all_all : (l : Lifted) → All D l.0 → (cache : Cache) (ms : List Monomial) → All (Shaped 8) ms → IfDone (All D) (lift_all S lift l cache ms)
  lift_all_all l a cache [] s = a
  lift_all_all l a cache (m ∷ ms) s =
      if_done_bind (λ v. D v.0) (All D) (lift cache m) (λ v. with_vector S l v >>= λ l'. lift_all S lift l' v.1 ms) (h cache m s.0) λ v d.
      if_done_bind (λ l'. All D l'.0) (All D) (with_vector S l v) (λ l'. lift_all S lift l' v.1 ms) (with_vector_all l a v d) λ l' a'.
      lift_all_all l' a' v.1 ms s.1

-- what hybrid lifts is descending in the induced order
pub hybrid_descending : (lim : Limits) (p code : ℕ) (below : List Level) → Prime p → lim.exponent ≤ 255 → DescendingLevels p code below → (pick w n : ℕ)
    → IfDone (All (Descending p (compare_over code below))) (lift_level lim p code below (by_hybrid pick w) n)
hybrid_descending lim p code below P l d pick w n =
    if_done_bind (All (Shaped 8)) (All D) (limited_frame lim code (highest below)) (λ ms. lift_all S (lift_one S (by_hybrid pick w) n) ([], 0) [] ms)
    (limited_frame_shaped lim p code below d) (lift_all_all S D (lift_one S (by_hybrid pick w) n) one ([], 0) tt [])
  where
    S : Stage
    S = stage_over lim p code below

    N : Stage
    N = narrowed w S

    D : Vector → Type 0
    D = Descending p (compare_over code below)

    one : (cache : Cache) (m : Monomial) → Shaped 8 m → IfDone (λ s. D s.0) (lift_one S (by_hybrid pick w) n cache m)
    one cache m s =
        if_done_bind D (λ s. D s.0) (run N (hybrid_strategy N pick) n m) (λ v. done (v, cache))
        (run_descending N (descending_well (with_working w lim) p code below P l d) (compare_order 8 code below (levels_lead p code below d)).orders
        (hybrid_strategy N pick) (picks_by_code S.below pick) m s n) (λ v k. k)

-- ## The next state

pub record DescendingState (X : State) : Type 0 where
  pub prime : Prime X.parameters.p
  pub levels : DescendingLevels X.parameters.p X.parameters.code X.levels

sound_descending : (lim : Limits) (X : State) → T (sound? lim X) → DescendingState X
sound_descending lim X s = record { prime = sound_prime lim X s; levels = sound_levels lim X s }

module _ (lim : Limits) (B : Bytewise lim) where
  lift_descending : (X : State) → DescendingState X → (k pick w n : ℕ) → IfDone DescendingState (lift lim n X k (by_hybrid pick w))
  lift_descending X d k pick w n =
      if_done_bind D DescendingState (at_level k lifted) (λ f. done (record { parameters = X.parameters; levels = f ∷ below }))
      (placed lifted (hybrid_descending lim X.parameters.p X.parameters.code below d.prime B.exponents under pick w n))
      (λ f h. record { prime = d.prime; levels = (h, under) })
    where
      below : List Level
      below = up_to X (k - 1)

      under : DescendingLevels X.parameters.p X.parameters.code below
      under = drop_descending X.parameters.p X.parameters.code (length X.levels - suc (k - 1)) X.levels d.levels

      lifted : Result Level
      lifted = lift_level lim X.parameters.p X.parameters.code below (by_hybrid pick w) n

      D : Level → Type 0
      D = All (Descending X.parameters.p (compare_over X.parameters.code below))

      placed : (x : Result Level) → IfDone D x → IfDone D (at_level k x)
      placed (done f) h = h
      placed (refused number place value) h = tt
      placed unfinished h = tt

  read_descending : (bytes : Bytes) (n : ℕ) → IfDone DescendingState (read lim n bytes)
  read_descending bytes n =
      if_done_bind (λ f. T (sound? lim (basis_state f))) DescendingState (problem lim bytes) (accepted lim n)
      (problem_sound lim B.variables bytes) λ f s.
      if_done_bind (λ u. Unit {0}) DescendingState (accept lim f.0.p f.0.code f.1 n) (λ u. done (basis_state f))
      (if_done_always (λ u. Unit {0}) (λ u. tt) (accept lim f.0.p f.0.code f.1 n)) (λ u v. sound_descending lim (basis_state f) s)

  -- ## The sheet

  levels_end : (left k : ℕ) (X : State) → DescendingState X → Ends answered? (λ b. levels_from lim b left k X)
  levels_end zero k X d = (0, tt)
  levels_end (suc left) k X d =
      ends_after finished? answered? (λ b x. level_then n k (more b) x) g (lift_steady lim X k (by_hybrid 2 lim.working))
      (level_then_steady n k more (levels_from_steady lim left (suc k)))
      ends (go (g ends.0) (lift_descending X d k 2 lim.working ends.0) ends.1 (levels_end left (suc k)))
    where
      n : ℕ
      n = X.parameters.n

      more : ℕ → State → Option Bytes
      more b Y = levels_from lim b left (suc k) Y

      g : ℕ → Result State
      g b = lift lim b X k (by_hybrid 2 lim.working)

      ends : Ends finished? g
      ends = lift_ends lim B X d.prime d.levels k (by_hybrid 2 lim.working)

      last : (f : Level) (b : Bool) (Y : State) → Ends answered? (λ b. more b Y) → Ends answered? (λ i. if_more b n k f (λ u. more i Y))
      last f true Y e = (0, tt)
      last f false Y e = then_fixed_ends (λ bytes. level_lines n k f ++ bytes) (λ b. more b Y) e

      go : (x : Result State) → IfDone DescendingState x → T (finished? x) → ((Y : State) → DescendingState Y → Ends answered? (λ b. more b Y))
          → Ends answered? (λ b. level_then n k (more b) x)
      go (done Y) h t ih = last (highest Y.levels) (empty? (highest Y.levels)) Y (ih Y h)
      go (refused number place value) h t ih = (0, tt)
      go unfinished h t ih = absurd t

  -- for every file some bound makes the sheet answer
  pub sheet_ends : (bytes : Bytes) → Ends answered? (λ b. sheet lim b bytes)
  sheet_ends bytes =
      ends_after finished? answered? (λ b x. sheet_of lim b n x) g (read_steady lim bytes) (sheet_of_steady lim n) ends
      (go (g ends.0) (read_descending bytes ends.0) ends.1)
    where
      n : ℕ
      n = variables_of (problem lim bytes)

      g : ℕ → Result State
      g b = read lim b bytes

      ends : Ends finished? g
      ends = read_ends lim B bytes

      go : (x : Result State) → IfDone DescendingState x → T (finished? x) → Ends answered? (λ b. sheet_of lim b n x)
      go (done X) h t = levels_end lim.levels 1 X h
      go (refused number place value) h t = (0, tt)
      go unfinished h t = absurd t
