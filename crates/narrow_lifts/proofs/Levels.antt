-- A level lifted by hybrid in less room, until 14 comes.
use mathlib.Core.List.{List, [], ◌∷◌}
use Prim.Native.Nat.{ℕ, ◌-◌, ◌≤◌}
use Rattle.definitions.specs.Limits.{Limits}
use Rattle.definitions.specs.Monomial.{Monomial, Level}
use Rattle.definitions.specs.Result.{done, ◌>>=◌}
use Rattle.definitions.specs.Stage.{Stage, highest, stage_over}
use Rattle.definitions.specs.Run.{hybrid_strategy}
use Rattle.definitions.specs.Tree.{Cache}
use Rattle.definitions.specs.Lifting.{by_hybrid, lift_one, Lifted, with_vector, lift_all, limited_frame, lift_level}
use Rattle.definitions.specs.State.{State, up_to}
use Rattle.definitions.specs.Calls.{lift}
use Rattle.narrow_lifts.specs.Rooms.{Until14, same}
use Rattle.narrow_lifts.proofs.Until.{until_then, until_map, until_level}
use Rattle.narrow_lifts.proofs.Runs.{run_until}

module _ (pick w w' : ℕ) (l : w ≤ w') (n : ℕ) where
  one_until : (S : Stage) (cache : Cache) (m : Monomial) → Until14 0 (lift_one S (by_hybrid pick w) n cache m) (lift_one S (by_hybrid pick w') n cache m)
  one_until S cache m = until_map (run_until S (hybrid_strategy S pick) w w' l n m) (λ v. done (v, cache))

  all_until : (S : Stage) (f : Lifted) (cache : Cache) (ms : List Monomial)
      → Until14 0 (lift_all S (lift_one S (by_hybrid pick w) n) f cache ms) (lift_all S (lift_one S (by_hybrid pick w') n) f cache ms)
  all_until S f cache [] = same
  all_until S f cache (m ∷ ms) =
      until_then (one_until S cache m) (λ s. with_vector S f s >>= λ f'. lift_all S (lift_one S (by_hybrid pick w) n) f' s.1 ms)
      (λ s. with_vector S f s >>= λ f'. lift_all S (lift_one S (by_hybrid pick w') n) f' s.1 ms) λ s.
      until_then {x = with_vector S f s} same (λ f'. lift_all S (lift_one S (by_hybrid pick w) n) f' s.1 ms)
      (λ f'. lift_all S (lift_one S (by_hybrid pick w') n) f' s.1 ms) (λ f'. all_until S f' s.1 ms)

  level_until : (lim : Limits) (p code : ℕ) (below : List Level)
      → Until14 0 (lift_level lim p code below (by_hybrid pick w) n) (lift_level lim p code below (by_hybrid pick w') n)
  level_until lim p code below =
      let S = stage_over lim p code below in
      until_then {x = limited_frame lim code (highest below)} same (λ ms. lift_all S (lift_one S (by_hybrid pick w) n) ([], 0) [] ms)
      (λ ms. lift_all S (lift_one S (by_hybrid pick w') n) ([], 0) [] ms) (λ ms. all_until S ([], 0) [] ms)

  pub lift_until : (lim : Limits) (X : State) (k : ℕ) → Until14 k (lift lim n X k (by_hybrid pick w)) (lift lim n X k (by_hybrid pick w'))
  lift_until lim X k =
      until_map (until_level k (level_until lim X.parameters.p X.parameters.code (up_to X (k - 1))))
      (λ f. done (record { parameters = X.parameters; levels = f ∷ up_to X (k - 1) }))
