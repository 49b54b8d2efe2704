-- What a sound state gives to a lifting: each complete level can be cut into its vectors, p is above 1.
use Prim.Native.Nat.{ℕ, zero, suc, ◌<◌, ◌≤◌}
use native.Mathlib.Omega.{arith}
use lib.Dec.{T, leb}
use lib.ListN.{length, get_or}
use Rattle.definitions.specs.Limits.{document_01}
use Rattle.definitions.specs.Field.{prime?}
use Rattle.definitions.specs.Layout.{Words, levels_at, holds_state?}
use Rattle.laws.proofs.Tests.{and_right}
use Rattle.definitions.specs.Places.{most_vectors, all_levels, state_length}
use Rattle.orders.specs.Levels.{images}
use Rattle.reducers.specs.tables.Cuts.{Cut}
use Rattle.state.specs.soundness.Places.{count_at, rows_from, ends_from}
use Rattle.state.proofs.soundness.TablesGrow.{test_cut}
use Rattle.state.proofs.soundness.LevelByLevel.{own_test?, climbed}
use Rattle.state.proofs.soundness.StateTests.{holds_said}

above_one : (p : ℕ) → T (prime? p) → 1 < p
above_one zero t = absurd t
above_one (suc zero) t = absurd t
above_one (suc (suc p)) t = omega arith

module _ (s : Words) (long : state_length ≤ length s) (t : T (holds_state? document_01 s)) where
  pub height : get_or s 4 0 ≤ all_levels
  height = (holds_said s long t).1

  pub prime_above : 1 < get_or s 0 0
  prime_above = above_one (get_or s 0 0) (and_right (leb (get_or s 0 0) 65_535) (prime? (get_or s 0 0)) (holds_said s long t).2)

  pub complete_test : (k : ℕ) → k < get_or s 4 0 → T (own_test? s k)
  complete_test k h = climbed s (get_or s 4 0) (holds_said s long t).4 k h

  pub complete_cut : (k : ℕ) → k < get_or s 4 0 → (count_at s k ≤ most_vectors) × Cut (count_at s k) (rows_from s k) (ends_from s k)
  complete_cut k h = test_cut s long k (images (levels_at document_01 s k)) (omega (arith, height)) (complete_test k h)
