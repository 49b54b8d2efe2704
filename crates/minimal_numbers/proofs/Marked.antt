-- The numbers by one elimination for each column: a count less the rows marked in this column and in the next. Of any state.
use mathlib.Core.Path.{◌≡◌, ap₂}
use Prim.Native.Nat.{ℕ, suc, ◌+◌, ◌-◌}
use lib.Dec.{T, leb}
use Rattle.definitions.specs.Limits.{Limits}
use Rattle.definitions.specs.Field.{prime?}
use Rattle.definitions.specs.State.{State, sound?}
use Rattle.definitions.specs.Betti.{column_degrees, betti_count}
use Rattle.definitions.specs.Minimal.{minimal_number}
use Rattle.laws.proofs.Tests.{and_right}
use Rattle.laws.proofs.Sound.{sound_says}
use Rattle.ranks.specs.Blocks.{marked}
use Rattle.ranks.proofs.Ranks.{ranks_right}
use Rattle.minimal_numbers.proofs.Columns.{column_lengths}

module _ (X : State) where
  pub number_marked : T (prime? X.parameters.p) → (r c : ℕ)
      → minimal_number X (column_degrees X) r c
      ≡ betti_count (column_degrees X) r c - (marked X (column_degrees X) (r + c) c + marked X (column_degrees X) (r + c) (suc c))
  number_marked P r c =
      ap₂ (λ a b. betti_count (column_degrees X) r c - (a + b)) (ranks_right.leaving X (column_degrees X) P (column_lengths X) (r + c) c)
      (ranks_right.entering X (column_degrees X) P (column_lengths X) (r + c) c)

  pub sound_marked : (lim : Limits) → T (sound? lim X) → (r c : ℕ)
      → minimal_number X (column_degrees X) r c
      ≡ betti_count (column_degrees X) r c - (marked X (column_degrees X) (r + c) c + marked X (column_degrees X) (r + c) (suc c))
  sound_marked lim s =
      number_marked (and_right (leb X.parameters.p lim.prime_bound) (prime? X.parameters.p) (sound_says lim X s).prime)
