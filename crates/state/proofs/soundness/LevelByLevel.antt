-- Levels that pass the test, from level 0 upwards.
use mathlib.Core.Path.{◌≡◌, sym, subst}
use mathlib.Core.Bool.{Bool, false}
use Prim.Native.Nat.{ℕ, zero, suc, ◌+◌, ◌<◌, ◌≤◌}
use native.Mathlib.Omega.{arith}
use native.Mathlib.Decide.{ℕ_discrete}
use lib.Dec.{T}
use Rattle.definitions.specs.Limits.{document_01}
use Rattle.definitions.specs.Layout.{Words, levels_at}
use Rattle.laws.proofs.Tests.{and_left, and_right, and_both, false_is}
use Rattle.orders.specs.Levels.{images}
use Rattle.state.specs.soundness.Holding.{level_test?, levels_hold?}

-- level k over its own table
abbrev pub own_test? : Words → ℕ → Bool
own_test? s k = level_test? s k (images (levels_at document_01 s k))

pub climb_one : (s : Words) (k : ℕ) → T (levels_hold? s k) → T (own_test? s k) → T (levels_hold? s (k + 1))
climb_one s k t u = let z : suc k ≡ k + 1 = omega arith in subst (λ n. T (levels_hold? s n)) z (and_both (levels_hold? s k) (own_test? s k) t u)

pub climbed : (s : Words) (h : ℕ) → T (levels_hold? s h) → (k : ℕ) → k < h → T (own_test? s k)
climbed s zero t k l = absurd (omega arith)
climbed s (suc h) t k l = go (ℕ_discrete k h) (climbed s h (and_left (levels_hold? s h) (own_test? s h) t) k)
  where
    go : Dec (k ≡ h) → (k < h → T (own_test? s k)) → T (own_test? s k)
    go (yes e) r = subst (λ j. T (own_test? s j)) (sym e) (and_right (levels_hold? s h) (own_test? s h) t)
    go (no e) r = r (omega arith)

pub climb_fails : (s : Words) (h k : ℕ) → k < h → own_test? s k ≡ false → levels_hold? s h ≡ false
climb_fails s h k l e = false_is (levels_hold? s h) (λ t. subst T e (climbed s h t k l))

-- up to any level below
pub climbed_to : (s : Words) (h : ℕ) → T (levels_hold? s h) → (k : ℕ) → k ≤ h → T (levels_hold? s k)
climbed_to s h t zero l = tt
climbed_to s h t (suc k) l = and_both (levels_hold? s k) (own_test? s k) (climbed_to s h t k (omega arith)) (climbed s h t k l)
