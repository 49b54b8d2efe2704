-- What a walk over a slice comes to know of its words.
use mathlib.Core.Path.{◌≡◌, sym, subst, ap, ◌∙◌}
use Prim.Native.Nat.{ℕ, zero, suc, ◌+◌, ◌<◌, ◌≤◌}
use native.Mathlib.Omega.{arith}
use native.Mathlib.Decide.{ℕ_discrete}
use lib.Dec.{T, ltb, ltb→lt, nltb→le}
use mathlib.Core.Bool.{Bool, true, false, not}
use mathlib.Core.List.{[], ◌∷◌}
use lib.ListN.{length, get_or}
use Rattle.definitions.specs.Layout.{Words}
use Rattle.words.specs.Slices.{SixteenBits}

pub known_more : (s : Words) (i x : ℕ) → ((k : ℕ) → k < i → get_or s k 0 < 65536) → x ≡ get_or s i 0 → x < 65536 → (k : ℕ) → k < i + 1 → get_or s k 0 < 65536
known_more s i x h e l k m = go (ℕ_discrete k i)
  where
    go : Dec (k ≡ i) → get_or s k 0 < 65536
    go (yes q) = subst (λ y. y < 65536) (e ∙ ap (λ j. get_or s j 0) (sym q)) l
    go (no n) = h k (omega arith)

behind : (s : Words) (k : ℕ) → length s ≤ k → get_or s k 0 ≡ 0
behind [] k h = nothing k
  where
    nothing : (k : ℕ) → get_or {A = ℕ} [] k 0 ≡ 0
    nothing zero = mathlib.Core.Path.refl
    nothing (suc k) = mathlib.Core.Path.refl
behind (x ∷ s) zero h = absurd (omega arith)
behind (x ∷ s) (suc k) h = behind s k (omega arith)

pub known_all : (s : Words) (i : ℕ) → length s ≤ i → ((k : ℕ) → k < i → get_or s k 0 < 65536) → SixteenBits s
known_all s i l h k = go (ltb k i) (ltb→lt k i) (nltb→le k i)
  where
    go : (b : Bool) → (T b → k < i) → (T (not b) → i ≤ k) → get_or s k 0 < 65536
    go true f g = h k (f tt)
    go false f g = let m : i ≤ k = g tt in omega (arith, behind s k (omega arith))
