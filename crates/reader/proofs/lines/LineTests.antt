-- Numbers of a line that are at most a limit, and the weights without a G line.
use mathlib.Core.Path.{◌≡◌, refl}
use mathlib.Core.List.{[], ◌∷◌}
use Prim.Native.Nat.{ℕ, zero, suc, ◌+◌, ◌*◌, ◌<◌, ◌≤◌}
use native.Mathlib.Omega.{arith}
use lib.Dec.{T, leb, leb→le}
use lib.ListN.{get_or, set, replicate}
use Rattle.definitions.specs.Monomial.{Exponents, fits?}
use Rattle.laws.proofs.Tests.{and_left, and_right}
use Rattle.definitions.specs.Places.{most_variables}
use Rattle.reader.specs.lines.Steps.{weights_words}

-- ## Degrees and weights

-- 1 and 0 for one variable more
pub plain_more : (j : ℕ) → j < most_variables → set (weights_words (replicate j (1, 0))) (2 * j) 1 ≡ weights_words (replicate (j + 1) (1, 0))
plain_more zero h = refl
plain_more (suc zero) h = refl
plain_more (suc (suc zero)) h = refl
plain_more (suc (suc (suc zero))) h = refl
plain_more (suc (suc (suc (suc zero)))) h = refl
plain_more (suc (suc (suc (suc (suc zero))))) h = refl
plain_more (suc (suc (suc (suc (suc (suc zero)))))) h = refl
plain_more (suc (suc (suc (suc (suc (suc (suc zero))))))) h = refl
plain_more (suc (suc (suc (suc (suc (suc (suc (suc j)))))))) h = absurd (omega arith)

-- each number is at most the limit, where they fit
pub fits_at : (limit : ℕ) (e : Exponents) (k : ℕ) → T (fits? limit e) → get_or e k 0 ≤ limit
fits_at limit [] zero t = omega arith
fits_at limit [] (suc k) t = omega arith
fits_at limit (x ∷ e) zero t = leb→le x limit (and_left (leb x limit) (fits? limit e) t)
fits_at limit (x ∷ e) (suc k) t = fits_at limit e k (and_right (leb x limit) (fits? limit e) t)
