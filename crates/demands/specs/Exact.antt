-- What is claimed of the value that 9 leaves, and of levels.
use Rattle.std.specs.Prelude.{◌≡◌, List, [], ◌∷◌, ℕ, ◌<◌, ◌≤◌, T, length, get_or}
use Rattle.std.proofs.Math.Option.{some}
use Rattle.definitions.specs.Limits.{Limits}
use Rattle.definitions.specs.Lists.{every}
use Rattle.definitions.specs.Monomial.{Monomial, Vector, Level, leading_term, leading, leading_monomials}
use Rattle.definitions.specs.Order.{compare_over}
use Rattle.definitions.specs.Vectors.{strictly_descending?}
use Rattle.definitions.specs.Frame.{frame}
use Rattle.definitions.specs.Stage.{highest}
use Rattle.definitions.specs.Problem.{Parameters}
use Rattle.definitions.specs.State.{term_sound?}
use Rattle.definitions.specs.Reckoning.{Reckoning, reckoned}
use Rattle.demands.specs.Notions.{Zero, Combination, Syzygy, Leads, Divided, GröbnerBasis}

-- "9 leaves .. the value where division stopped": of the file's module, a combination of the elements, not zero, descending, and its leading monomial
-- has no reducer
pub record ShowsWhy (lim : Limits) (q : Parameters) (f : Level) (value : Vector) : Type 0 where
  -- coefficients 1 to p − 1, components 1 to s, exponents in range and zero past n
  pub sound : T (every (term_sound? lim q q.s) value)
  pub short : length value ≤ lim.working
  pub combination : Combination q f value
  pub not_zero : ¬ (Zero q.p value)
  pub descends : T (strictly_descending? (compare_over q.code []) value)
  pub leads : Leads (compare_over q.code []) q.p (leading value) value
  pub undivided : ¬ (Divided f (leading value))

-- a vector over the levels below, with its frame term m: it maps to zero, and m stands in front
pub record VectorRight (q : Parameters) (below : List Level) (m : Monomial) (v : Vector) : Type 0 where
  pub syzygy : Syzygy q (highest below) v
  pub in_front : leading_term v ≡ (1, m)
  pub leads : Leads (compare_over q.code below) q.p m v
  pub descends : T (strictly_descending? (compare_over q.code below) v)

-- a level over the levels below: a vector for each frame term; every syzygy, of any degree, is a combination of them; a Gröbner basis for the induced
-- order
pub record LevelRight (q : Parameters) (code : ℕ) (below : List Level) (f : Level) : Type 0 where
  pub count : length f ≡ length (frame code (leading_monomials (highest below)))
  pub vectors : (k : ℕ) → k < length f → VectorRight q below (get_or (frame code (leading_monomials (highest below))) k ([], 0)) (get_or f k [])
  pub generate : (c : Vector) → Syzygy q (highest below) c → Combination q f c
  pub basis : GröbnerBasis q below f

abbrev pub Exact : Limits → Parameters → List Level → Type 0
Exact lim q [] = Unit {0}
Exact lim q (f ∷ []) = GröbnerBasis q [] f
Exact lim q (f ∷ g ∷ below) = LevelRight q (lim.numbering q.code) (g ∷ below) f × Exact lim q (g ∷ below)

-- the reckoning's levels; the bound only says that the depth of its recursion was reached
abbrev pub Reckons : Limits → Reckoning → List Level → Type 0
Reckons lim R levels = (bound : ℕ) × (reckoned lim bound R ≡ some levels)
