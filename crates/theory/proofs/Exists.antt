-- Every level over exponents that can be divided has its reducers and its frame: the tower over any Gröbner basis.
use mathlib.Core.Bool.{Bool}
use Prim.Native.Nat.{ℕ}
use Rattle.theory.specs.Laws.{Scalars, Monoid}
use Rattle.theory.specs.Syzygy.{Gröbner}
use Rattle.theory.specs.Stage.{Stage, fam}
use Rattle.theory.specs.Division.{Division}
use Rattle.theory.proofs.Levels.{above, IndD}
use Rattle.theory.proofs.Search.{reducers}
use Rattle.theory.proofs.Frames.{framed}
use Rattle.theory.proofs.Tower.{next, Equipped, tower, tower_gröbner}

module _ (S : Scalars) {M : Monoid} (D : Division M) (ltb : M.E → M.E → Bool) where
  abbrev pub equipped : (G : Stage S M) → Equipped S G
  equipped G = (
    reducers S (above S G) (IndD D G.L G.A.lm) (next S G),
    framed D ltb S (above S G) (IndD D G.L G.A.lm) (next S G),
  )

  pub levels_gröbner : (G : Stage S M) → Gröbner S G.L (fam S G) → (k : ℕ) → Gröbner S (tower S equipped G k).L (fam S (tower S equipped G k))
  levels_gröbner G gb k = tower_gröbner S equipped G gb k
