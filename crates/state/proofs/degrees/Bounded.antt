-- No degree that stands in a sound state is above what a vector can carry.
use mathlib.Core.List.{List, [], ◌∷◌}
use Prim.Native.Nat.{ℕ, zero, suc, ◌+◌, ◌*◌, ◌≤◌}
use native.Mathlib.Omega.{arith}
use lib.Dec.{T, leb, leb→le}
use lib.ListN.{length, get_or}
use Rattle.definitions.specs.Limits.{document_01}
use Rattle.definitions.specs.Monomial.{Level, fits?}
use Rattle.definitions.specs.Problem.{Parameters}
use Rattle.definitions.specs.State.{levels_sound?}
use Rattle.definitions.specs.Degrees.{degrees_of}
use Rattle.definitions.specs.Places.{most_degree}
use Rattle.laws.proofs.Tests.{and_left, and_right}
use Rattle.laws.proofs.Members.{All}
use Rattle.laws.proofs.Heights.{eight_most, Low, levels_low, degree_most}

abbrev pub Bounded : ℕ → List ℕ → Type 0
Bounded b l = (i : ℕ) → get_or l i 0 ≤ b

pub fits_bounded : (b : ℕ) (l : List ℕ) → T (fits? b l) → Bounded b l
fits_bounded b [] t zero = omega arith
fits_bounded b [] t (suc i) = omega arith
fits_bounded b (x ∷ l) t zero = leb→le x b (and_left (leb x b) (fits? b l) t)
fits_bounded b (x ∷ l) t (suc i) = fits_bounded b l (and_right (leb x b) (fits? b l) t) i

degrees_bounded : (d : List ℕ) → T (fits? most_degree d) → (below : List Level) → All (All Low) below → (f : Level) → All Low f
    → Bounded (suc (length below) * eight_most + most_degree) (degrees_of d below f)
degrees_bounded d t below h [] l zero = omega arith
degrees_bounded d t below h [] l (suc i) = omega arith
degrees_bounded d t below h (v ∷ f) l zero = degree_most d t below h v l.0
degrees_bounded d t below h (v ∷ f) l (suc i) = degrees_bounded d t below h f l.1 i

pub carried_bounded : (q : Parameters) (d : List ℕ) (f : Level) (below : List Level) → T (fits? most_degree d) → T (levels_sound? document_01 q (f ∷ below))
    → Bounded (suc (length below) * eight_most + most_degree) (degrees_of d below f)
carried_bounded q d f below h t = let l = levels_low document_01 (omega arith) q (f ∷ below) t in degrees_bounded d h below l.1 f l.0
