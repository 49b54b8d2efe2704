-- The canonical form of a vector: equal monomials combined, zero terms left out, descending.
use Rattle.std.specs.Prelude.{◌≡◌, [], ◌∷◌}
use Rattle.theory.specs.Laws.{Scalars, Monoid, Level, Tri, below, same, above}
use Rattle.theory.specs.Vec.{Vec, All}

module _ (S : Scalars) {M : Monoid} (L : Level M) where
  open S use {K, add, mul, 𝟘, 𝟙}
  open L use {B, Lt}

  abbrev pub keep_by : (c : K) → B → Vec S B → Dec (mul 𝟙 c ≡ 𝟘) → Vec S B
  keep_by c m v (yes z) = v
  keep_by c m v (no n) = (mul 𝟙 c, m) ∷ v

  -- a term, unless it is zero
  abbrev pub keep : K → B → Vec S B → Vec S B
  keep c m v = keep_by c m v (S.zero? c)

  abbrev pub put_by : (c : K) (m : B) (u : K × B) → Vec S B → Vec S B → Tri (Lt m u.1) (m ≡ u.1) (Lt u.1 m) → Vec S B
  put_by c m u v r (below l) = u ∷ r
  put_by c m u v r (same e) = keep (add c u.0) m v
  put_by c m u v r (above l) = keep c m (u ∷ v)

  -- a term into a descending vector
  abbrev pub put : K → B → Vec S B → Vec S B
  put c m [] = keep c m []
  put c m (u ∷ v) = put_by c m u v (put c m v) (L.tri m u.1)

  abbrev pub canon : Vec S B → Vec S B
  canon [] = []
  canon (t ∷ v) = put t.0 t.1 (canon v)

  -- descending, each coefficient reduced and not zero
  abbrev pub Canonical : Vec S B → Type 0
  Canonical [] = Unit {0}
  Canonical (t ∷ v) = (¬ (mul 𝟙 t.0 ≡ 𝟘)) × (mul 𝟙 t.0 ≡ t.0) × All S (λ (x : B). Lt x t.1) v × Canonical v
