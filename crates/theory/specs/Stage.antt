-- A stage: a finite family over a level, the reducer of each monomial, and a frame, held as a list. The vectors of the level above it.
use Rattle.std.specs.Prelude.{◌≡◌, ◌⊎◌, List, ℕ, ◌<◌, get_or, length}
use Rattle.theory.specs.Laws.{Scalars, Monoid, Level}
use Rattle.theory.specs.Vec.{Vec, Lead}
use Rattle.theory.specs.Induced.{image}
use Rattle.theory.specs.Syzygy.{Family, Free, Covered, Frame}
use Rattle.theory.specs.Reckon.{Reducers, reckon}

-- f_0 .. f_{r-1}
pub record Finite (S : Scalars) {M : Monoid} (L : Level M) : Type 1 where
  pub f : ℕ → Vec S L.B
  pub lm : ℕ → L.B
  pub count : ℕ
  pub lead : (j : ℕ) → j < count → Lead S L (f j) (lm j)

abbrev pub family : (S : Scalars) {M : Monoid} (L : Level M) → Finite S L → Family S L
family S L A = record { f = A.f; lm = A.lm; Dom = λ (j : ℕ). j < A.count; lead = A.lead }

-- term k of a list of module monomials
abbrev pub term_at : (M : Monoid) → List (M.E × ℕ) → ℕ → M.E × ℕ
term_at M ts k = get_or ts k (M.ε, 0)

module _ (S : Scalars) {M : Monoid} (L : Level M) (A : Finite S L) where
  -- t has the image of a module monomial with a lower number
  abbrev pub Real : M.E × ℕ → Type 0
  Real t = (t.1 < A.count) × ((z : M.E × ℕ) × (z.1 < t.1) × (image L A.lm z ≡ image L A.lm t))

  -- a list of terms that is a frame: it covers what is not free, and nothing else
  pub record Framed : Type 0 where
    pub terms : List (M.E × ℕ)
    pub covers : (b : M.E × ℕ) → b.1 < A.count
        → Covered S L (family S L A) (term_at M terms) (λ (k : ℕ). k < length terms) b ⊎ Free S L (family S L A) b
    pub real : (k : ℕ) → k < length terms → Real (term_at M terms k)

pub record Stage (S : Scalars) (M : Monoid) : Type 1 where
  pub L : Level M
  pub A : Finite S L
  pub reducer : Reducers S L (family S L A)
  pub framed : Framed S L A

module _ (S : Scalars) {M : Monoid} (G : Stage S M) where
  abbrev pub fam : Family S G.L
  fam = family S G.L G.A

  -- frame term k; how many there are
  abbrev pub term : ℕ → M.E × ℕ
  term k = term_at M G.framed.terms k

  abbrev pub size : ℕ
  size = length G.framed.terms

  abbrev pub frame : Frame S G.L fam
  frame = record { τ = term; Dom' = λ (k : ℕ). k < size; frame = G.framed.covers }

  -- the reckoning's vector of a module monomial
  abbrev pub reckoned : M.E × ℕ → Vec S (M.E × ℕ)
  reckoned x = reckon S G.L fam G.reducer x
