-- A family f_j with its leading monomials, its frame, and vectors s_k that lead with the frame's terms and map to zero.
use Rattle.std.specs.Prelude.{◌≡◌, ◌⊎◌, [], ◌∷◌, ℕ, ◌<◌}
use Rattle.theory.specs.Laws.{Scalars, Monoid, Level}
use Rattle.theory.specs.Vec.{Vec, Same, All, ψ, Lead}
use Rattle.theory.specs.Induced.{image, IndLt, indAct}

-- f_j for each j of Dom, with leading monomial lm j
pub record Family (S : Scalars) {M : Monoid} (L : Level M) : Type 1 where
  pub f : ℕ → Vec S L.B
  pub lm : ℕ → L.B
  pub Dom : ℕ → Type 0
  pub lead : (j : ℕ) → Dom j → Lead S L (f j) (lm j)

module _ (S : Scalars) {M : Monoid} (L : Level M) (F : Family S L) where
  -- m · e_i with i in range
  abbrev pub In : M.E × ℕ → Type 0
  In x = F.Dom x.1

  -- every combination of f is zero or has a leading monomial that some LM f_i divides
  abbrev pub Gröbner : Type 0
  Gröbner = (q : Vec S (M.E × ℕ)) → All S In q
      → Same S (ψ S L F.f q) [] ⊎ ((x : M.E × ℕ) × In x × Lead S L (ψ S L F.f q) (image L F.lm x))

  -- m · e_i maps to a leading monomial that no m' · e_j with j < i maps to
  abbrev pub Free : M.E × ℕ → Type 0
  Free b = (x : M.E × ℕ) → In x → x.1 < b.1 → image L F.lm x ≡ image L F.lm b → ⊥

  -- a term of the list τ divides b
  pub record Covered (τ : ℕ → M.E × ℕ) (Dom' : ℕ → Type 0) (b : M.E × ℕ) : Type 0 where
    pub number : ℕ
    pub dom : Dom' number
    pub factor : M.E
    pub divides : indAct L F.lm factor (τ number) ≡ b

  -- a frame: its terms generate the module monomials that are not free
  pub record Frame : Type 1 where
    pub τ : ℕ → M.E × ℕ
    pub Dom' : ℕ → Type 0
    pub frame : (b : M.E × ℕ) → In b → Covered τ Dom' b ⊎ Free b

  -- m stands in front of v, coefficient 1, the other terms smaller and in range
  pub record Ahead (m : M.E × ℕ) (v : Vec S (M.E × ℕ)) : Type 0 where
    pub rest : Vec S (M.E × ℕ)
    pub small : All S (λ (x : M.E × ℕ). In x × IndLt L F.lm x m) rest
    pub split : Same S v ((S.𝟙, m) ∷ rest)

  -- a vector for each frame term: the term stands in front, and the vector is a syzygy
  pub record Lifted (G : Frame) : Type 0 where
    pub s : ℕ → Vec S (M.E × ℕ)
    pub ahead : (k : ℕ) → G.Dom' k → Ahead (G.τ k) (s k)
    pub syzygy : (k : ℕ) → G.Dom' k → Same S (ψ S L F.f (s k)) []
