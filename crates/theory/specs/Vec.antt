-- Vectors: lists of terms, a scalar and a monomial each. Their meaning is how they act on functions of the monomials.
use Rattle.std.specs.Prelude.{◌≡◌, List, [], ◌∷◌, ◌++◌, ℕ}
use Rattle.theory.specs.Laws.{Scalars, Monoid, Level}

module _ (S : Scalars) where
  open S use {K, add, mul, 𝟘, 𝟙}

  abbrev pub Vec : Type 0 → Type 0
  Vec B = List (K × B)

  -- Σ c · φ m over the terms c · m
  abbrev pub ev : {B : Type 0} → (B → K) → Vec B → K
  ev φ [] = 𝟘
  ev φ (t ∷ v) = add (mul t.0 (φ t.1)) (ev φ v)

  -- equal vectors act alike; where monomials can be told apart this says that their coefficients are equal (proofs/Coef)
  pub record Same {B : Type 0} (v w : Vec B) : Type 0 where
    pub at : (φ : B → K) → ev φ v ≡ ev φ w

  abbrev pub scale : {B : Type 0} → K → Vec B → Vec B
  scale c [] = []
  scale c (t ∷ v) = (mul c t.0, t.1) ∷ scale c v

  abbrev pub mapB : {B C : Type 0} → (B → C) → Vec B → Vec C
  mapB g [] = []
  mapB g (t ∷ v) = (t.0, g t.1) ∷ mapB g v

  -- the linear map that takes the monomial m to h m
  abbrev pub lin : {B C : Type 0} → (B → Vec C) → Vec B → Vec C
  lin h [] = []
  lin h (t ∷ v) = scale t.0 (h t.1) ++ lin h v

  -- every monomial of v has the property P
  abbrev pub All : {B : Type 0} → (B → Type 0) → Vec B → Type 0
  All P [] = Unit {0}
  All P (t ∷ v) = P t.1 × All P v

  module _ {M : Monoid} (L : Level M) where
    -- the multiple m · f_i of the module monomial m · e_i
    abbrev pub times : (ℕ → Vec L.B) → M.E × ℕ → Vec L.B
    times f x = mapB (L.act x.0) (f x.1)

    -- f_j put for e_j
    abbrev pub ψ : (ℕ → Vec L.B) → Vec (M.E × ℕ) → Vec L.B
    ψ f v = lin (times f) v

    -- c · m stands in front: the other terms are smaller
    pub record Lead (v : Vec L.B) (m : L.B) : Type 0 where
      pub coef : K
      pub rest : Vec L.B
      pub nonzero : ¬ (mul 𝟙 coef ≡ 𝟘)
      pub smaller : All (λ (x : L.B). L.Lt x m) rest
      pub split : Same v ((coef, m) ∷ rest)
