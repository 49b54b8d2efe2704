-- The plain reckoning: the lifting of a monomial, by recursion along the order, and the vector of a frame term.
use Rattle.std.specs.Prelude.{◌≡◌, ◌⊎◌, [], ◌∷◌, ◌++◌, ℕ, ◌≤◌}
use Rattle.std.proofs.Math.Path.{refl, ap}
use Rattle.std.proofs.Common.{◌∙◌, subst, inl, inr}
use mathlib.Core.WellFounded.{fix, fix-eq}
use Rattle.theory.specs.Laws.{Scalars, Monoid, Level}
use Rattle.theory.specs.Vec.{Vec, scale, mapB, lin, All, times}
use Rattle.theory.specs.Induced.{image}
use Rattle.theory.specs.Syzygy.{Family, In}

-- lin of a function that is there only where P holds
abbrev pub lin_where : (S : Scalars) {B C : Type 0} (P : B → Type 0) → ((b : B) → P b → Vec S C) → (v : Vec S B) → All S P v → Vec S C
lin_where S P h [] ps = []
lin_where S P h (t ∷ v) ps = scale S t.0 (h t.1 ps.0) ++ lin_where S P h v ps.1

module _ (S : Scalars) {M : Monoid} (L : Level M) (F : Family S L) where
  open M use {E}
  open L use {B, act, Lt}
  open F use {f, lm, lead}

  -- ## Reducers

  -- the element whose leading monomial divides b, the lowest such number
  pub record Reducer (b : B) : Type 0 where
    pub at : E × ℕ
    pub dom : In S L F at
    pub hits : image L lm at ≡ b
    pub lowest : (y : E × ℕ) → In S L F y → image L lm y ≡ b → at.1 ≤ y.1

  -- no leading monomial divides b
  abbrev pub Lower : B → Type 0
  Lower b = (y : E × ℕ) → In S L F y → image L lm y ≡ b → ⊥

  -- of each monomial it is known which
  abbrev pub Reducers : Type 0
  Reducers = (b : B) → Reducer b ⊎ Lower b

  -- q · f_j leads with b; −1/LC f_j
  abbrev pub turned : {b : B} → Reducer b → S.K
  turned r = S.neg (S.inv (lead r.at.1 r.dom).coef)

  -- the terms of −q · f_j other than −b
  abbrev pub others : {b : B} → Reducer b → Vec S B
  others r = scale S (turned r) (mapB S (act r.at.0) (lead r.at.1 r.dom).rest)

  pub others_small : {b : B} (r : Reducer b) → All S (λ (x : B). Lt x b) (others r)
  others_small {b} r = scaled (lead r.at.1 r.dom).rest (lead r.at.1 r.dom).smaller
    where
      scaled : (v : Vec S B) → All S (λ (x : B). Lt x (lm r.at.1)) v
          → All S (λ (x : B). Lt x b) (scale S (turned r) (mapB S (act r.at.0) v))
      scaled [] ps = tt
      scaled (t ∷ v) ps = (subst (λ z. Lt (act r.at.0 t.1) z) r.hits (L.compat r.at.0 _ _ ps.0), scaled v ps.1)

  -- ## The lifting

  module _ (reducer : Reducers) where
    abbrev pub lift_by : (b : B) → ((y : B) → Lt y b → Vec S (E × ℕ)) → Reducer b ⊎ Lower b → Vec S (E × ℕ)
    lift_by b rec (inl r) = (turned r, r.at) ∷ lin_where S (λ (x : B). Lt x b) rec (others r) (others_small r)
    lift_by b rec (inr n) = []

    -- the lifting of a monomial with coefficient 1; that of a vector is lin S lift
    pub lift : B → Vec S (E × ℕ)
    lift = fix L.wf (λ b rec. lift_by b rec (reducer b))

    -- "A term of lower order lifts to zero; any other to −q · e_j plus the liftings of the other terms of −q · f_j"
    abbrev pub lift_as : (b : B) → Reducer b ⊎ Lower b → Vec S (E × ℕ)
    lift_as b (inl r) = (turned r, r.at) ∷ lin S lift (others r)
    lift_as b (inr n) = []

    lin_whole : (P : B → Type 0) (v : Vec S B) (ps : All S P v) → lin_where S P (λ y p. lift y) v ps ≡ lin S lift v
    lin_whole P [] ps = refl
    lin_whole P (t ∷ v) ps = ap (λ z. scale S t.0 (lift t.1) ++ z) (lin_whole P v ps.1)

    -- the reckoning's own equation
    pub lift_eq : (b : B) → lift b ≡ lift_as b (reducer b)
    unfolding lift
    lift_eq b = fix-eq L.wf (λ b rec. lift_by b rec (reducer b)) b ∙ go (reducer b)
      where
        go : (c : Reducer b ⊎ Lower b) → lift_by b (λ y p. lift y) c ≡ lift_as b c
        go (inl r) = ap (λ z. (turned r, r.at) ∷ z) (lin_whole (λ (x : B). Lt x b) (others r) (others_small r))
        go (inr n) = refl

    -- the vector of the frame term m · e_i: m · e_i plus the liftings of the terms of m · f_i
    abbrev pub reckon : E × ℕ → Vec S (E × ℕ)
    reckon x = (S.𝟙, x) ∷ lin S lift (times S L f x)
