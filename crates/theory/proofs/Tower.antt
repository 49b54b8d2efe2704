-- The levels one above the other: over a Gröbner basis each is a Gröbner basis again, and lists all syzygies of the one below.
use mathlib.Core.Path.{◌≡◌, refl, sym, ap, ap₂, ◌∙◌, subst, subst₂}
use mathlib.Core.Logic.{◌⊎◌, inl, inr}
use mathlib.Core.List.{[], ◌∷◌, ◌++◌}
use Prim.Native.Nat.{ℕ, zero, suc, ◌<◌}
use native.Mathlib.Omega.{arith}
use Rattle.theory.specs.Laws.{Scalars, Monoid, Level}
use Rattle.theory.specs.Vec.{Vec, ev, Same, scale, mapB, All, times, ψ, Lead}
use Rattle.theory.specs.Induced.{image, indAct}
use Rattle.theory.specs.Syzygy.{Family, In, Ahead, Lifted, Gröbner}
use Rattle.theory.specs.Reckon.{Reducers}
use Rattle.theory.specs.Canon.{canon, Canonical}
use Rattle.theory.specs.Runs.{Run}
use Rattle.theory.specs.Stage.{Finite, family, Framed, Stage, fam, term, size, frame, reckoned}
use Rattle.theory.proofs.Levels.{Up, above, vector}
use Rattle.theory.proofs.Vec
use Rattle.theory.proofs.Top.{δ, lead_coef, lead_nonzero, lead_unique}
use Rattle.theory.proofs.Canon.{canon_same, canon_canonical, canon_all, canonical_is, canonical_lead, canon_unique}
use Rattle.theory.proofs.Basis.{combination_syzygy, is_basis_above, is_basis, syzygies}
use Rattle.theory.proofs.Runs.{run_reckons}
use Rattle.theory.proofs.Reckoning.{reckon_ahead, ahead_lead, ahead_coef, reckon_in, reckon_syzygy}

-- a canonical list that leads with m has m's term as its head
abbrev pub led : (S : Scalars) {M : Monoid} (L : Level M) (v : Vec S L.B) (m : L.B) → Canonical S L v → Lead S L v m → Lead S L v m
led S L [] m k l = absurd (lead_nonzero S L l (Vec.same_refl S))
led S L (t ∷ v) m k l =
    let e : t.1 ≡ m = lead_unique S L (canonical_lead S L t v k) l in
    record {
      coef = t.0;
      rest = v;
      nonzero = k.0;
      smaller = subst (λ z. All S (λ x. L.Lt x z) v) e k.2;
      split = subst (λ z. Same S (t ∷ v) ((t.0, z) ∷ v)) e (Vec.same_refl S);
    }

-- .. and if m stands in front with coefficient 1, its head is 1 · m
pub ahead_head : (S : Scalars) {M : Monoid} (L : Level M) (F : Family S L) (m : M.E × ℕ) (t : S.K × (M.E × ℕ)) (v : Vec S (M.E × ℕ))
    → Canonical S (Up S L F) (t ∷ v) → Ahead S L F m (t ∷ v) → t ≡ (S.𝟙, m)
ahead_head S {M} L F m t v k a = λ i. (coefficient i, monomial i)
  where
    l : Lead S (Up S L F) (t ∷ v) m
    l = ahead_lead S L F a

    monomial : t.1 ≡ m
    monomial = lead_unique S (Up S L F) (canonical_lead S (Up S L F) t v k) l

    coefficient : t.0 ≡ S.𝟙
    coefficient =
        sym k.1 ∙ sym (lead_coef S (Up S L F) (canonical_lead S (Up S L F) t v k)) ∙ ap (λ z. ev S (δ S (Up S L F) z) (t ∷ v)) monomial
        ∙ ahead_coef S L F a ∙ S.one_one

-- families that agree are Gröbner bases together
module _ (S : Scalars) {M : Monoid} (L : Level M) (F H : Family S L) (dom : (j : ℕ) → H.Dom j → F.Dom j)
    (same-f : (j : ℕ) → H.Dom j → F.f j ≡ H.f j) (same-lm : (j : ℕ) → F.Dom j → (H.Dom j) × (F.lm j ≡ H.lm j)) where
  pub ψ_agrees : (w : Vec S (M.E × ℕ)) → All S (In S L H) w → ψ S L F.f w ≡ ψ S L H.f w
  ψ_agrees [] h = refl
  ψ_agrees (t ∷ w) h = ap₂ (λ g z. scale S t.0 (mapB S (L.act t.1.0) g) ++ z) (same-f t.1.1 h.0) (ψ_agrees w h.1)

  pub gröbner_agrees : Gröbner S L F → Gröbner S L H
  gröbner_agrees gb w h = go (gb w (Vec.all_map S (In S L H) (In S L F) (λ x i. dom x.1 i) w h))
    where
      e : ψ S L F.f w ≡ ψ S L H.f w
      e = ψ_agrees w h

      go : Same S (ψ S L F.f w) [] ⊎ ((x : M.E × ℕ) × In S L F x × Lead S L (ψ S L F.f w) (image L F.lm x))
          → Same S (ψ S L H.f w) [] ⊎ ((x : M.E × ℕ) × In S L H x × Lead S L (ψ S L H.f w) (image L H.lm x))
      go (inl z) = inl (subst (λ v. Same S v []) e z)
      go (inr (x, i, l)) =
          let (j, k) = same-lm x.1 i in
          inr (x, j, subst₂ (Lead S L) e (ap (L.act x.0) k) l)

module _ (S : Scalars) {M : Monoid} (G : Stage S M) where
  open M use {E}

  abbrev F : Family S G.L
  F = fam S G

  abbrev Top : Level M
  Top = above S G

  -- ## Vectors

  pub vector_same : (k : ℕ) → Same S (vector S G k) (reckoned S G (term S G k))
  vector_same k = canon_same S Top (reckoned S G (term S G k))

  -- the frame term stands in front of its vector, whether or not f is a Gröbner basis
  pub vector_ahead : (k : ℕ) → k < size S G → Ahead S G.L F (term S G k) (vector S G k)
  vector_ahead k h = record { rest = a.rest; small = a.small; split = Vec.same_trans S (vector_same k) a.split }
    where
      a : Ahead S G.L F (term S G k) (reckoned S G (term S G k))
      a =
          let (i, z) = G.framed.real k h in
          let d : z.0.1 < G.A.count = omega arith in
          reckon_ahead S G.L F G.reducer (term S G k) z.0 i d z.1 z.2

  pub vector_in : (k : ℕ) → k < size S G → All S (In S G.L F) (vector S G k)
  vector_in k h = canon_all S Top (In S G.L F) (reckoned S G (term S G k)) (reckon_in S G.L F G.reducer (term S G k) (G.framed.real k h).0)

  -- a canonical list that is equal to the reckoning's vector is the level's vector
  pub is_vector : (k : ℕ) (w : Vec S (E × ℕ)) → Canonical S Top w → Same S w (reckoned S G (term S G k)) → w ≡ vector S G k
  is_vector k w c e = canonical_is S Top w (reckoned S G (term S G k)) c e

  -- division and hybrid: whichever term each step picks, a run that comes to zero gives the level's vector
  pub run_vector : (k : ℕ) (w : Vec S (E × ℕ)) → Run S G.L F G.reducer ((S.𝟙, term S G k) ∷ []) (times S G.L G.A.f (term S G k)) w []
      → canon S Top w ≡ vector S G k
  run_vector k w r = canon_unique S Top w (reckoned S G (term S G k)) (run_reckons S G.L F G.reducer (term S G k) w r)

  -- the vectors as the family of the level above
  abbrev pub next : Finite S (above S G)
  next = record {
    f = vector S G;
    lm = term S G;
    count = size S G;
    lead = λ k h.
        led S Top (vector S G k) (term S G k) (canon_canonical S Top (reckoned S G (term S G k))) (ahead_lead S G.L F (vector_ahead k h));
  }

  -- ## Where the reckoning's vectors map to zero, and only there, f is a Gröbner basis

  -- every frame term's vector maps to zero
  abbrev pub Zeros : Type 0
  Zeros = (k : ℕ) → k < size S G → Same S (ψ S G.L G.A.f (reckoned S G (term S G k))) []

  abbrev pub lifted : Zeros → Lifted S G.L F (frame S G)
  lifted z = record {
    s = vector S G;
    ahead = vector_ahead;
    syzygy = λ k h. Vec.same_trans S (Vec.same_lin S (times S G.L G.A.f) (vector_same k)) (z k h);
  }

  pub zeros_gröbner : Zeros → Gröbner S G.L F
  zeros_gröbner z = is_basis S G.L F (frame S G) (lifted z)

  pub gröbner_zeros : Gröbner S G.L F → Zeros
  gröbner_zeros gb k h = reckon_syzygy S G.L F G.reducer gb (term S G k) (G.framed.real k h).0

  -- ## Over a Gröbner basis

  module _ (gb : Gröbner S G.L F) where
    abbrev H : Lifted S G.L F (frame S G)
    H = lifted (gröbner_zeros gb)

    -- each vector is a syzygy
    pub vector_syzygy : (k : ℕ) → k < size S G → Same S (ψ S G.L G.A.f (vector S G k)) []
    vector_syzygy k h = H.syzygy k h

    -- every syzygy is a combination of the vectors
    pub vectors_generate : (q : Vec S (E × ℕ)) → All S (λ (x : E × ℕ). x.1 < G.A.count) q → Same S (ψ S G.L G.A.f q) []
        → (w : Vec S (E × ℕ)) × All S (λ (x : E × ℕ). x.1 < size S G) w × Same S q (ψ S Top (vector S G) w)
    vectors_generate q ps z = syzygies S G.L F (frame S G) H q ps z

    combination_in : (w : Vec S (E × ℕ)) → All S (λ (x : E × ℕ). x.1 < size S G) w → All S (In S G.L F) (ψ S Top (vector S G) w)
    combination_in w ps =
        Vec.all_lin S (λ x. x.1 < size S G) (In S G.L F) (times S Top (vector S G))
        (λ x d. Vec.all_mapB S (In S G.L F) (In S G.L F) (indAct G.L G.A.lm x.0) (λ y i. i) (vector S G x.1) (vector_in x.1 d)) w
        ps

    -- the vectors are a Gröbner basis for the induced order
    pub gröbner_above : Gröbner S Top (family S Top next)
    gröbner_above w ps =
        is_basis_above S G.L F (frame S G) H (ψ S Top (vector S G) w) (combination_in w ps) (combination_syzygy S G.L F (frame S G) H w ps)

-- ## The tower

-- what a level's vectors need to be a stage: the reducer of each monomial, and a frame
abbrev pub Equipped : (S : Scalars) {M : Monoid} → Stage S M → Type 0
Equipped S G = Reducers S (above S G) (family S (above S G) (next S G)) × Framed S (above S G) (next S G)

module _ (S : Scalars) {M : Monoid} (equip : (G : Stage S M) → Equipped S G) where
  abbrev pub stage_above : Stage S M → Stage S M
  stage_above G = record { L = above S G; A = next S G; reducer = (equip G).0; framed = (equip G).1 }

  abbrev pub tower : Stage S M → ℕ → Stage S M
  tower G zero = G
  tower G (suc k) = stage_above (tower G k)

  -- every level is a Gröbner basis for its order
  pub tower_gröbner : (G : Stage S M) → Gröbner S G.L (fam S G) → (k : ℕ) → Gröbner S (tower G k).L (fam S (tower G k))
  tower_gröbner G gb zero = gb
  tower_gröbner G gb (suc k) = gröbner_above S (tower G k) (tower_gröbner G gb k)
