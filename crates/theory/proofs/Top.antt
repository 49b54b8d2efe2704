-- The greatest monomial of a list of terms, the coefficient there, and leading terms: a vector is zero or has exactly one.
use mathlib.Core.Path.{◌≡◌, refl, sym, ap, ap₂, ◌∙◌}
use mathlib.Core.WellFounded.{Acc}
use mathlib.Core.Logic.{◌⊎◌, inl, inr}
use mathlib.Core.List.{[], ◌∷◌}
use Rattle.theory.specs.Laws.{Scalars, Monoid, Level, Tri, below, same, above}
use Rattle.theory.specs.Vec.{Vec, ev, Same, All, Lead}
use Rattle.theory.proofs.Vec.{all_map, zero_mul, merge, add_left_comm, same_trans, same_refl, same_drop}

module _ (S : Scalars) {M : Monoid} (L : Level M) where
  open S use {K, add, mul, 𝟘, 𝟙, zero_add_zero}
  open L use {B, Lt}

  abbrev pub Le : B → B → Type 0
  Le x y = Lt x y ⊎ (x ≡ y)

  le_trans : {x y z : B} → Le x y → Lt y z → Le x z
  le_trans (inl a) b = inl (L.trans _ _ _ a b)
  le_trans (inr e) b = inl (rw e b)

  -- ## The greatest monomial of t and the terms of v

  pub record Top (P : B → Type 0) (t : B) (v : Vec S B) : Type 0 where
    pub at : B
    pub ok : P at
    pub head : Le t at
    pub bound : All S (λ (x : B). P x × Le x at) v

  pub top : (P : B → Type 0) (t : B) (v : Vec S B) → P t → All S P v → Top P t v
  top P t [] p ps = record { at = t; ok = p; head = inr refl; bound = tt }
  top P t (u ∷ v) p ps = go (top P u.1 v ps.0 ps.1)
    where
      go : Top P u.1 v → Top P t (u ∷ v)
      go T = pick (L.tri t T.at)
        where
          pick : Tri (Lt t T.at) (t ≡ T.at) (Lt T.at t) → Top P t (u ∷ v)
          pick (below l) = record { at = T.at; ok = T.ok; head = inl l; bound = ((ps.0, T.head), T.bound) }
          pick (same e) = record { at = T.at; ok = T.ok; head = inr e; bound = ((ps.0, T.head), T.bound) }
          pick (above l) = record {
            at = t;
            ok = p;
            head = inr refl;
            bound = (
              (ps.0, le_trans T.head l),
              all_map S (λ (x : B). P x × Le x T.at) (λ (x : B). P x × Le x t) (λ x h. (h.0, le_trans h.1 l)) v T.bound,
            );
          }

  -- the terms at b together, the others below
  pub record Split (P : B → Type 0) (b : B) (v : Vec S B) : Type 0 where
    pub coef : K
    pub rest : Vec S B
    pub small : All S (λ (x : B). P x × Lt x b) rest
    pub split : Same S v ((coef, b) ∷ rest)

  pub collect : (P : B → Type 0) (b : B) (v : Vec S B) → All S (λ (x : B). P x × Le x b) v → Split P b v
  collect P b [] ps = record {
    coef = 𝟘;
    rest = [];
    small = tt;
    split = record { at = λ φ. sym (ap (λ x. add x 𝟘) (zero_mul S (φ b)) ∙ zero_add_zero) };
  }
  collect P b (t ∷ v) ps = go (collect P b v ps.1) ps.0.1
    where
      go : Split P b v → Le t.1 b → Split P b (t ∷ v)
      go C (inl l) = record {
        coef = C.coef;
        rest = t ∷ C.rest;
        small = ((ps.0.0, l), C.small);
        split = record { at = λ φ. ap (add (mul t.0 (φ t.1))) (C.split.at φ) ∙ add_left_comm S _ _ _ };
      }
      go C (inr e) = record {
        coef = add t.0 C.coef;
        rest = C.rest;
        small = C.small;
        split = record {
          at = λ φ.
              ap (λ z. add (mul t.0 (φ z)) (ev S φ v)) e ∙ ap (add (mul t.0 (φ b))) (C.split.at φ) ∙ merge S _ _ _ _;
        };
      }

  -- ## The coefficient at a monomial

  unit_if : {x m : B} → Tri (Lt x m) (x ≡ m) (Lt m x) → K
  unit_if (below l) = 𝟘
  unit_if (same e) = 𝟙
  unit_if (above l) = 𝟘

  -- 1 at m and 0 elsewhere: ev S (δ m) v is the coefficient of v at m
  pub δ : B → B → K
  δ m x = unit_if (L.tri x m)

  pub δ_same : (m : B) → δ m m ≡ 𝟙
  unfolding δ unit_if
  δ_same m = go (L.tri m m)
    where
      go : (t : Tri (Lt m m) (m ≡ m) (Lt m m)) → unit_if t ≡ 𝟙
      go (below l) = absurd (L.irrefl m l)
      go (same e) = refl
      go (above l) = absurd (L.irrefl m l)

  pub δ_other : (m x : B) → (x ≡ m → ⊥) → δ m x ≡ 𝟘
  unfolding δ unit_if
  δ_other m x h = go (L.tri x m)
    where
      go : (t : Tri (Lt x m) (x ≡ m) (Lt m x)) → unit_if t ≡ 𝟘
      go (below l) = refl
      go (same e) = absurd (h e)
      go (above l) = refl

  pub δ_below : (m x : B) → Lt x m → δ m x ≡ 𝟘
  δ_below m x h = δ_other m x (λ e. L.irrefl m (rw e at h))

  pub coef_below : (m : B) (v : Vec S B) → All S (λ (x : B). Lt x m) v → ev S (δ m) v ≡ 𝟘
  coef_below m [] ps = refl
  coef_below m (t ∷ v) ps =
      ap₂ (λ x y. add (mul t.0 x) y) (δ_below m t.1 ps.0) (coef_below m v ps.1)
      ∙ ap (λ z. add z 𝟘) (S.mul_zero t.0) ∙ zero_add_zero

  -- ## Leading terms

  -- a leading term goes along equal vectors
  abbrev pub lead_same : {v w : Vec S B} {m : B} → Same S w v → Lead S L v m → Lead S L w m
  lead_same e l = record {
    coef = l.coef;
    rest = l.rest;
    nonzero = l.nonzero;
    smaller = l.smaller;
    split = same_trans S e l.split;
  }

  pub lead_coef : {v : Vec S B} {m : B} (l : Lead S L v m) → ev S (δ m) v ≡ mul 𝟙 l.coef
  lead_coef {v} {m} l =
      l.split.at (δ m) ∙ ap₂ (λ x y. add (mul l.coef x) y) (δ_same m) (coef_below m l.rest l.smaller)
      ∙ S.add_comm _ _ ∙ S.zero_add_mul _ _ ∙ S.mul_comm _ _

  -- a vector with a leading term is not zero
  pub lead_nonzero : {v : Vec S B} {m : B} → Lead S L v m → Same S v [] → ⊥
  lead_nonzero {v} {m} l z = l.nonzero (sym (lead_coef l) ∙ z.at (δ m))

  -- above its leading term a vector has no other
  pub lead_over : {v : Vec S B} {m : B} (l : Lead S L v m) (n : B) → Lt m n → ev S (δ n) v ≡ 𝟘
  lead_over {v} {m} l n h =
      l.split.at (δ n) ∙ coef_below n ((l.coef, m) ∷ l.rest)
      (h, all_map S (λ x. Lt x m) (λ x. Lt x n) (λ x q. L.trans _ _ _ q h) l.rest l.smaller)

  -- the leading term is one
  pub lead_unique : {v : Vec S B} {m n : B} → Lead S L v m → Lead S L v n → m ≡ n
  lead_unique {v} {m} {n} l k = go (L.tri m n)
    where
      go : Tri (Lt m n) (m ≡ n) (Lt n m) → m ≡ n
      go (below h) = absurd (k.nonzero (sym (lead_coef k) ∙ lead_over l n h))
      go (same e) = e
      go (above h) = absurd (l.nonzero (sym (lead_coef l) ∙ lead_over k m h))

  -- a leading term found in a vector whose monomials have the property P
  pub record Leading (P : B → Type 0) (v : Vec S B) : Type 0 where
    pub mono : B
    pub ok : P mono
    pub parts : Split P mono v
    pub nonzero : ¬ (mul 𝟙 parts.coef ≡ 𝟘)

  pub leading_lead : {P : B → Type 0} {v : Vec S B} → (l : Leading P v) → Lead S L v l.mono
  leading_lead {P} l = record {
    coef = l.parts.coef;
    rest = l.parts.rest;
    nonzero = l.nonzero;
    smaller = all_map S (λ x. P x × Lt x l.mono) (λ x. Lt x l.mono) (λ x q. q.1) l.parts.rest l.parts.small;
    split = l.parts.split;
  }

  leading_same : {P : B → Type 0} {v w : Vec S B} → Same S v w → Same S w [] ⊎ Leading P w → Same S v [] ⊎ Leading P v
  leading_same e (inl z) = inl (same_trans S e z)
  leading_same {P} {v} e (inr l) = inr (record { mono = l.mono; ok = l.ok; parts = parts; nonzero = l.nonzero })
    where
      parts : Split P l.mono v
      parts = record { coef = l.parts.coef; rest = l.parts.rest; small = l.parts.small; split = same_trans S e l.parts.split }

  -- ## Every vector is zero or has a leading term: by induction on a bound of its monomials

  abbrev LeadingAt : (B → Type 0) → B → Type 0
  LeadingAt P b = P b → (v : Vec S B) → All S (λ (x : B). P x × Le x b) v → Same S v [] ⊎ Leading P v

  leading_below : (P : B → Type 0) (b : B) → ((y : B) → Lt y b → LeadingAt P y)
      → (v : Vec S B) → All S (λ (x : B). P x × Lt x b) v → Same S v [] ⊎ Leading P v
  leading_below P b ih [] ps = inl (same_refl S)
  leading_below P b ih (t ∷ r) ps =
      let T : Top (λ x. P x × Lt x b) t.1 r = top (λ x. P x × Lt x b) t.1 r ps.0 ps.1 in
      ih T.at T.ok.1 T.ok.0 (t ∷ r) (
        (ps.0.0, T.head),
        all_map S (λ x. (P x × Lt x b) × Le x T.at) (λ x. P x × Le x T.at) (λ x h. (h.0.0, h.1)) r T.bound,
      )

  leading_step : (P : B → Type 0) (b : B) → ((y : B) → Lt y b → LeadingAt P y) → LeadingAt P b
  leading_step P b ih p v ps = go (S.zero? C.coef)
    where
      C : Split P b v
      C = collect P b v ps

      go : Dec (mul 𝟙 C.coef ≡ 𝟘) → Same S v [] ⊎ Leading P v
      go (yes z) = leading_same (same_drop S C.coef b C.rest z C.split) (leading_below P b ih C.rest C.small)
      go (no nz) = inr (record { mono = b; ok = p; parts = C; nonzero = nz })

  leading_at : (P : B → Type 0) (b : B) → Acc Lt b → LeadingAt P b
  leading_at P b (Acc.intro b' h) = leading_step P b' (λ y l. leading_at P y (h y l))

  pub leading : (P : B → Type 0) (v : Vec S B) → All S P v → Same S v [] ⊎ Leading P v
  leading P [] ps = inl (same_refl S)
  leading P (t ∷ r) ps =
      let T : Top P t.1 r = top P t.1 r ps.0 ps.1 in
      leading_at P T.at (L.wf.apply T.at) T.ok (t ∷ r) ((ps.0, T.head), T.bound)
