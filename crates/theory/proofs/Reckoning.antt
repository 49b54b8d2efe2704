-- The reckoning's vectors have their frame terms in front; over a Gröbner basis, and only there, they are syzygies.
use mathlib.Core.Path.{◌≡◌, refl, sym, ◌∙◌}
use mathlib.Core.Logic.{◌⊎◌, inl, inr}
use mathlib.Core.List.{[], ◌∷◌}
use Prim.Native.Nat.{ℕ, ◌<◌, ◌≤◌}
use native.Mathlib.Omega.{arith}
use Rattle.theory.specs.Laws.{Scalars, Monoid, Level}
use Rattle.theory.specs.Vec.{Vec, ev, Same, mapB, lin, All, times, ψ, Lead}
use Rattle.theory.specs.Induced.{image, IndLt}
use Rattle.theory.specs.Syzygy.{Family, In, Ahead, Gröbner}
use Rattle.theory.specs.Reckon.{Lower, Reducers, lift, reckon}
use Rattle.theory.proofs.Levels.{Up}
use Rattle.theory.proofs.Vec
use Rattle.theory.proofs.Top.{Le, δ, Leading, leading, leading_lead, lead_coef, lead_same, lead_unique}
use Rattle.theory.proofs.Lift.{Normal, Normals, normals, normal, Under, under, up_in}

module _ (S : Scalars) {M : Monoid} (L : Level M) (F : Family S L) where
  -- a vector with m in front leads with m
  abbrev pub ahead_lead : {m : M.E × ℕ} {v : Vec S (M.E × ℕ)} → Ahead S L F m v → Lead S (Up S L F) v m
  ahead_lead {m} a = record {
    coef = S.𝟙;
    rest = a.rest;
    nonzero = λ e. S.one≢zero (sym S.one_one ∙ e);
    smaller = Vec.all_map S (λ y. In S L F y × IndLt L F.lm y m) (λ y. IndLt L F.lm y m) (λ y h. h.1) a.rest a.small;
    split = a.split;
  }

  -- .. with coefficient 1
  pub ahead_coef : {m : M.E × ℕ} {v : Vec S (M.E × ℕ)} → Ahead S L F m v → ev S (δ S (Up S L F) m) v ≡ S.mul S.𝟙 S.𝟙
  ahead_coef a = lead_coef S (Up S L F) (ahead_lead a)

module _ (S : Scalars) {M : Monoid} (L : Level M) (F : Family S L) (reducer : Reducers S L F) where
  open S use {𝟙}
  open M use {E}
  open L use {B, act, Lt}
  open F use {f, lm, lead}

  abbrev up : B → Vec S (E × ℕ)
  up b = lift S L F reducer b

  abbrev vector : E × ℕ → Vec S (E × ℕ)
  vector x = reckon S L F reducer x

  pub reckon_in : (x : E × ℕ) → In S L F x → All S (In S L F) (vector x)
  reckon_in x d = (
    d,
    Vec.all_lin S (λ b. Unit {0}) (In S L F) up (λ b u. up_in S L F reducer b) (times S L f x)
        (Vec.all_all S (λ b. Unit {0}) (λ b. tt) (times S L f x)),
  )

  -- ## Syzygies

  -- ψ of the reckoning's vector is a combination of terms without a reducer; over a Gröbner basis that is zero
  pub reckon_syzygy : Gröbner S L F → (x : E × ℕ) → In S L F x → Same S (ψ S L f (vector x)) []
  reckon_syzygy gb x d = go (gb (vector x) (reckon_in x d)) (leading S L (Lower S L F) N.rest N.lower)
    where
      N : Normals S L F reducer (times S L f x)
      N = normals S L F reducer (times S L f x) (Vec.all_all S (Normal S L F reducer) (normal S L F reducer) (times S L f x))

      e : Same S (ψ S L f (vector x)) N.rest
      e = Vec.same_trans S (Vec.same_append S (Vec.scale_one S (times S L f x)) (Vec.same_refl S {v = ψ S L f (lin S up (times S L f x))})) N.same

      go : Same S (ψ S L f (vector x)) [] ⊎ ((y : E × ℕ) × In S L F y × Lead S L (ψ S L f (vector x)) (image L lm y))
          → Same S N.rest [] ⊎ Leading S L (Lower S L F) N.rest → Same S (ψ S L f (vector x)) []
      go (inl z) _ = z
      go (inr t) (inl z) = Vec.same_trans S e z
      go (inr t) (inr l) = absurd (l.ok t.0 t.1 (lead_unique S L t.2 (lead_same S L e (leading_lead S L l))))

  -- ## In front

  -- the frame term stands in front of its vector, whether or not f is a Gröbner basis: the lowest reducer of its image has a lower number,
  -- and everything else has a smaller image
  pub reckon_ahead : (x z : E × ℕ) → In S L F x → In S L F z → z.1 < x.1 → image L lm z ≡ image L lm x → Ahead S L F x (vector x)
  reckon_ahead x z d dz h e = record {
    rest = lin S up v;
    small = Vec.all_lin S (λ b. Le S L b (image L lm x)) Small up small v (inr refl, tail);
    split = Vec.same_cons S (𝟙, x) (Vec.same_lin S up (Vec.same_map S (act x.0) (lead x.1 d).split));
  }
    where
      v : Vec S B
      v = mapB S (act x.0) (((lead x.1 d).coef, lm x.1) ∷ (lead x.1 d).rest)

      Small : E × ℕ → Type 0
      Small y = In S L F y × IndLt L lm y x

      tail : All S (λ b. Le S L b (image L lm x)) (mapB S (act x.0) (lead x.1 d).rest)
      tail = Vec.all_mapB S (λ b. Lt b (lm x.1)) (λ b. Le S L b (image L lm x)) (act x.0) (λ b k. inl (L.compat x.0 _ _ k))
          (lead x.1 d).rest (lead x.1 d).smaller

      place : (b : B) (y : E × ℕ) → Under S L F reducer b y → Le S L b (image L lm x) → IndLt L lm y x
      place b y (dy, inl k) (inl l) = inl (L.trans _ _ _ k l)
      place b y (dy, inl k) (inr p) = inl (rw p at k)
      place b y (dy, inr k) (inl l) = inl (rw k.0 l)
      place b y (dy, inr k) (inr p) = let i : y.1 ≤ z.1 = k.1 z dz (e ∙ sym p) in inr (k.0 ∙ p, omega arith)

      small : (b : B) → Le S L b (image L lm x) → All S Small (up b)
      small b p = Vec.all_map S (Under S L F reducer b) Small (λ y u. (u.0, place b y u p)) (up b) (under S L F reducer b)
