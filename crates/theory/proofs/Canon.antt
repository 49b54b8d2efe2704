-- The canonical form is equal to the vector, and equal vectors have one canonical form.
use mathlib.Core.Path.{◌≡◌, refl, sym, ap, ap₂, ◌∙◌, subst}
use mathlib.Core.List.{[], ◌∷◌}
use Rattle.theory.specs.Laws.{Scalars, Monoid, Level, Tri, below, same, above}
use Rattle.theory.specs.Vec.{Vec, ev, Same, All, Lead}
use Rattle.theory.specs.Canon.{keep_by, keep, put_by, put, canon, Canonical}
use Rattle.theory.proofs.Vec
use Rattle.theory.proofs.Top.{lead_nonzero, lead_unique, lead_coef, lead_same, δ}

module _ (S : Scalars) {M : Monoid} (L : Level M) where
  open S use {K, add, mul, 𝟘, 𝟙, neg, add_assoc, mul_assoc, one_mul_mul}
  open L use {B, Lt}

  -- how m stands to u's monomial
  abbrev Beside : B → K × B → Type 0
  Beside m u = Tri (Lt m u.1) (m ≡ u.1) (Lt u.1 m)

  -- ## The canonical form is equal to the vector

  keep_same : (c : K) (m : B) (v : Vec S B) → Same S (keep S L c m v) ((c, m) ∷ v)
  keep_same c m v = go (S.zero? c)
    where
      go : (d : Dec (mul 𝟙 c ≡ 𝟘)) → Same S (keep_by S L c m v d) ((c, m) ∷ v)
      go (yes z) = Vec.same_sym S (Vec.same_drop S c m v z (Vec.same_refl S))
      go (no n) = record { at = λ φ. ap (λ x. add x (ev S φ v)) (mul_assoc 𝟙 c (φ m) ∙ one_mul_mul c (φ m)) }

  pub put_same : (c : K) (m : B) (v : Vec S B) → Same S (put S L c m v) ((c, m) ∷ v)
  put_same c m [] = keep_same c m []
  put_same c m (u ∷ v) = go (L.tri m u.1) (put_same c m v)
    where
      both : m ≡ u.1 → Same S ((add c u.0, m) ∷ v) ((c, m) ∷ u ∷ v)
      both e = record {
        at = λ φ.
            sym (ap (λ z. add (mul c (φ m)) (add (mul u.0 (φ z)) (ev S φ v))) (sym e) ∙ Vec.merge S c u.0 (φ m) (ev S φ v));
      }

      go : (t : Beside m u) → Same S (put S L c m v) ((c, m) ∷ v) → Same S (put_by S L c m u v (put S L c m v) t) ((c, m) ∷ u ∷ v)
      go (below l) ih = Vec.same_trans S (Vec.same_cons S u ih) (Vec.same_swap S u (c, m) v)
      go (same e) ih = Vec.same_trans S (keep_same (add c u.0) m v) (both e)
      go (above l) ih = keep_same c m (u ∷ v)

  pub canon_same : (v : Vec S B) → Same S (canon S L v) v
  canon_same [] = Vec.same_refl S
  canon_same (t ∷ v) = Vec.same_trans S (put_same t.0 t.1 (canon S L v)) (Vec.same_cons S t (canon_same v))

  -- ## It has no new monomials

  keep_all : (P : B → Type 0) (c : K) (m : B) (v : Vec S B) → P m → All S P v → All S P (keep S L c m v)
  keep_all P c m v p ps = go (S.zero? c)
    where
      go : (d : Dec (mul 𝟙 c ≡ 𝟘)) → All S P (keep_by S L c m v d)
      go (yes z) = ps
      go (no n) = (p, ps)

  pub put_all : (P : B → Type 0) (c : K) (m : B) (v : Vec S B) → P m → All S P v → All S P (put S L c m v)
  put_all P c m [] p ps = keep_all P c m [] p tt
  put_all P c m (u ∷ v) p ps = go (L.tri m u.1) (put_all P c m v p ps.1)
    where
      go : (t : Beside m u) → All S P (put S L c m v) → All S P (put_by S L c m u v (put S L c m v) t)
      go (below l) ih = (ps.0, ih)
      go (same e) ih = keep_all P (add c u.0) m v p ps.1
      go (above l) ih = keep_all P c m (u ∷ v) p ps

  pub canon_all : (P : B → Type 0) (v : Vec S B) → All S P v → All S P (canon S L v)
  canon_all P [] ps = tt
  canon_all P (t ∷ v) ps = put_all P t.0 t.1 (canon S L v) ps.0 (canon_all P v ps.1)

  -- ## It is canonical

  keep_canonical : (c : K) (m : B) (v : Vec S B) → All S (λ (x : B). Lt x m) v → Canonical S L v → Canonical S L (keep S L c m v)
  keep_canonical c m v h k = go (S.zero? c)
    where
      go : (d : Dec (mul 𝟙 c ≡ 𝟘)) → Canonical S L (keep_by S L c m v d)
      go (yes z) = k
      go (no n) = (λ e. n (sym (one_mul_mul 𝟙 c) ∙ e), one_mul_mul 𝟙 c, h, k)

  -- what is below u is below m
  pub all_lower : (u m : B) → Lt u m → (v : Vec S B) → All S (λ (x : B). Lt x u) v → All S (λ (x : B). Lt x m) v
  all_lower u m l v h = Vec.all_map S (λ x. Lt x u) (λ x. Lt x m) (λ x k. L.trans _ _ _ k l) v h

  put_canonical : (c : K) (m : B) (v : Vec S B) → Canonical S L v → Canonical S L (put S L c m v)
  put_canonical c m [] k = keep_canonical c m [] tt tt
  put_canonical c m (u ∷ v) k = go (L.tri m u.1) (put_canonical c m v k.3)
    where
      go : (t : Beside m u) → Canonical S L (put S L c m v) → Canonical S L (put_by S L c m u v (put S L c m v) t)
      go (below l) ih = (k.0, k.1, put_all (λ x. Lt x u.1) c m v l k.2, ih)
      go (same e) ih = keep_canonical (add c u.0) m v (subst (λ z. All S (λ (x : B). Lt x z) v) (sym e) k.2) k.3
      go (above l) ih = keep_canonical c m (u ∷ v) (l, all_lower u.1 m l v k.2) k

  pub canon_canonical : (v : Vec S B) → Canonical S L (canon S L v)
  canon_canonical [] = tt
  canon_canonical (t ∷ v) = put_canonical t.0 t.1 (canon S L v) (canon_canonical v)

  -- ## Canonical vectors that are equal are one list

  abbrev pub canonical_lead : (t : K × B) (v : Vec S B) → Canonical S L (t ∷ v) → Lead S L (t ∷ v) t.1
  canonical_lead t v k = record { coef = t.0; rest = v; nonzero = k.0; smaller = k.2; split = Vec.same_refl S }

  -- the same in front: the same behind
  cancel_front : (a x y : K) → add 𝟘 x ≡ x → add 𝟘 y ≡ y → (b : K) → add b a ≡ 𝟘 → add a x ≡ add a y → x ≡ y
  cancel_front a x y p q b n e =
      sym p ∙ ap (λ z. add z x) (sym n) ∙ add_assoc b a x ∙ ap (add b) e ∙ sym (add_assoc b a y) ∙ ap (λ z. add z y) n ∙ q

  pub canonical_unique : (v w : Vec S B) → Canonical S L v → Canonical S L w → Same S v w → v ≡ w
  canonical_unique [] [] k h e = refl
  canonical_unique [] (u ∷ w) k h e = absurd (lead_nonzero S L (canonical_lead u w h) (Vec.same_sym S e))
  canonical_unique (t ∷ v) [] k h e = absurd (lead_nonzero S L (canonical_lead t v k) e)
  canonical_unique (t ∷ v) (u ∷ w) k h e = ap₂ (λ x y. x ∷ y) (λ i. (c i, m i)) (canonical_unique v w k.3 h.3 tails)
    where
      l : Lead S L (t ∷ v) u.1
      l = lead_same S L e (canonical_lead u w h)

      m : t.1 ≡ u.1
      m = lead_unique S L (canonical_lead t v k) l

      c : t.0 ≡ u.0
      c = sym k.1 ∙ sym (lead_coef S L (canonical_lead t v k)) ∙ ap (λ z. ev S (δ S L z) (t ∷ v)) m ∙ lead_coef S L l ∙ h.1

      tails : Same S v w
      tails = record {
        at = λ φ.
            cancel_front (mul t.0 (φ t.1)) (ev S φ v) (ev S φ w) (Vec.ev_red S φ v) (Vec.ev_red S φ w)
            (mul (neg t.0) (φ t.1)) (S.neg_add t.0 (φ t.1))
            (e.at φ ∙ ap₂ (λ x y. add (mul x (φ y)) (ev S φ w)) (sym c) (sym m));
      }

  -- a canonical vector equal to v is the canonical form of v
  pub canonical_is : (w v : Vec S B) → Canonical S L w → Same S w v → w ≡ canon S L v
  canonical_is w v k e = canonical_unique w (canon S L v) k (canon_canonical v) (Vec.same_trans S e (Vec.same_sym S (canon_same v)))

  -- equal vectors are those with one canonical form
  pub canon_unique : (v w : Vec S B) → Same S v w → canon S L v ≡ canon S L w
  canon_unique v w e = canonical_is (canon S L v) w (canon_canonical v) (Vec.same_trans S (canon_same v) e)
