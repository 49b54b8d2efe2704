-- Document 01's Gröbner bases are those whose leading monomials generate the leading module.
use mathlib.Core.Path.{◌≡◌, refl, sym, ap, ap₂, ◌∙◌, subst}
use mathlib.Core.Logic.{◌↔◌}
use mathlib.Core.Bool.{Bool, true, false}
use mathlib.Core.List.{List, [], ◌∷◌, ◌++◌}
use Prim.Native.Nat.{ℕ, zero, suc, ◌<◌, ◌≤◌}
use native.Mathlib.Omega.{arith}
use lib.Dec.{T}
use lib.ListN.{length, get_or}
use Rattle.theory.specs.Vec.{All, mapB, times, ψ}
use Rattle.theory.specs.Orders.{ExpM}
use Rattle.theory.specs.Induced
use Rattle.theory.specs.Syzygy.{In}
use Rattle.theory.proofs.Vec
use Rattle.definitions.specs.Field
use Rattle.definitions.specs.Monomial
use Rattle.definitions.specs.Monomial.{Monomial, Vector, leading, vector_of}
use Rattle.definitions.specs.Problem.{Parameters}
use Rattle.laws.proofs.Modular.{Prime}
use Rattle.demands.specs.Notions.{multiples, put_for, coefficient, Combination, Divided, LedBy, GröbnerBasis, AllLed, leading_vectors}
use Rattle.demands.specs.Notions.{LeadingGenerated}
use Rattle.demands.proofs.Exponents.{E, out, product_out}
use Rattle.demands.proofs.Levels.{Mono, TVec, TLevel, mono, vec, flat, flats, flat_at, flat_length, leading_vec, mono_same, head, lm}
use Rattle.demands.proofs.Coefficients.{good_one}
use Rattle.demands.proofs.Setting.{Setting, S, L, F}
use Rattle.demands.proofs.Soundness.{tvec, Deep}
use Rattle.demands.proofs.Notions.{put_for_is, stands_in, StandsIn}
use Rattle.demands.proofs.Bases.{Ranged, Proper, proper_says, proper_shown, here, ranged_in, image_divided, divided_image, led_lead}

module _ (q : Parameters) (P : Prime q.p) (eight : q.n ≤ 8) (f : TLevel q.n) (b : List (TLevel q.n))
    (d : Deep q.n q.p P q.code (f ∷ b)) where
  abbrev Z : Setting
  Z = here q P eight f b d

  -- ## The leading monomials as vectors

  abbrev leadings : TLevel q.n → TLevel q.n
  leadings [] = []
  leadings (v ∷ g) = ((1, head q.n v) ∷ []) ∷ leadings g

  leadings_length : (g : TLevel q.n) → length (leadings g) ≡ length g
  leadings_length [] = refl
  leadings_length (v ∷ g) = ap suc (leadings_length g)

  leadings_at : (g : TLevel q.n) (j : ℕ) → j < length g → get_or (leadings g) j [] ≡ (1, lm q.n g j) ∷ []
  leadings_at [] j l = absurd (omega arith)
  leadings_at (v ∷ g) zero l = refl
  leadings_at (v ∷ g) (suc j) l = leadings_at g j (omega arith)

  leadings_flat : (g : TLevel q.n) → ((j : ℕ) → j < length g → leading (vec q.n (get_or g j [])) ≡ mono q.n (lm q.n g j))
      → leading_vectors (flat q.n g) ≡ flat q.n (leadings g)
  leadings_flat [] h = refl
  leadings_flat (v ∷ g) h = ap₂ (λ x y. ((1, x) ∷ []) ∷ y) (h 0 (omega arith)) (leadings_flat g (λ j l. h (suc j) (omega arith)))

  abbrev TLeadings : TLevel q.n
  TLeadings = leadings f

  are_leadings : leading_vectors (flat q.n f) ≡ flat q.n TLeadings
  are_leadings = leadings_flat f (λ j l. leading_vec q.n (get_or f j []) (Z.somes j l))

  led_mono : (m : Monomial) → LedBy q (flats q.n b) (flat q.n f) m → (x : Mono q.n) × (m ≡ mono q.n x)
  led_mono m h = let r = led_lead q P eight f b d m h in (r.2.0, r.2.1)

  -- ## A Gröbner basis: the leading monomials generate

  -- one term over the leading monomials in place of one over s
  record Instead (s : Monomial.Level) (t : ℕ × Mono q.n) : Type 0 where
    new : ℕ × Mono q.n
    inside : new.1.1 < length f
    same : multiples q.p t.0 (out q.n t.1.0) (vector_of s (suc t.1.1))
        ≡ multiples q.p new.0 (out q.n new.1.0) (vector_of (flat q.n TLeadings) (suc new.1.1))

  led_at : (s : Monomial.Level) → AllLed q (flats q.n b) (flat q.n f) s → (j : ℕ) → j < length s
      → (m : Monomial) × LedBy q (flats q.n b) (flat q.n f) m × (get_or s j [] ≡ (1, m) ∷ [])
  led_at [] h j l = absurd (omega arith)
  led_at (v ∷ s) h zero l = h.0
  led_at (v ∷ s) h (suc j) l = led_at s h.1 j (omega arith)

  module _ (gb : GröbnerBasis q (flats q.n b) (flat q.n f)) (s : Monomial.Level) (led : AllLed q (flats q.n b) (flat q.n f) s) where
    instead : (t : ℕ × Mono q.n) → t.1.1 < length s → Instead s t
    instead t l = go (led_at s led t.1.1 l)
      where
        go : (m : Monomial) × LedBy q (flats q.n b) (flat q.n f) m × (get_or s t.1.1 [] ≡ (1, m) ∷ []) → Instead s t
        go (m, h, e) = at (led_mono m h)
          where
            at : (x : Mono q.n) × (m ≡ mono q.n x) → Instead s t
            at (x, k) =
                let (y, i, r) = divided_image q P eight f b d x (subst (Divided (flat q.n f)) k (gb m h)) in
                record {
                  new = (t.0, ((ExpM q.n).mulE t.1.0 y.0, y.1));
                  inside = i;
                  same = ap (multiples q.p t.0 (out q.n t.1.0)) (e ∙ ap (λ z. (1, z) ∷ []) (k ∙ ap (mono q.n) (sym r)))
                      ∙ ap (λ z. (Field.times q.p t.0 1, (z, suc (lm q.n f y.1).1)) ∷ [])
                      (products t.1.0 y.0 (lm q.n f y.1).0)
                      ∙ ap (multiples q.p t.0 (out q.n ((ExpM q.n).mulE t.1.0 y.0)))
                      (sym (flat_at q.n TLeadings y.1 ∙ ap (vec q.n) (leadings_at f y.1 i)));
                }
              where
                products : (a c e : E q.n) → Monomial.product (out q.n a) (out q.n ((ExpM q.n).mulE c e))
                    ≡ Monomial.product (out q.n ((ExpM q.n).mulE a c)) (out q.n e)
                products a c e =
                    product_out q.n a ((ExpM q.n).mulE c e) ∙ ap (out q.n) (sym ((ExpM q.n).mulE_assoc a c e)) ∙ sym
                    (product_out q.n ((ExpM q.n).mulE a c) e)

    all_instead : (w : TVec q.n) → Ranged q eight (length s) w
        → (u : TVec q.n) × Ranged q eight (length f) u × (put_for q.p s (vec q.n w) ≡ put_for q.p (flat q.n TLeadings) (vec q.n u))
    all_instead [] r = ([], tt, refl)
    all_instead (t ∷ w) r =
        let h : Instead s t = instead t r.0 in
        let (u, k, e) = all_instead w r.1 in
        (h.new ∷ u, (h.inside, k), ap₂ (λ x y. x ++ y) h.same e)

    generated : (v : Vector) → Combination q s v → Combination q (flat q.n TLeadings) v
    generated v c =
        let pr : Proper q eight (length s) c.by = proper_says q eight (length s) c.by c.proper in
        let (u, k, e) = all_instead (tvec q.n c.by) pr.ranged in
        record {
          by = vec q.n u;
          proper =
              proper_shown q eight (length (flat q.n TLeadings)) u
              (subst (λ r. Ranged q eight r u) (sym (flat_length q.n TLeadings ∙ leadings_length f)) k);
          is = λ m. c.is m ∙ ap (coefficient q.p m) (ap (put_for q.p s) (sym pr.back) ∙ e);
        }

  -- ## The leading monomials generate: a Gröbner basis

  divided_all : (w : TVec q.n) → All (S Z) (In (S Z) (L Z) (F Z)) w
      → All (S Z) (λ (x : Mono q.n). Divided (flat q.n f) (mono q.n x)) (ψ (S Z) (L Z) (λ j. get_or TLeadings j []) w)
  divided_all w h =
      Vec.all_lin (S Z) (In (S Z) (L Z) (F Z)) X (times (S Z) (L Z) (λ j. get_or TLeadings j [])) (λ x i.
      subst (λ v. All (S Z) X (mapB (S Z) ((L Z).act x.0) v)) (sym (leadings_at f x.1 i))
      (image_divided q P eight f b d x i (Induced.image (L Z) (F Z).lm x) refl, tt)) w h
    where
      X : Mono q.n → Type 0
      X x = Divided (flat q.n f) (mono q.n x)

  -- a combination of the leading monomials has none that is not divided
  divided_in : (x : Mono q.n) → Combination q (flat q.n TLeadings) ((1, mono q.n x) ∷ []) → Divided (flat q.n f) (mono q.n x)
  divided_in x c = subst (Divided (flat q.n f)) (sym z.is) (z.all X (divided_all w i))
    where
      X : Mono q.n → Type 0
      X y = Divided (flat q.n f) (mono q.n y)

      pr : Proper q eight (length (flat q.n TLeadings)) c.by
      pr = proper_says q eight (length (flat q.n TLeadings)) c.by c.proper

      w : TVec q.n
      w = tvec q.n c.by

      i : All (S Z) (In (S Z) (L Z) (F Z)) w
      i = ranged_in q P eight f b d w (subst (λ r. Ranged q eight r w) (flat_length q.n TLeadings ∙ leadings_length f) pr.ranged)

      one : ¬ (coefficient q.p (mono q.n x) ((1, mono q.n x) ∷ []) ≡ 0)
      one = go (Monomial.same_monomial? (mono q.n x) (mono q.n x)) (mono_same q.n x x refl)
        where
          go : (t : Bool) → T t → ¬ (◌≡◌ {A = ℕ} (elim t [ true ↦ Field.plus q.p 1 0 | false ↦ 0 ]) 0)
          go false h e = elim h [ ]
          go true h e = (good_one q.p P).0 e

      put : put_for q.p (flat q.n TLeadings) c.by ≡ vec q.n (ψ (S Z) (L Z) (λ j. get_or TLeadings j []) w)
      put = ap (put_for q.p (flat q.n TLeadings)) (sym pr.back) ∙ put_for_is q.n q.p P q.code b TLeadings w

      z : StandsIn q.n q.p P (ψ (S Z) (L Z) (λ j. get_or TLeadings j []) w) (mono q.n x)
      z = stands_in q.n q.p P (mono q.n x) (ψ (S Z) (L Z) (λ j. get_or TLeadings j []) w)
          (λ e. one (c.is (mono q.n x) ∙ ap (coefficient q.p (mono q.n x)) put ∙ e))

  -- a vector is a combination of itself
  alone : (x : Mono q.n) → Combination q (((1, mono q.n x) ∷ []) ∷ []) ((1, mono q.n x) ∷ [])
  alone x = record {
    by = vec q.n u;
    proper = proper_shown q eight 1 u (omega arith, tt);
    is = λ m. ap (coefficient q.p m) (ap (vec q.n) self ∙ sym (put_for_is q.n q.p P q.code b (((1, x) ∷ []) ∷ []) u));
  }
    where
      u : TVec q.n
      u = (1, ((ExpM q.n).ε, 0)) ∷ []

      self : ◌≡◌ {A = TVec q.n} ((1, x) ∷ []) (ψ (S Z) (L Z) (λ j. get_or (((1, x) ∷ []) ∷ []) j []) u)
      self = let e : 1 ≡ Field.times q.p 1 1 = sym (good_one q.p P).1 in let k = sym ((ExpM q.n).mulE_unit x.0) in λ i. (e i, (k i, x.1))
          ∷ []

  -- ## Both

  abbrev Generated : Monomial.Level → Type 0
  Generated g = (s : Monomial.Level) → AllLed q (flats q.n b) (flat q.n f) s → (v : Vector) → Combination q s v → Combination q g v

  to_basis : Generated (flat q.n TLeadings) → GröbnerBasis q (flats q.n b) (flat q.n f)
  to_basis h m l = go (led_mono m l)
    where
      go : (x : Mono q.n) × (m ≡ mono q.n x) → Divided (flat q.n f) m
      go (x, e) = subst (Divided (flat q.n f)) (sym e)
          (divided_in x (h (((1, mono q.n x) ∷ []) ∷ []) ((mono q.n x, subst (LedBy q (flats q.n b) (flat q.n f)) e l, refl), tt)
          ((1, mono q.n x) ∷ []) (alone x)))

  pub leading_module : GröbnerBasis q (flats q.n b) (flat q.n f) ↔ LeadingGenerated q (flats q.n b) (flat q.n f)
  leading_module = subst (λ g. GröbnerBasis q (flats q.n b) (flat q.n f) ↔ Generated g) (sym are_leadings)
      ((λ gb s led v c. generated gb s led v c), to_basis)
