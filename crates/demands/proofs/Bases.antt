-- Document 01's Gröbner bases are the theory's; and they are those whose leading monomials generate the leading module.
use mathlib.Core.Path.{◌≡◌, refl, sym, ap, ap₂, ◌∙◌, subst}
use mathlib.Core.Logic.{◌⊎◌, inl, inr}
use mathlib.Core.Bool.{Bool}
use mathlib.Core.List.{List, [], ◌∷◌}
use Prim.Native.Nat.{ℕ, suc, ◌-◌, ◌<◌, ◌≤◌}
use native.Mathlib.Omega.{arith}
use lib.Dec.{T, eqb, eqb→eq}
use lib.ListN.{length, get_or, drop}
use Rattle.theory.specs.Vec.{Same, All, times, ψ, Lead}
use Rattle.theory.specs.Induced
use Rattle.theory.specs.Syzygy.{In, Gröbner}
use Rattle.theory.proofs.Vec
use Rattle.theory.proofs.Top
use Rattle.theory.proofs.Top.{Leading, leading_lead, lead_nonzero, lead_unique}
use Rattle.definitions.specs.Lists.{◌and◌, between}
use Rattle.definitions.specs.Monomial.{Monomial, Vector, divides_monomial?, leading, vector_of}
use Rattle.definitions.specs.Order.{compare_over}
use Rattle.definitions.specs.Problem.{Parameters}
use Rattle.laws.proofs.Modular.{Prime}
use Rattle.laws.proofs.Tests.{and_left, and_right, and_both, between_low, between_high, between_shown}
use Rattle.demands.specs.Notions.{proper_term?, proper?, put_for, Leads, Divided, LedBy, GröbnerBasis}
use Rattle.demands.proofs.Exponents.{out, over, into, out_into, out_length, out_past, none}
use Rattle.demands.proofs.Levels.{Mono, TVec, TLevel, mono, term, vec, flat, flats, flat_at, flat_length, lm, leading_vec, Has, has_act, Grounded}
use Rattle.demands.proofs.Setting.{Setting, S, L, F, divided_by, divides_multiple}
use Rattle.demands.proofs.Soundness.{tvec, Deep, deep_grounded, setting}
use Rattle.demands.proofs.Notions.{put_for_is, lead_leads, leads_lead}

-- ## Proper combinations are combinations of the theory

module _ (q : Parameters) (eight : q.n ≤ 8) (r : ℕ) where
  -- components in range
  abbrev pub Ranged : TVec q.n → Type 0
  Ranged [] = Unit {0}
  Ranged (t ∷ w) = (t.1.1 < r) × Ranged w

  pub proper_shown : (w : TVec q.n) → Ranged w → T (proper? q r (vec q.n w))
  proper_shown [] h = tt
  proper_shown (t ∷ w) h =
      and_both (proper_term? q r (term q.n t)) (proper? q r (vec q.n w))
      (and_both (eqb (length (out q.n t.1.0)) 8) (none (drop q.n (out q.n t.1.0)) and between 1 (suc t.1.1) r)
      (subst (λ z. T (eqb z 8)) (sym (out_length q.n eight t.1.0)) tt)
      (and_both (none (drop q.n (out q.n t.1.0))) (between 1 (suc t.1.1) r) (out_past q.n t.1.0)
      (between_shown 1 (suc t.1.1) r (omega arith) h.0)))
      (proper_shown w h.1)

  pub record Proper (c : Vector) : Type 0 where
    pub back : vec q.n (tvec q.n c) ≡ c
    pub ranged : Ranged (tvec q.n c)

  pub proper_says : (c : Vector) → T (proper? q r c) → Proper c
  proper_says [] s = record { back = refl; ranged = tt }
  proper_says (t ∷ c) s = go (proper_says c (and_right (proper_term? q r t) (proper? q r c) s))
    where
      h : T (proper_term? q r t)
      h = and_left (proper_term? q r t) (proper? q r c) s

      past : Bool
      past = none (drop q.n t.1.0)

      long : length t.1.0 ≡ 8
      long = eqb→eq (length t.1.0) 8 (and_left (eqb (length t.1.0) 8) (past and between 1 t.1.1 r) h)

      rest : T (past and between 1 t.1.1 r)
      rest = and_right (eqb (length t.1.0) 8) (past and between 1 t.1.1 r) h

      low : 1 ≤ t.1.1
      low = between_low 1 t.1.1 r (and_right past (between 1 t.1.1 r) rest)

      high : t.1.1 ≤ r
      high = between_high 1 t.1.1 r (and_right past (between 1 t.1.1 r) rest)

      component : suc (t.1.1 - 1) ≡ t.1.1
      component = omega (arith, low)

      exponents : out q.n (into q.n t.1.0) ≡ t.1.0
      exponents = out_into q.n eight t.1.0 long (and_left past (between 1 t.1.1 r) rest)

      go : Proper c → Proper (t ∷ c)
      go p = record { back = ap₂ (λ x y. x ∷ y) (λ i. (t.0, (exponents i, component i))) p.back; ranged = (omega (arith, low, high), p.ranged) }

-- ## Gröbner bases

module _ (q : Parameters) (P : Prime q.p) (eight : q.n ≤ 8) (f : TLevel q.n) (b : List (TLevel q.n))
    (d : Deep q.n q.p P q.code (f ∷ b)) where
  abbrev pub here : Setting
  here = setting q.n q.p P q.code f b d

  abbrev Z : Setting
  Z = here

  abbrev G : Grounded q.n b
  G = deep_grounded q.n q.p P q.code b d.1

  pub ranged_in : (w : TVec q.n) → Ranged q eight (length f) w → All (S Z) (In (S Z) (L Z) (F Z)) w
  ranged_in [] h = tt
  ranged_in (t ∷ w) h = (h.0, ranged_in w h.1)

  pub in_ranged : (w : TVec q.n) → All (S Z) (In (S Z) (L Z) (F Z)) w → Ranged q eight (length f) w
  in_ranged [] h = tt
  in_ranged (t ∷ w) h = (h.0, in_ranged w h.1)

  -- a combination has its components in range
  pub combination_has : (w : TVec q.n) → All (S Z) (In (S Z) (L Z) (F Z)) w → All (S Z) (Has q.n b) (ψ (S Z) (L Z) (F Z).f w)
  combination_has w h =
      Vec.all_lin (S Z) (In (S Z) (L Z) (F Z)) (Has q.n b) (times (S Z) (L Z) (F Z).f)
      (λ x i. Vec.all_mapB (S Z) (Has q.n b) (Has q.n b) ((L Z).act x.0) (λ y k. has_act q.n b x.0 y k) (get_or f x.1 [])
      (Z.inside x.1 i)) w h

  leading_at : (j : ℕ) → j < length f → leading (vector_of (flat q.n f) (suc j)) ≡ mono q.n (lm q.n f j)
  leading_at j l = ap leading (flat_at q.n f j) ∙ leading_vec q.n (get_or f j []) (Z.somes j l)

  -- LM f_i divides
  pub image_divided : (y : Mono q.n) → y.1 < length f → (x : Mono q.n) → Induced.image (L Z) (F Z).lm y ≡ x
      → Divided (flat q.n f) (mono q.n x)
  image_divided y l x e = record {
    i = suc y.1;
    in_range = between_shown 1 (suc y.1) (length (flat q.n f)) (omega arith) (omega (arith, flat_length q.n f));
    divides = subst (λ z. T (divides_monomial? z (mono q.n x))) (sym (leading_at y.1 l))
        (divides_multiple q.n (lm q.n f y.1) x y.0 e);
  }

  pub divided_image : (x : Mono q.n) → Divided (flat q.n f) (mono q.n x) → (y : Mono q.n) × (y.1 < length f)
      × (Induced.image (L Z) (F Z).lm y ≡ x)
  divided_image x h = (
    (over q.n x.0 (lm q.n f j).0, j),
    inside,
    divided_by q.n (lm q.n f j) x
        (subst (λ z. T (divides_monomial? z (mono q.n x))) (ap (λ i. leading (vector_of (flat q.n f) i)) number ∙ leading_at j inside)
        h.divides),
  )
    where
      low : 1 ≤ h.i
      low = between_low 1 h.i (length (flat q.n f)) h.in_range

      high : h.i ≤ length (flat q.n f)
      high = between_high 1 h.i (length (flat q.n f)) h.in_range

      j : ℕ
      j = h.i - 1

      number : h.i ≡ suc j
      number = omega (arith, low)

      inside : j < length f
      inside = omega (arith, low, high, flat_length q.n f)

  -- the leading monomial of a combination
  pub led_lead : (m : Monomial) → LedBy q (flats q.n b) (flat q.n f) m
      → (w : TVec q.n) × All (S Z) (In (S Z) (L Z) (F Z)) w × ((x : Mono q.n) × (m ≡ mono q.n x)
      × Lead (S Z) (L Z) (ψ (S Z) (L Z) (F Z).f w) x)
  led_lead m h = (w, i, leads_lead q.n q.p P q.code b G (ψ (S Z) (L Z) (F Z).f w) (combination_has w i) m leads)
    where
      pr : Proper q eight (length (flat q.n f)) h.by
      pr = proper_says q eight (length (flat q.n f)) h.by h.proper

      w : TVec q.n
      w = tvec q.n h.by

      i : All (S Z) (In (S Z) (L Z) (F Z)) w
      i = ranged_in w (subst (λ r. Ranged q eight r w) (flat_length q.n f) pr.ranged)

      leads : Leads (compare_over q.code (flats q.n b)) q.p m (vec q.n (ψ (S Z) (L Z) (F Z).f w))
      leads = subst (Leads (compare_over q.code (flats q.n b)) q.p m)
          (ap (put_for q.p (flat q.n f)) (sym pr.back) ∙ put_for_is q.n q.p P q.code b f w) h.leads

  pub lead_led : (w : TVec q.n) → All (S Z) (In (S Z) (L Z) (F Z)) w → (x : Mono q.n) → Has q.n b x
      → Lead (S Z) (L Z) (ψ (S Z) (L Z) (F Z).f w) x
      → LedBy q (flats q.n b) (flat q.n f) (mono q.n x)
  lead_led w i x hx l = record {
    by = vec q.n w;
    proper = proper_shown q eight (length (flat q.n f)) w (subst (λ r. Ranged q eight r w) (sym (flat_length q.n f)) (in_ranged w i));
    leads = subst (Leads (compare_over q.code (flats q.n b)) q.p (mono q.n x)) (sym (put_for_is q.n q.p P q.code b f w))
        (lead_leads q.n q.p P q.code b G (ψ (S Z) (L Z) (F Z).f w) (combination_has w i) x hx l);
  }

  pub gröbner_out : Gröbner (S Z) (L Z) (F Z) → GröbnerBasis q (flats q.n b) (flat q.n f)
  gröbner_out gb m h = go (led_lead m h)
    where
      go : (w : TVec q.n) × All (S Z) (In (S Z) (L Z) (F Z)) w × ((x : Mono q.n) × (m ≡ mono q.n x)
          × Lead (S Z) (L Z) (ψ (S Z) (L Z) (F Z).f w) x)
          → Divided (flat q.n f) m
      go (w, i, (x, e, l)) = at (gb w i)
        where
          at : Same (S Z) (ψ (S Z) (L Z) (F Z).f w) [] ⊎ ((y : Mono q.n) × In (S Z) (L Z) (F Z) y × Lead (S Z) (L Z) (ψ (S Z) (L Z) (F Z).f w)
              (Induced.image (L Z) (F Z).lm y))
              → Divided (flat q.n f) m
          at (inl z) = absurd (lead_nonzero (S Z) (L Z) l z)
          at (inr (y, k, l')) = subst (Divided (flat q.n f)) (sym e) (image_divided y k x (lead_unique (S Z) (L Z) l' l))

  pub gröbner_in : GröbnerBasis q (flats q.n b) (flat q.n f) → Gröbner (S Z) (L Z) (F Z)
  gröbner_in gb w i = go (Top.leading (S Z) (L Z) (Has q.n b) (ψ (S Z) (L Z) (F Z).f w) (combination_has w i))
    where
      go : Same (S Z) (ψ (S Z) (L Z) (F Z).f w) [] ⊎ Leading (S Z) (L Z) (Has q.n b) (ψ (S Z) (L Z) (F Z).f w)
          → Same (S Z) (ψ (S Z) (L Z) (F Z).f w) [] ⊎ ((y : Mono q.n) × In (S Z) (L Z) (F Z) y × Lead (S Z) (L Z) (ψ (S Z) (L Z) (F Z).f w)
          (Induced.image (L Z) (F Z).lm y))
      go (inl z) = inl z
      go (inr l) =
          let k : Lead (S Z) (L Z) (ψ (S Z) (L Z) (F Z).f w) l.mono = leading_lead (S Z) (L Z) l in
          let (y, j, e) = divided_image l.mono (gb (mono q.n l.mono) (lead_led w i l.mono l.ok k)) in
          inr (y, j, subst (Lead (S Z) (L Z) (ψ (S Z) (L Z) (F Z).f w)) (sym e) k)
