-- The plain notions in the theory: equal coefficients, f_j put for e_j, leading monomials.
use mathlib.Core.Path.{◌≡◌, refl, sym, ap, ap₂, ◌∙◌}
use mathlib.Core.Logic.{◌⊎◌, inl, inr}
use mathlib.Core.Bool.{Bool, true, false}
use mathlib.Core.List.{List, [], ◌∷◌, ◌++◌}
use Prim.Native.Nat.{ℕ, suc, ◌+◌, ◌*◌, ◌%◌}
use native.Mathlib.Nat.{mod-add-mod}
use native.Mathlib.Omega.{arith}
use lib.Dec.{T, eqb, eqb→eq}
use lib.ListN.{get_or}
use Rattle.theory.specs.Laws.{Scalars, Level}
use Rattle.theory.specs.Vec.{ev, Same, scale, mapB, All, times, ψ, Lead}
use Rattle.theory.specs.Orders.{ExpM}
use Rattle.theory.specs.Modular.{ModP}
use Rattle.theory.proofs.Vec
use Rattle.theory.proofs.Top.{δ, δ_same, δ_other, Leading, leading, leading_lead, lead_coef, lead_over}
use Rattle.theory.proofs.Coef.{coef_same}
use Rattle.definitions.specs.Field
use Rattle.definitions.specs.Monomial.{Monomial, same_exponents?, same_monomial?}
use Rattle.definitions.specs.Order.{Comparison, smaller, compare_over}
use Rattle.laws.proofs.Modular.{Prime}
use Rattle.laws.proofs.Tests.{and_left, and_right}
use Rattle.demands.specs.Notions.{multiples, put_for, coefficient, Equal, Leads}
use Rattle.demands.proofs.Exponents.{E, out, same_is, product_out}
use Rattle.demands.proofs.Comparisons.{Says, less, level, more, says_less}
use Rattle.demands.proofs.Levels.{Mono, TVec, TLevel, mono, same_mono, mono_same, vec, vec_append, flat, flats, flat_at, module_over, Has, Grounded}
use Rattle.demands.proofs.Levels.{over_says}

-- ## Coefficients

module _ (n p : ℕ) (P : Prime p) where
  abbrev S : Scalars
  S = ModP p P

  -- 1 at the monomial m, 0 elsewhere
  abbrev chosen : Monomial → Mono n → ℕ
  chosen m x = elim (same_monomial? (mono n x) m) [ true ↦ 1 | false ↦ 0 ]

  times_one : (a : ℕ) → a * 1 ≡ a
  times_one a = omega arith

  coefficient_is : (m : Monomial) (v : TVec n) → coefficient p m (vec n v) ≡ ev S (chosen m) v
  coefficient_is m [] = refl
  coefficient_is m (t ∷ v) = go (same_monomial? (mono n t.1) m) (coefficient_is m v)
    where
      go : (s : Bool) → coefficient p m (vec n v) ≡ ev S (chosen m) v
          → elim s [ true ↦ Field.plus p t.0 (coefficient p m (vec n v)) | false ↦ coefficient p m (vec n v) ]
          ≡ Field.plus p (Field.times p t.0 (elim s [ true ↦ 1 | false ↦ 0 ])) (ev S (chosen m) v)
      go true e = ap (λ z. (t.0 + z) % p) e ∙ sym (mod-add-mod (t.0 * 1) p (ev S (chosen m) v)
          ∙ ap (λ z. (z + ev S (chosen m) v) % p) (times_one t.0))
      go false e = e ∙ sym (ap (λ z. Field.plus p z (ev S (chosen m) v)) (S.mul_zero t.0) ∙ Vec.ev_red S (chosen m) v)

  -- equal vectors have equal coefficients
  pub same_equal : (v w : TVec n) → Same S v w → Equal p (vec n v) (vec n w)
  same_equal v w e m = coefficient_is m v ∙ e.at (chosen m) ∙ sym (coefficient_is m w)

  -- a monomial whose coefficient is not zero stands in the vector
  pub record StandsIn (v : TVec n) (m : Monomial) : Type 1 where
    pub x : Mono n
    pub is : m ≡ mono n x
    pub all : (X : Mono n → Type 0) → All S X v → X x

  pub stands_in : (m : Monomial) (v : TVec n) → ¬ (coefficient p m (vec n v) ≡ 0) → StandsIn v m
  stands_in m [] h = absurd (h refl)
  stands_in m (t ∷ v) h = go (same_monomial? (mono n t.1) m) (λ s. s) h (stands_in m v)
    where
      same_both : T (same_monomial? (mono n t.1) m) → m ≡ mono n t.1
      same_both s =
          let e : suc t.1.1 ≡ m.1 = eqb→eq (suc t.1.1) m.1
          (and_left (eqb (suc t.1.1) m.1) (same_exponents? (out n t.1.0) m.0) s) in
          let d : out n t.1.0 ≡ m.0 = same_is (out n t.1.0) m.0
          (and_right (eqb (suc t.1.1) m.1) (same_exponents? (out n t.1.0) m.0) s) in
          sym (λ i. (d i, e i))

      go : (s : Bool) → (T s → T (same_monomial? (mono n t.1) m))
          → ¬ (◌≡◌ {A = ℕ} (elim s [ true ↦ Field.plus p t.0 (coefficient p m (vec n v)) | false ↦ coefficient p m (vec n v) ]) 0)
          → (¬ (coefficient p m (vec n v) ≡ 0) → StandsIn v m) → StandsIn (t ∷ v) m
      go true k h r = record { x = t.1; is = same_both (k tt); all = λ X q. q.0 }
      go false k h r = let s = r h in record { x = s.x; is = s.is; all = λ X q. s.all X q.1 }

  -- ## Combinations

  multiples_is : (c : ℕ) (q : E n) (f : TVec n) → multiples p c (out n q) (vec n f)
      ≡ vec n (scale S c (mapB S (λ (x : Mono n). ((ExpM n).mulE q x.0, x.1)) f))
  multiples_is c q [] = refl
  multiples_is c q (t ∷ f) = ap₂ (λ x y. (Field.times p c t.0, (x, suc t.1.1)) ∷ y) (product_out n q t.1.0) (multiples_is c q f)

  module _ (code : ℕ) (b : List (TLevel n)) where
    abbrev L : Level (ExpM n)
    L = module_over n code b

    -- f_j put for e_j
    pub put_for_is : (f : TLevel n) (c : TVec n) → put_for p (flat n f) (vec n c) ≡ vec n (ψ S (module_over n code b) (λ j. get_or f j []) c)
    put_for_is f [] = refl
    put_for_is f (t ∷ c) =
        ap₂ (λ x y. x ++ y) (ap (multiples p t.0 (out n t.1.0)) (flat_at n f t.1.1) ∙ multiples_is t.0 t.1.0 (get_or f t.1.1 []))
        (put_for_is f c)
        ∙ sym (vec_append n (scale S t.0 (times S L (λ j. get_or f j []) t.1)) (ψ S L (λ j. get_or f j []) c))

    -- ## Equal coefficients make equal vectors

    δ_chosen : (x y : Mono n) → δ S L x y ≡ chosen (mono n x) y
    δ_chosen x y = go (same_monomial? (mono n y) (mono n x)) (same_mono n y x) (mono_same n y x)
      where
        go : (s : Bool) → (T s → y ≡ x) → (y ≡ x → T s) → δ S L x y ≡ elim s [ true ↦ 1 | false ↦ 0 ]
        go true h k = ap (δ S L x) (h tt) ∙ δ_same S L x
        go false h k = δ_other S L x y k

    pub coefficient_δ : (x : Mono n) (v : TVec n) → coefficient p (mono n x) (vec n v) ≡ ev S (δ S (module_over n code b) x) v
    coefficient_δ x v = coefficient_is (mono n x) v ∙ sym (Vec.ev_cong S (δ S L x) (chosen (mono n x)) (δ_chosen x) v)

    pub equal_same : (v w : TVec n) → Equal p (vec n v) (vec n w) → Same S v w
    equal_same v w e = coef_same S L v w (λ x. sym (coefficient_δ x v) ∙ e (mono n x) ∙ coefficient_δ x w)

    -- ## Leading monomials

    module _ (G : Grounded n b) (v : TVec n) (hv : All S (Has n b) v) where
      pub lead_leads : (x : Mono n) → Has n b x → Lead S (module_over n code b) v x → Leads (compare_over code (flats n b)) p (mono n x) (vec n v)
      lead_leads x hx l = record { there = λ e. l.nonzero (sym (lead_coef S L l) ∙ sym (coefficient_δ x v) ∙ e); others = at }
        where
          at : (m : Monomial) → ¬ (coefficient p m (vec n v) ≡ 0) → (compare_over code (flats n b) m (mono n x) ≡ smaller) ⊎ (m ≡ mono n x)
          at m h = go (over_says n code b G s.x x (s.all (Has n b) hv) hx) refl
            where
              s : StandsIn v m
              s = stands_in m v h

              go : {c : Comparison} → Says (L.Lt s.x x) (s.x ≡ x) (L.Lt x s.x) c → c ≡ compare_over code (flats n b) (mono n s.x) (mono n x)
                  → (compare_over code (flats n b) m (mono n x) ≡ smaller) ⊎ (m ≡ mono n x)
              go (less u) e = inl (ap (λ z. compare_over code (flats n b) z (mono n x)) s.is ∙ sym e)
              go (level u) e = inr (s.is ∙ ap (mono n) u)
              go (more u) e = absurd (h (ap (λ z. coefficient p z (vec n v)) s.is ∙ coefficient_δ s.x v ∙ lead_over S L l s.x u))

      pub leads_lead : (m : Monomial) → Leads (compare_over code (flats n b)) p m (vec n v) → (x : Mono n) × (m ≡ mono n x)
          × Lead S (module_over n code b) v x
      leads_lead m h = go (leading S L (Has n b) v hv)
        where
          z : StandsIn v m
          z = stands_in m v h.there

          go : Same S v [] ⊎ Leading S L (Has n b) v → (x : Mono n) × (m ≡ mono n x) × Lead S L v x
          go (inl e) = absurd (h.there (same_equal v [] e m))
          go (inr l) = at (h.others (mono n l.mono) there)
            where
              k : Lead S L v l.mono
              k = leading_lead S L l

              there : ¬ (coefficient p (mono n l.mono) (vec n v) ≡ 0)
              there e = k.nonzero (sym (lead_coef S L k) ∙ sym (coefficient_δ l.mono v) ∙ e)

              under : compare_over code (flats n b) (mono n l.mono) m ≡ smaller → ⊥
              under e = h.there (ap (λ w. coefficient p w (vec n v)) z.is ∙ coefficient_δ z.x v ∙ lead_over S L k z.x
                  (says_less (over_says n code b G l.mono z.x l.ok (z.all (Has n b) hv))
                  (ap (compare_over code (flats n b) (mono n l.mono)) (sym z.is) ∙ e)))

              at : (compare_over code (flats n b) (mono n l.mono) m ≡ smaller) ⊎ (mono n l.mono ≡ m) → (x : Mono n) × (m ≡ mono n x)
                  × Lead S L v x
              at (inl e) = absurd (under e)
              at (inr e) = (l.mono, sym e, k)
