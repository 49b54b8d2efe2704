-- A setting with the definitions' frame is a stage of the theory.
use mathlib.Core.Path.{◌≡◌, refl, sym, ap, ap₂, ◌∙◌, subst, subst₂}
use mathlib.Core.Logic.{◌⊎◌, inl, inr}
use mathlib.Core.Bool.{Bool, true, false, not}
use mathlib.Core.List.{List, [], ◌∷◌}
use Prim.Native.Nat.{ℕ, zero, suc, ◌-◌, ◌<◌, ◌≤◌}
use native.Mathlib.Omega.{arith}
use lib.Dec.{T, eqb}
use lib.ListN.{length, get_or}
use Rattle.theory.specs.Orders.{ExpM}
use Rattle.theory.specs.Induced
use Rattle.theory.specs.Syzygy.{Covered, Free}
use Rattle.theory.specs.Stage
use Rattle.theory.specs.Stage.{term_at, Real, Framed}
use Rattle.definitions.specs.Lists.{any}
use Rattle.definitions.specs.Monomial.{Exponents, Monomial, product, quotient, lcm, divides_monomial?, leading, leading_monomials, vector_of}
use Rattle.definitions.specs.Frame.{into_ascending, generators, properly_divides?, minimal, frame_of, frame_from, frame}
use Rattle.laws.proofs.Tests.{between_low, between_high, between_shown}
use Rattle.demands.specs.Notions.{Member}
use Rattle.demands.specs.Frames.{times_leading, LeadingSyzygy, IsFrame}
use Rattle.demands.proofs.Exponents.{E, out, over, product_out, out_length, colon, colon_out}
use Rattle.demands.proofs.Levels.{Mono, TLevel, mono, monos, vec, flat, flat_at, flat_length, lm, leading_vec}
use Rattle.demands.proofs.Setting.{Setting, S, L, A, F, red, divided_by, divides_multiple}
use Rattle.demands.proofs.Soundness.{tmono, tmono_mono}
use Rattle.demands.proofs.Members.{member_either, any_says, any_shown, those_says}
use Rattle.demands.proofs.Generators.{into_either}
use Rattle.demands.proofs.Frames.{is_frame, tagged_either}

-- ## A frame term is lcm(l, m) / m of two leading monomials

-- the exponents of a frame term
pub record Colon (ms : List Monomial) (e : Exponents) : Type 0 where
  pub l : Monomial
  pub m : Monomial
  pub l_in : Member l ms
  pub m_in : Member m ms
  pub is : e ≡ quotient (lcm l.0 m.0) m.0

module _ (code : ℕ) where
  generator_colon : (ms earlier : List Monomial) (m : Monomial) → ((l : Monomial) → Member l earlier → Member l ms) → Member m ms
      → (g : Exponents) → Member g (generators code earlier m) → Colon ms g
  generator_colon ms [] m h k g i = absurd i
  generator_colon ms (l ∷ earlier) m h k g i = go (eqb l.1 m.1) i (generator_colon ms earlier m (λ x j. h x (inr j)) k g)
    where
      c : Exponents
      c = quotient (lcm l.0 m.0) m.0

      at : (g ≡ c) ⊎ Member g (generators code earlier m) → (Member g (generators code earlier m) → Colon ms g) → Colon ms g
      at (inl e) r = record { l = l; m = m; l_in = h l (inl refl); m_in = k; is = e }
      at (inr j) r = r j

      go : (s : Bool) → Member g (elim s [ true ↦ into_ascending code c (generators code earlier m) | false ↦ generators code earlier m ])
          → (Member g (generators code earlier m) → Colon ms g) → Colon ms g
      go true i r = at (into_either code c (generators code earlier m) g i) r
      go false i r = r i

  frame_colon_from : (ms rest earlier : List Monomial) (i : ℕ) → ((l : Monomial) → Member l earlier → Member l ms)
      → ((m : Monomial) → Member m rest → Member m ms)
      → (t : Monomial) → Member t (frame_from code i earlier rest) → Colon ms t.0
  frame_colon_from ms [] earlier i h k t m = absurd m
  frame_colon_from ms (x ∷ rest) earlier i h k t m =
      go (member_either t (frame_of code i earlier x) (frame_from code (suc i) (x ∷ earlier) rest) m)
      (frame_colon_from ms rest (x ∷ earlier) (suc i) more (λ y j. k y (inr j)) t)
    where
      more : (l : Monomial) → Member l (x ∷ earlier) → Member l ms
      more l (inl e) = subst (λ z. Member z ms) (sym e) (k x (inl refl))
      more l (inr j) = h l j

      go : Member t (frame_of code i earlier x) ⊎ Member t (frame_from code (suc i) (x ∷ earlier) rest)
          → (Member t (frame_from code (suc i) (x ∷ earlier) rest) → Colon ms t.0) → Colon ms t.0
      go (inl j) r =
          let g : Member t.0 (minimal (generators code earlier x)) = (tagged_either i (minimal (generators code earlier x)) t j).1 in
          generator_colon ms earlier x h (k x (inl refl)) t.0 (those_says (λ g. not (any (λ h. properly_divides? h g) (generators code earlier x)))
          (generators code earlier x) t.0 g).0
      go (inr j) r = r j

  pub frame_colon : (ms : List Monomial) (t : Monomial) → Member t (frame code ms) → Colon ms t.0
  frame_colon ms t m = frame_colon_from ms ms [] 1 (λ l i. absurd i) (λ x i. i) t m

-- ## The frame of a setting

module _ (Z : Setting) (eight : Z.n ≤ 8) (code : ℕ) where
  -- the definitions' frame
  abbrev pub frame_terms : List Monomial
  frame_terms = frame code (leading_monomials (flat Z.n Z.f))

  leading_at : (j : ℕ) → j < length Z.f → leading (vector_of (flat Z.n Z.f) (suc j)) ≡ mono Z.n (lm Z.n Z.f j)
  leading_at j l = ap leading (flat_at Z.n Z.f j) ∙ leading_vec Z.n (get_or Z.f j []) (Z.somes j l)

  is_frame_here : IsFrame code (flat Z.n Z.f) frame_terms
  is_frame_here = is_frame code (flat Z.n Z.f) (λ j l.
      let k : j < length Z.f = subst (λ z. j < z) (flat_length Z.n Z.f) l in
      ap (λ (z : Monomial). length z.0) (leading_at j k) ∙ out_length Z.n eight (lm Z.n Z.f j).0)

  -- each leading monomial is one of f's
  leading_member : (g : TLevel Z.n) → ((j : ℕ) → j < length g → (k : ℕ) × (k < length Z.f) × (get_or g j [] ≡ get_or Z.f k [])) → (m : Monomial)
      → Member m (leading_monomials (flat Z.n g)) → (j : ℕ) × (j < length Z.f) × (m ≡ mono Z.n (lm Z.n Z.f j))
  leading_member [] h m i = absurd i
  leading_member (v ∷ g) h m (inl e) =
      let (k, l, q) = h 0 (omega arith) in
      (k, l, e ∙ ap (λ w. leading (vec Z.n w)) q ∙ leading_vec Z.n (get_or Z.f k []) (Z.somes k l))
  leading_member (v ∷ g) h m (inr i) = leading_member g (λ j l. h (suc j) (omega arith)) m i

  -- a frame term is written by the theory: lcm(LM f_j, LM f_i) / LM f_i
  pub record Written (t : Monomial) : Type 0 where
    pub x : Mono Z.n
    pub is : t ≡ mono Z.n x
    pub from : ℕ
    pub from_in : from < length Z.f
    pub by : E Z.n
    pub colon_is : x.0 ≡ colon Z.n (lm Z.n Z.f from).0 by

  pub written : (t : Monomial) → Member t frame_terms → Written t
  written t m = record {
    x = (colon Z.n a.0 b.0, t.1 - 1);
    is = λ i. (exponents i, component i);
    from = la.0;
    from_in = la.1;
    by =
        b.0;
    colon_is = refl;
  }
    where
      c : Colon (leading_monomials (flat Z.n Z.f)) t.0
      c = frame_colon code (leading_monomials (flat Z.n Z.f)) t m

      all : (j : ℕ) → j < length Z.f → (k : ℕ) × (k < length Z.f) × (get_or Z.f j [] ≡ get_or Z.f k [])
      all j l = (j, l, refl)

      la : (j : ℕ) × (j < length Z.f) × (c.l ≡ mono Z.n (lm Z.n Z.f j))
      la = leading_member Z.f all c.l c.l_in

      lb : (j : ℕ) × (j < length Z.f) × (c.m ≡ mono Z.n (lm Z.n Z.f j))
      lb = leading_member Z.f all c.m c.m_in

      a : Mono Z.n
      a = lm Z.n Z.f la.0

      b : Mono Z.n
      b = lm Z.n Z.f lb.0

      exponents : t.0 ≡ out Z.n (colon Z.n a.0 b.0)
      exponents = c.is ∙ ap₂ (λ (y z : Monomial). quotient (lcm y.0 z.0) z.0) la.2 lb.2 ∙ colon_out Z.n a.0 b.0

      component : t.1 ≡ suc (t.1 - 1)
      component = let l : 1 ≤ t.1 = between_low 1 t.1 (length (flat Z.n Z.f)) (is_frame_here.only t m).1.in_range in omega arith

  -- ## As a list of the theory

  abbrev pub tmonos : List Monomial → List (Mono Z.n)
  tmonos [] = []
  tmonos (t ∷ ts) = tmono Z.n t ∷ tmonos ts

  monos_back : (ts : List Monomial) → ((t : Monomial) → Member t ts → Written t) → monos Z.n (tmonos ts) ≡ ts
  monos_back [] h = refl
  monos_back (t ∷ ts) h = ap₂ (λ x y. x ∷ y) (back (h t (inl refl))) (monos_back ts (λ u i. h u (inr i)))
    where
      back : Written t → mono Z.n (tmono Z.n t) ≡ t
      back w = ap (λ z. mono Z.n (tmono Z.n z)) w.is ∙ ap (mono Z.n) (tmono_mono Z.n w.x) ∙ sym w.is

  -- the frame terms, in the theory
  abbrev pub terms : List (Mono Z.n)
  terms = tmonos frame_terms

  pub terms_back : monos Z.n terms ≡ frame_terms
  terms_back = monos_back frame_terms written

  monos_at : (xs : List (Mono Z.n)) (k : ℕ) → k < length xs → Member (mono Z.n (term_at (ExpM Z.n) xs k)) (monos Z.n xs)
  monos_at [] k l = absurd (omega arith)
  monos_at (x ∷ xs) zero l = inl refl
  monos_at (x ∷ xs) (suc k) l = inr (monos_at xs k (omega arith))

  pub term_in : (k : ℕ) → k < length terms → Member (mono Z.n (term_at (ExpM Z.n) terms k)) frame_terms
  term_in k l = subst (Member (mono Z.n (term_at (ExpM Z.n) terms k))) terms_back (monos_at terms k l)

  monos_find : (xs : List (Mono Z.n)) (t : Monomial) → Member t (monos Z.n xs) → (k : ℕ) × (k < length xs)
      × (t ≡ mono Z.n (term_at (ExpM Z.n) xs k))
  monos_find [] t x' = elim x' [ ]
  monos_find (x ∷ xs) t (inl e) = (0, omega arith, e)
  monos_find (x ∷ xs) t (inr m) = let (k, l, e) = monos_find xs t m in (suc k, omega arith, e)

  -- ## A frame of the theory

  -- m · LM f_i, of m · e_i
  times_is : (x : Mono Z.n) → x.1 < length Z.f → times_leading (flat Z.n Z.f) (mono Z.n x)
      ≡ mono Z.n (Induced.image (L Z) (A Z).lm x)
  times_is x l = ap (λ (m : Monomial). (product (out Z.n x.0) m.0, m.1)) (leading_at x.1 l) ∙ λ i.
      (product_out Z.n x.0 (lm Z.n Z.f x.1).0 i, suc (lm Z.n Z.f x.1).1)

  flat_size : length (flat Z.n Z.f) ≡ length Z.f
  flat_size = flat_length Z.n Z.f

  syzygy_real : (x : Mono Z.n) → LeadingSyzygy (flat Z.n Z.f) (mono Z.n x) → Real (S Z) (L Z) (A Z) x
  syzygy_real x h = (inside, ((over Z.n im.0 (lm Z.n Z.f k).0, k), below, divided_by Z.n (lm Z.n Z.f k) im divides))
    where
      k : ℕ
      k = h.j - 1

      im : Mono Z.n
      im = Induced.image (L Z) (A Z).lm x

      low : 1 ≤ h.j
      low = between_low 1 h.j (suc x.1 - 1) h.earlier

      high : h.j ≤ suc x.1 - 1
      high = between_high 1 h.j (suc x.1 - 1) h.earlier

      inside : x.1 < length Z.f
      inside = let l : suc x.1 ≤ length (flat Z.n Z.f) = between_high 1 (suc x.1) (length (flat Z.n Z.f)) h.in_range in
          omega (arith, flat_size)

      below : k < x.1
      below = omega (arith, low, high)

      number : h.j ≡ suc k
      number = omega (arith, low)

      divides : T (divides_monomial? (mono Z.n (lm Z.n Z.f k)) (mono Z.n im))
      divides = subst₂ (λ l m. T (divides_monomial? l m)) (ap (λ z. leading (vector_of (flat Z.n Z.f) z)) number ∙ leading_at k
          (omega (arith, below, inside))) (times_is x inside) h.divides

  real_syzygy : (x z : Mono Z.n) → x.1 < length Z.f → z.1 < x.1 → Induced.image (L Z) (A Z).lm z ≡ Induced.image (L Z) (A Z).lm x
      → LeadingSyzygy (flat Z.n Z.f) (mono Z.n x)
  real_syzygy x z l k e = record {
    in_range = between_shown 1 (suc x.1) (length (flat Z.n Z.f)) (omega arith) (omega (arith, flat_size));
    j = suc z.1;
    earlier = between_shown 1 (suc z.1) (suc x.1 - 1) (omega arith) (omega arith);
    divides = subst₂ (λ y m. T (divides_monomial? y m)) (sym (leading_at z.1 (omega arith))) (sym (times_is x l))
        (divides_multiple Z.n (lm Z.n Z.f z.1) (Induced.image (L Z) (A Z).lm x) z.0 e);
  }

  pub covered : (b : Mono Z.n) → b.1 < length Z.f
      → Covered (S Z) (L Z) (F Z) (term_at (ExpM Z.n) terms) (λ (k : ℕ). k < length terms) b ⊎ Free (S Z) (L Z) (F Z) b
  covered b l = go (any (λ t. divides_monomial? t (mono Z.n b)) frame_terms) (any_says (λ t. divides_monomial? t (mono Z.n b)) frame_terms)
      (any_shown (λ t. divides_monomial? t (mono Z.n b)) frame_terms)
    where
      here : (t : Monomial) × Member t frame_terms × T (divides_monomial? t (mono Z.n b))
          → Covered (S Z) (L Z) (F Z) (term_at (ExpM Z.n) terms) (λ (k : ℕ). k < length terms) b
      here (t, m, d) =
          let (k, i, e) = monos_find terms t (subst (Member t) (sym terms_back) m) in
          let x : Mono Z.n = term_at (ExpM Z.n) terms k in
          record {
            number = k;
            dom = i;
            factor = over Z.n b.0 x.0;
            divides =
                divided_by Z.n x b (subst (λ z. T (divides_monomial? z (mono Z.n b))) e d);
          }

      go : (s : Bool) → (T s → (t : Monomial) × Member t frame_terms × T (divides_monomial? t (mono Z.n b)))
          → ((t : Monomial) → Member t frame_terms → T (divides_monomial? t (mono Z.n b)) → T s)
          → Covered (S Z) (L Z) (F Z) (term_at (ExpM Z.n) terms) (λ (k : ℕ). k < length terms) b ⊎ Free (S Z) (L Z) (F Z) b
      go true f k = inl (here (f tt))
      go false f k = inr (λ z dz i e.
          let (u, m, d) = is_frame_here.covers (mono Z.n b) (out_length Z.n eight b.0) (real_syzygy b z l i e) in
          k u m d)

  -- a frame term has the image of a module monomial with a lower number
  pub term_real : (x : Mono Z.n) → Member (mono Z.n x) frame_terms → Real (S Z) (L Z) (A Z) x
  term_real x m = syzygy_real x (is_frame_here.only (mono Z.n x) m).1

  abbrev pub framed : Framed (S Z) (L Z) (A Z)
  framed = record { terms = terms; covers = covered; real = λ k l. term_real (term_at (ExpM Z.n) terms k) (term_in k l) }

  abbrev pub theory_stage : Stage.Stage (S Z) (ExpM Z.n)
  theory_stage = record { L = L Z; A = A Z; reducer = red Z; framed = framed }
