-- An element more, the value that 9 shows made monic: the same module, a leading monomial that no earlier one divides.
use mathlib.Core.Path.{◌≡◌, refl, sym, ap, ap₂, ◌∙◌, subst}
use mathlib.Core.Logic.{◌⊎◌, inl, inr}
use mathlib.Core.Bool.{Bool, true, false}
use mathlib.Core.List.{[], ◌∷◌, ◌++◌, append_assoc, append-nil}
use Prim.Native.Nat.{ℕ, zero, suc, ◌+◌, ◌-◌, ◌<◌, ◌≤◌}
use native.Mathlib.Omega.{arith}
use lib.Dec.{T, eqb, eqb→eq, eqb_refl}
use lib.ListN.{length, get_or, take, drop, length-append, get_or-append}
use lib.Seq.{take_at, get_or_at}
use Rattle.theory.specs.Laws.{Scalars}
use Rattle.theory.specs.Laws
use Rattle.theory.specs.Vec.{Vec, ev, Same, scale, mapB, lin, times, ψ}
use Rattle.theory.specs.Induced.{indAct}
use Rattle.theory.specs.Orders.{ExpM}
use Rattle.theory.specs.Modular.{ModP}
use Rattle.theory.proofs.Vec
use Rattle.theory.proofs.Schreyer.{ψ_act}
use Rattle.definitions.specs.Limits.{Limits}
use Rattle.definitions.specs.Lists.{◌and◌, every, between}
use Rattle.definitions.specs.Field
use Rattle.definitions.specs.Monomial
use Rattle.definitions.specs.Monomial.{Monomial, Term, Vector, leading_term, leading, vector_of}
use Rattle.definitions.specs.Order.{Comparison, greater?}
use Rattle.definitions.specs.Vectors.{strictly_descending?}
use Rattle.definitions.specs.Stage.{highest}
use Rattle.definitions.specs.Problem.{Parameters}
use Rattle.definitions.specs.State.{term_sound?, levels_sound?}
use Rattle.definitions.specs.Reckoning.{scaled}
use Rattle.laws.proofs.Modular.{Prime}
use Rattle.laws.proofs.Tests.{and_left, and_right, and_both, between_low, between_high, between_shown}
use Rattle.laws.proofs.Sound.{term_says, term_shown}
use Rattle.demands.specs.Notions.{proper_term?, proper?, multiples, put_for, coefficient, Combination, Divided}
use Rattle.demands.specs.Exact.{ShowsWhy}
use Rattle.demands.proofs.Levels.{Mono, TVec, TLevel, vec, flat, flat_length, module_over}
use Rattle.demands.proofs.Coefficients.{Good, good_nonzero, good_below, good_range}
use Rattle.demands.proofs.Soundness.{tmono, tvec, tlevel, VectorRight, vector_right, LevelsRight, levels_right}
use Rattle.demands.proofs.Notions.{same_equal, put_for_is, equal_same}
use Rattle.demands.proofs.Bases.{Ranged, proper_shown, Proper, proper_says}
use Rattle.definitions.specs.Completing.{monic}
use Rattle.completions.specs.Completes.{Grows, stays, grows, Grown}

-- ## A vector times a number

scaled_leads : (p c : ℕ) (v : Vector) → leading (scaled p c v) ≡ leading v
scaled_leads p c [] = refl
scaled_leads p c (t ∷ v) = refl

pub scaled_length : (p c : ℕ) (v : Vector) → length (scaled p c v) ≡ length v
scaled_length p c [] = refl
scaled_length p c (t ∷ v) = ap suc (scaled_length p c v)

pub scaled_descends : (order : Monomial → Monomial → Comparison) (p c : ℕ) (v : Vector) → T (strictly_descending? order v)
    → T (strictly_descending? order (scaled p c v))
scaled_descends order p c [] d = tt
scaled_descends order p c (t ∷ []) d = tt
scaled_descends order p c (t ∷ u ∷ v) d =
    and_both (greater? (order t.1 u.1)) (strictly_descending? order (scaled p c (u ∷ v)))
    (and_left (greater? (order t.1 u.1)) (strictly_descending? order (u ∷ v)) d)
    (scaled_descends order p c (u ∷ v) (and_right (greater? (order t.1 u.1)) (strictly_descending? order (u ∷ v)) d))

tvec_scaled : (n p : ℕ) (P : Prime p) (c : ℕ) (v : Vector) → tvec n (scaled p c v) ≡ scale (ModP p P) c (tvec n v)
tvec_scaled n p P c [] = refl
tvec_scaled n p P c (t ∷ v) = ap (λ z. (Field.times p c t.0, tmono n t.1) ∷ z) (tvec_scaled n p P c v)

-- ## Linear maps

module _ (S : Scalars) {B C : Type 0} (h : B → Vec S C) where
  lin_scale : (c : S.K) (v : Vec S B) → Same S (lin S h (scale S c v)) (scale S c (lin S h v))
  lin_scale c v = record {
    at = λ φ. Vec.ev_lin S φ h (scale S c v) ∙ Vec.ev_scale S (λ b. ev S φ (h b)) c v ∙ ap (S.mul c) (sym (Vec.ev_lin S φ h v)) ∙ sym
        (Vec.ev_scale S φ c (lin S h v));
  }

  lin_append : (v w : Vec S B) → Same S (lin S h (v ++ w)) (lin S h v ++ lin S h w)
  lin_append v w = record {
    at = λ φ. Vec.ev_lin S φ h (v ++ w) ∙ Vec.ev_append S (λ b. ev S φ (h b)) v w ∙ ap₂ S.add (sym (Vec.ev_lin S φ h v)) (sym (Vec.ev_lin S φ h w))
        ∙ sym (Vec.ev_append S φ (lin S h v) (lin S h w));
  }

flat_append : (n : ℕ) (f : TLevel n) (v : TVec n) → flat n (f ++ v ∷ []) ≡ flat n f ++ vec n v ∷ []
flat_append n [] v = refl
flat_append n (u ∷ f) v = ap (λ z. vec n u ∷ z) (flat_append n f v)

-- ## More elements, the old combinations

module _ (q : Parameters) (f g : Monomial.Level) where
  vector_more : (i : ℕ) → 1 ≤ i → i ≤ length f → vector_of (f ++ g) i ≡ vector_of f i
  vector_more zero l h = absurd (omega arith)
  vector_more (suc i) l h = get_or-append f g [] i (omega arith)

  abbrev rest? : ℕ → Term → Bool
  rest? r t = every (λ x. eqb x 0) (drop q.n t.1.0) and between 1 t.1.1 r

  proper_between : (r : ℕ) (t : Term) → T (proper_term? q r t) → T (between 1 t.1.1 r)
  proper_between r t h =
      and_right (every (λ x. eqb x 0) (drop q.n t.1.0)) (between 1 t.1.1 r) (and_right (eqb (length t.1.0) 8) (rest? r t) h)

  proper_term_more : (t : Term) → T (proper_term? q (length f) t) → T (proper_term? q (length (f ++ g)) t)
  proper_term_more t h =
      let z = every (λ x. eqb x 0) (drop q.n t.1.0) in
      let b = proper_between (length f) t h in
      and_both (eqb (length t.1.0) 8) (rest? (length (f ++ g)) t) (and_left (eqb (length t.1.0) 8) (rest? (length f) t) h)
      (and_both z (between 1 t.1.1 (length (f ++ g)))
      (and_left z (between 1 t.1.1 (length f)) (and_right (eqb (length t.1.0) 8) (rest? (length f) t) h))
      (between_shown 1 t.1.1 (length (f ++ g)) (between_low 1 t.1.1 (length f) b)
      (omega (arith, between_high 1 t.1.1 (length f) b, length-append f g))))

  proper_more : (c : Vector) → T (proper? q (length f) c) → T (proper? q (length (f ++ g)) c)
  proper_more [] h = tt
  proper_more (t ∷ c) h =
      and_both (proper_term? q (length (f ++ g)) t) (proper? q (length (f ++ g)) c)
      (proper_term_more t (and_left (proper_term? q (length f) t) (proper? q (length f) c) h))
      (proper_more c (and_right (proper_term? q (length f) t) (proper? q (length f) c) h))

  put_more : (c : Vector) → T (proper? q (length f) c) → put_for q.p (f ++ g) c ≡ put_for q.p f c
  put_more [] h = refl
  put_more (t ∷ c) h =
      let b = proper_between (length f) t (and_left (proper_term? q (length f) t) (proper? q (length f) c) h) in
      ap₂ (λ x y. multiples q.p t.0 t.1.0 x ++ y)
      (vector_more t.1.1 (between_low 1 t.1.1 (length f) b) (between_high 1 t.1.1 (length f) b))
      (put_more c (and_right (proper_term? q (length f) t) (proper? q (length f) c) h))

  combination_more : (v : Vector) → Combination q f v → Combination q (f ++ g) v
  combination_more v c = record {
    by = c.by;
    proper = proper_more c.by c.proper;
    is = λ m. c.is m ∙ ap (coefficient q.p m) (sym (put_more c.by c.proper));
  }

-- ## The value made monic

module _ (lim : Limits) (q : Parameters) (P : Prime q.p) (eight : q.n ≤ 8) where
  abbrev n : ℕ
  n = q.n

  abbrev S : Scalars
  S = ModP q.p P

  abbrev L : Laws.Level (ExpM q.n)
  L = module_over q.n q.code []

  inverse_nonzero : (a : ℕ) → ¬ (Field.times q.p 1 a ≡ 0) → ¬ (Field.times q.p 1 (Field.inverse q.p a) ≡ 0)
  inverse_nonzero a h e = S.one≢zero (sym (S.inv_mul a h) ∙ Vec.zero_term S (Field.inverse q.p a) a e)

  term_nonzero : (r : ℕ) (t : Term) → T (term_sound? lim q r t) → ¬ (Field.times q.p 1 t.0 ≡ 0)
  term_nonzero r t h =
      let s = (term_says lim q r t h).coefficient in
      (good_range q.p P t.0 (between_low 1 t.0 (q.p - 1) s) (between_high 1 t.0 (q.p - 1) s)).0

  scaled_term : (r c : ℕ) → ¬ (Field.times q.p 1 c ≡ 0) → (t : Term) → T (term_sound? lim q r t)
      → T (term_sound? lim q r (Field.times q.p c t.0, t.1))
  scaled_term r c h t k =
      let s = term_says lim q r t k in
      let g : Good q.p (Field.times q.p c t.0) = (Vec.nonzero_mul S c t.0 h (term_nonzero r t k), S.one_mul_mul c t.0) in
      let a = good_nonzero q.p P (Field.times q.p c t.0) g in
      let b : Field.times q.p c t.0 < q.p = good_below q.p P (Field.times q.p c t.0) g in
      term_shown lim q r (Field.times q.p c t.0, t.1) (record {
        coefficient = between_shown 1 (Field.times q.p c t.0) (q.p - 1) (omega arith) (omega arith);
        component = s.component;
        eight = s.eight;
        fits = s.fits;
        past = s.past;
      })

  scaled_sound : (r c : ℕ) → ¬ (Field.times q.p 1 c ≡ 0) → (v : Vector) → T (every (term_sound? lim q r) v)
      → T (every (term_sound? lim q r) (scaled q.p c v))
  scaled_sound r c h [] k = tt
  scaled_sound r c h (t ∷ v) k =
      and_both (term_sound? lim q r (Field.times q.p c t.0, t.1)) (every (term_sound? lim q r) (scaled q.p c v))
      (scaled_term r c h t (and_left (term_sound? lim q r t) (every (term_sound? lim q r) v) k))
      (scaled_sound r c h v (and_right (term_sound? lim q r t) (every (term_sound? lim q r) v) k))

  -- a value that is not zero and whose terms are in range
  pub record Monic (v : Vector) : Type 0 where
    pub factor : ¬ (Field.times q.p 1 (Field.inverse q.p (leading_term v).0) ≡ 0)
    pub sound : T (every (term_sound? lim q q.s) (monic q.p v))
    pub one : (leading_term (monic q.p v)).0 ≡ 1
    pub filled : 1 ≤ length (monic q.p v)

  pub monic_is : (v : Vector) → T (every (term_sound? lim q q.s) v) → 1 ≤ length v → Monic v
  monic_is [] h l = absurd (omega arith)
  monic_is (t ∷ v) h l = record {
    factor = k;
    sound = scaled_sound q.s (Field.inverse q.p t.0) k (t ∷ v) h;
    one = S.inv_mul t.0 nz;
    filled = omega arith;
  }
    where
      nz : ¬ (Field.times q.p 1 t.0 ≡ 0)
      nz = term_nonzero q.s t (and_left (term_sound? lim q q.s t) (every (term_sound? lim q q.s) v) h)

      k : ¬ (Field.times q.p 1 (Field.inverse q.p t.0) ≡ 0)
      k = inverse_nonzero t.0 nz

  pub shown_filled : (f : Monomial.Level) (v : Vector) → ShowsWhy lim q f v → 1 ≤ length v
  shown_filled f v w = go v (λ z. w.not_zero (λ m. ap (coefficient q.p m) z))
    where
      go : (v : Vector) → (v ≡ [] → ⊥) → 1 ≤ length v
      go [] h = absurd (h refl)
      go (t ∷ v) h = omega arith

  -- ## The new element brings nothing new

  module _ (f : TLevel n) (m u : TVec n) (ranged : Ranged q eight (length f) u) (same : Same S m (ψ S L (λ j. get_or f j []) u)) where
    abbrev fam : ℕ → TVec n
    fam j = get_or f j []

    abbrev fam' : ℕ → TVec n
    fam' j = get_or (f ++ m ∷ []) j []

    -- terms over the old elements in place of one over the new ones
    record Instead (t : ℕ × Mono n) : Type 0 where
      new : TVec n
      inside : Ranged q eight (length f) new
      is : Same S (scale S t.0 (times S L fam' t.1)) (ψ S L fam new)

    ranged_append : (v w : TVec n) → Ranged q eight (length f) v → Ranged q eight (length f) w → Ranged q eight (length f) (v ++ w)
    ranged_append [] w a b = b
    ranged_append (t ∷ v) w a b = (a.0, ranged_append v w a.1 b)

    ranged_act : (c : ℕ) (e : (ExpM n).E) (v : TVec n) → Ranged q eight (length f) v
        → Ranged q eight (length f) (scale S c (mapB S (indAct L (λ j. (e, j)) e) v))
    ranged_act c e [] h = tt
    ranged_act c e (t ∷ v) h = (h.0, ranged_act c e v h.1)

    instead : (t : ℕ × Mono n) → t.1.1 < suc (length f) → Instead t
    instead t l = go (place t.1.1 l)
      where
        place : (j : ℕ) → j < suc (length f) → (j < length f) ⊎ (j ≡ length f)
        place j l = at (eqb j (length f)) (eqb→eq j (length f)) (λ e. subst (λ z. T (eqb j z)) e (eqb_refl j))
          where
            at : (b : Bool) → (T b → j ≡ length f) → (j ≡ length f → T b) → (j < length f) ⊎ (j ≡ length f)
            at true h k = inr (h tt)
            at false h k = inl (below k)
              where
                below : (j ≡ length f → ⊥) → j < length f
                below x = omega arith

        go : (t.1.1 < length f) ⊎ (t.1.1 ≡ length f) → Instead t
        go (inl i) = record {
          new = t ∷ [];
          inside = (i, tt);
          is = subst (λ z. Same S (scale S t.0 (mapB S (L.act t.1.0) z)) (ψ S L fam (t ∷ []))) (sym (get_or-append f (m ∷ []) [] t.1.1 i))
              (Vec.same_nil S (scale S t.0 (times S L fam t.1)));
        }
        go (inr e) = record {
          new = scale S t.0 (mapB S (indAct L (λ j. (t.1.0, j)) t.1.0) u);
          inside = ranged_act t.0 t.1.0 u ranged;
          is = subst (λ z. Same S (scale S t.0 (mapB S (L.act t.1.0) z))
              (ψ S L fam (scale S t.0 (mapB S (indAct L (λ j. (t.1.0, j)) t.1.0) u))))
              (sym (get_or_at f m [] [] t.1.1 (sym e)))
              (Vec.same_trans S (Vec.same_scale S t.0
              (Vec.same_trans S (Vec.same_map S (L.act t.1.0) same) (Vec.same_sym S (ψ_act S L fam (λ j. (t.1.0, j)) t.1.0 u))))
              (Vec.same_sym S (lin_scale S (times S L fam) t.0 (mapB S (indAct L (λ j. (t.1.0, j)) t.1.0) u))));
        }

    all_instead : (w : TVec n) → Ranged q eight (suc (length f)) w
        → (v : TVec n) × Ranged q eight (length f) v × Same S (ψ S L fam' w) (ψ S L fam v)
    all_instead [] r = ([], tt, Vec.same_refl S)
    all_instead (t ∷ w) r =
        let h : Instead t = instead t r.0 in
        let (v, k, e) = all_instead w r.1 in (
          h.new ++ v,
          ranged_append h.new v h.inside k,
          Vec.same_trans S (Vec.same_append S {v = scale S t.0 (times S L fam' t.1)} {v' = ψ S L fam h.new} {w = ψ S L fam' w} {w' = ψ S L fam v}
              h.is e)
              (Vec.same_sym S (lin_append S (times S L fam) h.new v)),
        )

    combination_less : (v : Vector) → Combination q (flat n (f ++ m ∷ [])) v → Combination q (flat n f) v
    combination_less v c = record {
      by = vec n r.0;
      proper = proper_shown q eight (length (flat n f)) r.0 (subst (λ z. Ranged q eight z r.0) (sym (flat_length n f)) r.1);
      is = λ x. c.is x ∙ ap (coefficient q.p x)
          (ap (put_for q.p (flat n (f ++ m ∷ []))) (sym pr.back) ∙ put_for_is n q.p P q.code [] (f ++ m ∷ []) w)
          ∙ same_equal n q.p P (ψ S L fam' w) (ψ S L fam r.0) r.2 x ∙ ap (coefficient q.p x) (sym (put_for_is n q.p P q.code [] f r.0));
    }
      where
        pr : Proper q eight (length (flat n (f ++ m ∷ []))) c.by
        pr = proper_says q eight (length (flat n (f ++ m ∷ []))) c.by c.proper

        w : TVec n
        w = tvec n c.by

        size : length (flat n (f ++ m ∷ [])) ≡ suc (length f)
        size = flat_length n (f ++ m ∷ []) ∙ length-append f (m ∷ []) ∙ one (length f)
          where
            one : (k : ℕ) → k + 1 ≡ suc k
            one k = omega arith

        r : (v : TVec n) × Ranged q eight (length f) v × Same S (ψ S L fam' w) (ψ S L fam v)
        r = all_instead w (subst (λ z. Ranged q eight z w) size pr.ranged)

  -- ## An element more

  module _ (f : Monomial.Level) (s : T (levels_sound? lim q (f ∷ []))) (value : Vector) (w : ShowsWhy lim q f value) where
    abbrev new : Vector
    new = monic q.p value

    abbrev factor : ℕ
    factor = Field.inverse q.p (leading_term value).0

    M : Monic value
    M = monic_is value w.sound (shown_filled f value w)

    right : LevelsRight lim q P eight (f ∷ [])
    right = levels_right lim q P eight (f ∷ []) s

    abbrev F : TLevel n
    F = tlevel n f

    flat_is : flat n F ≡ f
    flat_is = ap highest right.back

    size : length F ≡ length f
    size = sym (flat_length n F) ∙ ap length flat_is

    old_right : VectorRight lim q P eight [] tt q.s (λ x h. tt) value
    old_right = vector_right lim q P eight [] tt q.s (λ x h. tt) value w.sound

    new_right : VectorRight lim q P eight [] tt q.s (λ x h. tt) new
    new_right = vector_right lim q P eight [] tt q.s (λ x h. tt) new M.sound

    pr : Proper q eight (length f) w.combination.by
    pr = proper_says q eight (length f) w.combination.by w.combination.proper

    abbrev u : TVec n
    u = tvec n w.combination.by

    value_same : Same S (tvec n value) (ψ S L (λ j. get_or F j []) u)
    value_same = equal_same n q.p P q.code [] (tvec n value) (ψ S L (λ j. get_or F j []) u) (λ m.
        ap (coefficient q.p m) old_right.back ∙ w.combination.is m
        ∙ ap (coefficient q.p m) (ap (λ z. put_for q.p z w.combination.by) (sym flat_is) ∙ ap (put_for q.p (flat n F)) (sym pr.back)
        ∙ put_for_is n q.p P q.code [] F u))

    new_same : Same S (tvec n new) (ψ S L (λ j. get_or F j []) (scale S factor u))
    new_same = subst (λ z. Same S z (ψ S L (λ j. get_or F j []) (scale S factor u))) (sym (tvec_scaled n q.p P factor value))
        (Vec.same_trans S (Vec.same_scale S factor value_same) (Vec.same_sym S (lin_scale S (times S L (λ j. get_or F j [])) factor u)))

    ranged_scale : (c : ℕ) (v : TVec n) → Ranged q eight (length f) v → Ranged q eight (length F) (scale S c v)
    ranged_scale c [] h = tt
    ranged_scale c (t ∷ v) h = (subst (λ z. t.1.1 < z) (sym size) h.0, ranged_scale c v h.1)

    flat_new : flat n (F ++ tvec n new ∷ []) ≡ f ++ new ∷ []
    flat_new = flat_append n F (tvec n new) ∙ ap₂ (λ x y. x ++ y ∷ []) flat_is new_right.back

    pub grown_less : (v : Vector) → Combination q (f ++ monic q.p value ∷ []) v → Combination q f v
    grown_less v c = subst (λ z. Combination q z v) flat_is
        (combination_less F (tvec n new) (scale S factor u) (ranged_scale factor u pr.ranged) new_same v (subst (λ z. Combination q z v) (sym flat_new) c))

    new_undivided : ¬ (Divided f (leading new))
    new_undivided h = w.undivided (subst (Divided f) (scaled_leads q.p factor value) h)

    -- what the new elements are
    module _ (g : Monomial.Level) (G : Grown q (f ++ new ∷ []) g) where
      added : Monomial.Level
      added = G.extends.0

      g_is : g ≡ f ++ new ∷ added
      unfolding added
      g_is = G.extends.1 ∙ append_assoc f (new ∷ []) G.extends.0

      longer : length (f ++ new ∷ []) ≡ suc (length f)
      longer = length-append f (new ∷ []) ∙ one (length f)
        where
          one : (k : ℕ) → k + 1 ≡ suc k
          one k = omega arith

      -- the first new one, or a later one
      at_first : (X : ℕ → Type 0) → X (suc (length f)) → ((i : ℕ) → length (f ++ new ∷ []) < i → i ≤ length g → X i) → (i : ℕ) → length f < i → i ≤ length g
          → X i
      at_first X x h i l k = go (eqb i (suc (length f))) (eqb→eq i (suc (length f))) (λ e. subst (λ z. T (eqb i z)) e (eqb_refl i))
        where
          go : (b : Bool) → (T b → i ≡ suc (length f)) → (i ≡ suc (length f) → T b) → X i
          go true a c = subst X (sym (a tt)) x
          go false a c = h i (later c) k
            where
              later : (i ≡ suc (length f) → ⊥) → length (f ++ new ∷ []) < i
              later y = omega (arith, longer)

      first_is : vector_of g (suc (length f)) ≡ new
      first_is = ap (λ z. get_or z (length f) []) g_is ∙ get_or_at f new added [] (length f) refl

      before_is : take (suc (length f) - 1) g ≡ f
      before_is = let z : suc (length f) - 1 ≡ length f = omega arith in
          ap (λ k. take k g) z ∙ ap (take (length f)) g_is ∙ take_at f (new ∷ added) (length f) refl

      one_more : Grown q f g
      one_more = record {
        extends = (new ∷ added, g_is);
        same_module = λ v. ((λ c. (G.same_module v).0 (combination_more q f (new ∷ []) v c)), (λ c. grown_less v ((G.same_module v).1 c)));
        undivided = at_first (λ i. ¬ (Divided (take (i - 1) g) (leading (vector_of g i))))
            (subst (λ z. ¬ (Divided z (leading (vector_of g (suc (length f)))))) (sym before_is)
            (subst (λ z. ¬ (Divided f (leading z))) (sym first_is) new_undivided))
            G.undivided;
        monics = at_first (λ i. (leading_term (vector_of g i)).0 ≡ 1) (ap (λ z. (leading_term z).0) first_is ∙ M.one) G.monics;
      }

  pub grown : (n : ℕ) (f g : Monomial.Level) → Grows lim n q f g → Grown q f g
  grown n f g stays = record {
    extends = ([], sym (append-nil f));
    same_module = λ v. ((λ c. c), (λ c. c));
    undivided = λ i l k. absurd (omega arith);
    monics = λ i l k. absurd (omega arith);
  }
  grown n f g (grows s value w h) = one_more f s value w.why g (grown n (f ++ monic q.p value ∷ []) g h)
