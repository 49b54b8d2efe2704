-- A division of A12: quotients applied to the elements, the value and the remainder together stay the vector; no remainder term has a reducer; it descends.
use mathlib.Core.Path.{◌≡◌, refl, sym, ap, ap₂, ◌∙◌, subst}
use mathlib.Core.Logic.{inl, inr}
use mathlib.Core.Bool.{Bool, true, false}
use mathlib.Core.Option.{Option, none, some}
use mathlib.Core.List.{[], ◌∷◌, ◌++◌}
use Prim.Native.Nat.{ℕ, zero, suc, ◌<◌}
use native.Mathlib.Omega.{arith}
use lib.Dec.{T, ltb}
use lib.ListN.{length, get_or}
use Rattle.theory.specs.Laws.{Scalars}
use Rattle.theory.specs.Vec.{ev, Same, scale, All, times, ψ}
use Rattle.theory.specs.Reckon.{Reducer, Lower}
use Rattle.theory.specs.Canon.{Canonical}
use Rattle.theory.proofs.Vec
use Rattle.theory.proofs.Top.{Le}
use Rattle.definitions.specs.Limits.{Limits}
use Rattle.definitions.specs.Lists.{between, without}
use Rattle.definitions.specs.Field
use Rattle.definitions.specs.Monomial.{Vector, fits?}
use Rattle.definitions.specs.Reducer.{Answer, reducer}
use Rattle.definitions.specs.Result.{done, ◌>>=◌}
use Rattle.definitions.specs.Vectors.{store, appended}
use Rattle.definitions.specs.Stage.{Stage}
use Rattle.definitions.specs.Run.{greatest, add_products}
use Rattle.demands.proofs.Results.{Ends, gives, refuses, open_yet, ends_then}
use Rattle.demands.proofs.Exponents.{out, factor_fits}
use Rattle.demands.proofs.Levels.{Mono, TVec, mono, term, vec, vec_append, vec_empty, vec_length, flat_at, cons?, head, lm, Has, has_act}
use Rattle.demands.proofs.Coefficients.{Good, good_mul, good_turned, minus_times, times_one_right}
use Rattle.demands.proofs.Setting.{Setting, S, L, F, hs, Answered, hit, miss, answered, is_lower, answer_rescaled, rescaled}
use Rattle.demands.proofs.Sums.{canonical_good, Like, like_stored, Left, products_added}
use Rattle.demands.proofs.Steps.{stage, InValue, InVector, Sum, Taken, taken}
use Rattle.demands.proofs.Picking.{accepting_picks, greatest_over}
use Rattle.definitions.specs.Membership.{Division, divided, by_reducer, division_step, divide_by, divide}

-- ## Two identities of scalars

module _ (S : Scalars) where
  open S use {K, add, 𝟘, add_comm, add_assoc}

  -- what is added on one side is taken away on the other
  cancels : (a b x y : K) → add b a ≡ 𝟘 → add 𝟘 x ≡ x → add (add a x) (add y b) ≡ add x y
  cancels a b x y z r =
      add_comm _ _ ∙ add_assoc y b (add a x) ∙ ap (add y) (sym (add_assoc b a x) ∙ ap (λ w. add w x) z ∙ r) ∙ add_comm y x

  moves : (p k r t : K) → add (add p k) (add r t) ≡ add (add p (add t k)) r
  moves p k r t = ap (add (add p k)) (add_comm r t) ∙ sym (add_assoc _ _ _) ∙ ap (λ w. add w r) (add_assoc p k t ∙ ap (add p) (add_comm k t))

-- 13 or 14, and no value is left
abbrev pub Limit : ℕ → Vector → Type 0
Limit number value = T (between 13 number 14) × (value ≡ [])

module _ (Z : Setting) (lim : Limits) where
  abbrev K : Stage
  K = stage Z lim

  abbrev n : ℕ
  n = Z.n

  -- below every term of r
  abbrev pub Under : TVec Z.n → Mono Z.n → Type 0
  Under r x = All (S Z) (λ (y : Mono Z.n). (L Z).Lt x y) r

  abbrev pub division_at : TVec Z.n → TVec Z.n → TVec Z.n → Division
  division_at v g r = record { value = vec Z.n g; quotients = vec Z.n v; remainder = vec Z.n r }

  -- quotients v, value g and remainder r of the vector w
  pub record Stands (w v g r : TVec Z.n) : Type 0 where
    pub quotients : Sum Z lim (InVector Z lim) v
    pub value : Sum Z lim (InValue Z lim) g
    pub whole : Same (S Z) ((ψ (S Z) (L Z) (F Z).f v ++ g) ++ r) w
    pub lowers : All (S Z) (Lower (S Z) (L Z) (F Z)) r
    pub canonical : Canonical (S Z) (L Z) r
    pub inside : All (S Z) (InValue Z lim) r
    pub under : All (S Z) (Under r) g

  pub record Stood (w : TVec Z.n) (d : Division) : Type 0 where
    pub v : TVec Z.n
    pub g : TVec Z.n
    pub r : TVec Z.n
    pub is : d ≡ division_at v g r
    pub stands : Stands w v g r

  -- where it ends the value is zero
  pub record Ended (w : TVec Z.n) (d : Division) : Type 0 where
    pub v : TVec Z.n
    pub r : TVec Z.n
    pub is : d ≡ division_at v [] r
    pub stands : Stands w v [] r

  -- ## The remainder grows downward

  canonical_last : (r : TVec n) (c : ℕ) (x : Mono n) → Good Z.p c → Canonical (S Z) (L Z) r → Under r x → Canonical (S Z) (L Z) (r ++ (c, x) ∷ [])
  canonical_last [] c x g k u = (g.0, g.1, tt, tt)
  canonical_last (t ∷ r) c x g k u =
      (k.0, k.1, Vec.all_append (S Z) (λ y. (L Z).Lt y t.1) r ((c, x) ∷ []) k.2 (u.0, tt), canonical_last r c x g k.3 u.1)

  under_last : (r : TVec n) (c : ℕ) (x : Mono n) (g : TVec n) → All (S Z) (Under r) g → All (S Z) (λ (y : Mono n). (L Z).Lt y x) g
      → All (S Z) (Under (r ++ (c, x) ∷ [])) g
  under_last r c x [] u l = tt
  under_last r c x (t ∷ g) u l = (Vec.all_append (S Z) (λ y. (L Z).Lt t.1 y) r ((c, x) ∷ []) u.0 (l.0, tt), under_last r c x g u.1 l.1)

  -- no term of a vector is above its leading one
  at_most_head : (w : TVec n) → T (cons? n w) → Canonical (S Z) (L Z) w → All (S Z) (λ (y : Mono n). Le (S Z) (L Z) y (head n w)) w
  at_most_head [] t k = absurd t
  at_most_head (u ∷ w) t k = (inr refl, Vec.all_map (S Z) (λ y. (L Z).Lt y u.1) (λ y. Le (S Z) (L Z) y u.1) (λ y l. inl l) w k.2)

  both : (X Y : Mono n → Type 0) (w : TVec n) → All (S Z) X w → All (S Z) Y w → All (S Z) (λ (y : Mono n). X y × Y y) w
  both X Y [] a b = tt
  both X Y (t ∷ w) a b = ((a.0, b.0), both X Y w a.1 b.1)

  -- ## One step

  module _ (w v g r : TVec n) (s : Stands w v g r) (i : ℕ) (t : Taken Z lim g i) (over : All (S Z) (λ (y : Mono n). (L Z).Lt y t.x) t.kept) where
    -- the picked term is below the remainder
    x_under : Under r t.x
    x_under = (t.sub (Under r) s.under).0

    -- the term without a reducer moves
    moved_stands : Lower (S Z) (L Z) (F Z) t.x → Stands w v t.kept (r ++ (t.c, t.x) ∷ [])
    moved_stands o = record {
      quotients = s.quotients;
      value = t.rest;
      whole = record { at = λ φ. same φ ∙ s.whole.at φ };
      lowers = Vec.all_append (S Z) (Lower (S Z) (L Z) (F Z)) r ((t.c, t.x) ∷ []) s.lowers (o, tt);
      canonical = canonical_last r t.c t.x t.good s.canonical x_under;
      inside = Vec.all_append (S Z) (InValue Z lim) r ((t.c, t.x) ∷ []) s.inside (t.ok, tt);
      under = under_last r t.c t.x t.kept (t.sub (Under r) s.under).1 over;
    }
      where
        p : TVec n
        p = ψ (S Z) (L Z) (F Z).f v

        last : TVec n
        last = (t.c, t.x) ∷ []

        same : (φ : Mono n → ℕ) → ev (S Z) φ ((p ++ t.kept) ++ (r ++ last)) ≡ ev (S Z) φ ((p ++ g) ++ r)
        same φ =
            let T = (S Z).mul t.c (φ t.x) in
            Vec.ev_append (S Z) φ (p ++ t.kept) (r ++ last)
            ∙ ap₂ (S Z).add (Vec.ev_append (S Z) φ p t.kept) (Vec.ev_append (S Z) φ r last
            ∙ ap ((S Z).add (ev (S Z) φ r)) ((S Z).add_comm T (S Z).𝟘 ∙ (S Z).zero_add_mul t.c (φ t.x)))
            ∙ moves (S Z) (ev (S Z) φ p) (ev (S Z) φ t.kept) (ev (S Z) φ r) T
            ∙ sym (Vec.ev_append (S Z) φ (p ++ g) r ∙ ap (λ z. (S Z).add z (ev (S Z) φ r)) (Vec.ev_append (S Z) φ p g
            ∙ ap ((S Z).add (ev (S Z) φ p)) (t.split.at φ)))

    moved_ends : Lower (S Z) (L Z) (F Z) t.x → (b : Bool)
        → Ends (Stood w) Limit (appended b (term n (t.c, t.x)) (vec n r) >>= λ r'. done
        (record { value = without i (vec n g); quotients = vec n v; remainder = r' }))
    moved_ends o false = refuses (tt, refl)
    moved_ends o true = gives (record {
      v = v;
      g = t.kept;
      r = r ++ (t.c, t.x) ∷ [];
      is = λ j. record { value = t.left_is j; quotients = vec n v; remainder = sym (vec_append n r ((t.c, t.x) ∷ [])) j };
      stands = moved_stands o;
    })

    -- the multiple of the reducer goes to the quotients, and is taken away from the value
    module _ (a : Reducer (S Z) (L Z) (F Z) t.x) where
      abbrev f' : TVec n
      f' = get_or Z.f a.at.1 []

      abbrev q : TVec n
      q = times (S Z) (L Z) (F Z).f a.at

      -- the inverse of the leading coefficient
      abbrev ι : ℕ
      ι = Field.inverse Z.p ((F Z).lead a.at.1 a.dom).coef

      abbrev c : ℕ
      c = Field.times Z.p t.c (Field.times Z.p 1 ι)

      c_good : Good Z.p c
      c_good = good_mul Z.p Z.P t.c (Field.times Z.p 1 ι) t.good (never, (S Z).one_mul_mul 1 ι)
        where
          never : ¬ (Field.times Z.p 1 (Field.times Z.p 1 ι) ≡ 0)
          never e =
              let l = (F Z).lead a.at.1 a.dom in
              (S Z).one≢zero (sym ((S Z).inv_mul l.coef l.nonzero) ∙ Vec.zero_term (S Z) ι l.coef (sym ((S Z).one_mul_mul 1 ι) ∙ e))

      minus_good : Good Z.p (Field.minus Z.p c)
      minus_good = subst (Good Z.p) (sym (ap (Field.minus Z.p) (times_one_right Z.p t.c ι) ∙ minus_times Z.p Z.P t.c ι))
          (good_mul Z.p Z.P t.c _ t.good (good_turned Z.p Z.P ((F Z).lead a.at.1 a.dom).coef ((F Z).lead a.at.1 a.dom).nonzero))

      -- the products are at most the picked term
      product_under : (y : Mono n) → Le (S Z) (L Z) y (lm n Z.f a.at.1) → Under r ((L Z).act a.at.0 y)
      product_under y (inl l) =
          let k : (L Z).Lt ((L Z).act a.at.0 y) t.x = subst (λ z. (L Z).Lt ((L Z).act a.at.0 y) z) a.hits ((L Z).compat a.at.0 _ _ l) in
          Vec.all_map (S Z) (λ z. (L Z).Lt t.x z) (λ z. (L Z).Lt ((L Z).act a.at.0 y) z) (λ z m. (L Z).trans _ _ _ k m) r x_under
      product_under y (inr e) = subst (Under r) (sym (ap ((L Z).act a.at.0) e ∙ a.hits)) x_under

      abbrev Q : Mono n → Type 0
      Q y = InValue Z lim y × Under r y

      abbrev Q₀ : Mono n → Type 0
      Q₀ y = Has n Z.b y × Le (S Z) (L Z) y (lm n Z.f a.at.1)

      fits : T (fits? lim.exponent (out n a.at.0))
      fits =
          factor_fits lim.exponent n a.at.0 (lm n Z.f a.at.1).0
          (subst (λ (y : Mono n). T (fits? lim.exponent (out n y.0))) (sym a.hits) t.ok.1)

      step_stands : {vs gs : Vector} (l : Like n Z.p Z.P (InVector Z lim) ((c, a.at) ∷ v) vs)
          → (k : Left n Z.p Z.P lim (hs Z) false (Lower (S Z) (L Z) (F Z)) Q (g ++ scale (S Z) (Field.minus Z.p c) q) gs)
          → Stands w l.form k.form r
      step_stands l k = record {
        quotients = record { good = l.good; ok = l.ok; apart = l.apart };
        value = record { good = k.good; ok = Vec.all_map (S Z) Q (InValue Z lim) (λ y h. h.0) k.form k.ok; apart = k.apart };
        whole = record { at = λ φ. same φ ∙ s.whole.at φ };
        lowers = s.lowers;
        canonical = s.canonical;
        inside = s.inside;
        under = Vec.all_map (S Z) Q (Under r) (λ y h. h.1) k.form k.ok;
      }
        where
          p : TVec n → TVec n
          p u = ψ (S Z) (L Z) (F Z).f u

          same : (φ : Mono n → ℕ) → ev (S Z) φ ((p l.form ++ k.form) ++ r) ≡ ev (S Z) φ ((p v ++ g) ++ r)
          same φ =
              let E = ev (S Z) φ in
              let m = Field.minus Z.p c in
              Vec.ev_append (S Z) φ (p l.form ++ k.form) r
              ∙ ap (λ z. (S Z).add z (E r)) (Vec.ev_append (S Z) φ (p l.form) k.form
              ∙ ap₂ (S Z).add
              ((Vec.same_lin (S Z) (times (S Z) (L Z) (F Z).f) l.like).at φ ∙ Vec.ev_append (S Z) φ (scale (S Z) c q) (p v)
              ∙ ap (λ z. (S Z).add z (E (p v))) (Vec.ev_scale (S Z) φ c q))
              ((Vec.same_nil (S Z) k.form).at φ ∙ ap (λ z. E (k.form ++ z)) (sym (k.whole refl)) ∙ k.split.at φ
              ∙ Vec.ev_append (S Z) φ g (scale (S Z) m q) ∙ ap ((S Z).add (E g)) (Vec.ev_scale (S Z) φ m q))
              ∙ cancels (S Z) ((S Z).mul c (E q)) ((S Z).mul m (E q)) (E (p v)) (E g) ((S Z).neg_add c (E q)) (Vec.ev_red (S Z) φ (p v))
              ∙ sym (Vec.ev_append (S Z) φ (p v) g))
              ∙ sym (Vec.ev_append (S Z) φ (p v ++ g) r)

      divided_ends : Ends (Stood w) Limit (divided K (division_at v g r) (suc a.at.1) c (out n a.at.0))
      divided_ends = subst (λ z. Ends (Stood w) Limit (store lim.vector Z.p (term n (c, a.at)) (vec n v) >>= λ vs.
          add_products K.reduction false (Field.minus Z.p c) (out n a.at.0) z (vec n g) >>= λ gs.
          done (record { value = gs; quotients = vs; remainder = vec n r }))) (sym (flat_at n Z.f a.at.1))
          (ends_then (like_stored n Z.p Z.P (InVector Z lim) Limit (tt, refl) lim.vector (c, a.at) v c_good (Z.somes a.at.1 a.dom, fits)
          s.quotients.good s.quotients.ok s.quotients.apart) (λ vs l.
          ends_then (products_added n Z.p Z.P lim (hs Z) false (Lower (S Z) (L Z) (F Z)) Q Limit (tt, refl) (tt, refl) (is_lower Z) Q₀
          (Field.minus Z.p c)
          minus_good a.at.0 (λ y h k. ((has_act n Z.b a.at.0 y h.0, k), product_under y h.1)) f' g
          (canonical_good n Z.p Z.P Z.code Z.b f' (Z.canons a.at.1 a.dom))
          (both (Has n Z.b) (λ y. Le (S Z) (L Z) y (lm n Z.f a.at.1)) f' (Z.inside a.at.1 a.dom)
          (at_most_head f' (Z.somes a.at.1 a.dom) (Z.canons a.at.1 a.dom)))
          s.value.good (both (InValue Z lim) (Under r) g s.value.ok s.under) s.value.apart)
          (λ gs k. gives (record {
            v = l.form;
            g = k.form;
            r = r;
            is = λ j. record { value = k.is j; quotients = l.is j; remainder = vec n r };
            stands = step_stands l k;
          }))))

    step_ends : Ends (Stood w) Limit (division_step K (division_at v g r) i (term n (t.c, t.x)))
    step_ends = subst (λ a. Ends (Stood w) Limit (by_reducer K (division_at v g r) i (term n (t.c, t.x)) a))
        (sym (answer_rescaled Z.p t.c 1 (hs Z) (mono n t.x))) (go (answered Z t.x))
      where
        go : {a : Answer} → Answered Z t.x a → Ends (Stood w) Limit (by_reducer K (division_at v g r) i (term n (t.c, t.x)) (rescaled Z.p t.c a))
        go (hit a) = divided_ends a
        go (miss o) = moved_ends o (ltb (length (vec n r)) lim.working)

  -- ## All steps

  pub divide_stands : (N : ℕ) (w v g r : TVec Z.n) → Stands w v g r → Ends (Ended w) Limit (divide (stage Z lim) N (division_at v g r))
  divide_stands zero w v g r s = open_yet
  divide_stands (suc N) w v g r s = go (greatest K.below (vec n g)) refl (divide_stands N w)
    where
      go : (o : Option ℕ) → greatest K.below (vec n g) ≡ o → ((v g r : TVec n) → Stands w v g r → Ends (Ended w) Limit (divide K N (division_at v g r)))
          → Ends (Ended w) Limit (divide_by K (divide K N) (division_at v g r) o)
      go none e ih =
          let z : g ≡ [] = vec_empty n g ((accepting_picks K).to_zero (vec n g) e) in
          gives (record {
            v = v;
            r = r;
            is = λ j. record { value = vec n (z j); quotients = vec n v; remainder = vec n r };
            stands = subst (λ u. Stands w v u r) z s;
          })
      go (some i) e ih =
          let l : i < length (vec n g) = (accepting_picks K).inside (vec n g) i e in
          let m : i < length g = omega (arith, vec_length n g) in
          let t : Taken Z lim g i = taken Z lim g i m s.value in
          ends_then (subst (λ z. Ends (Stood w) Limit (division_step K (division_at v g r) i z)) (sym t.is)
          (step_ends w v g r s i t (greatest_over Z lim g s.value i e t)))
          (λ d h. subst (λ z. Ends (Ended w) Limit (divide K N z)) (sym h.is) (ih h.v h.g h.r h.stands))
