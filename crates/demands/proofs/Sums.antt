-- Sums in the order of arrival: what `store` and `add_products` leave, as vectors of the theory.
use mathlib.Core.Path.{◌≡◌, refl, sym, ap, ap₂, ◌∙◌, subst}
use mathlib.Core.Logic.{◌≢◌}
use mathlib.Core.Bool.{Bool, true, false, not}
use mathlib.Core.Option.{Option, none, some}
use mathlib.Core.List.{List, [], ◌∷◌, ◌++◌}
use Prim.Native.Nat.{ℕ, suc}
use lib.Dec.{T, ltb, eqb, eqb→eq, eqb_refl, T_not}
use lib.ListN.{length}
use Rattle.theory.specs.Laws.{Scalars}
use Rattle.theory.specs.Vec.{ev, Same, scale, mapB, All}
use Rattle.theory.specs.Orders.{ExpM}
use Rattle.theory.specs.Modular.{ModP}
use Rattle.theory.specs.Canon.{Canonical}
use Rattle.theory.proofs.Vec
use Rattle.definitions.specs.Limits.{Limits}
use Rattle.definitions.specs.Field.{plus, times}
use Rattle.definitions.specs.Monomial.{Vector, same_monomial?, fits?}
use Rattle.definitions.specs.Reducer.{lower_order?, answer}
use Rattle.definitions.specs.Vectors.{unless_zero, behind, combined, appended, or_last, store}
use Rattle.definitions.specs.Stage.{Reduction}
use Rattle.definitions.specs.Run.{dropped?, unless_dropped, if_fits, multiple, add_term, add_products}
use Rattle.laws.proofs.Modular.{Prime}
use Rattle.demands.proofs.Results.{Ends, gives, refuses, ends_then, ends_map}
use Rattle.demands.proofs.Exponents.{E, out, product_out}
use Rattle.demands.proofs.Levels.{Mono, TVec, TLevel, module_over, mono, term, vec, vec_append, same_mono, mono_same}
use Rattle.demands.proofs.Coefficients.{Good, good_mul, good_plus}

pub nonzero_test : (a : ℕ) → T (not (eqb a 0)) → a ≢ 0
nonzero_test a k e = T_not (eqb a 0) k (subst (λ z. T (eqb z 0)) (sym e) (eqb_refl 0))

pub true_not_false : ¬ (true ≡ false)
true_not_false e = subst T e tt

module _ (n p : ℕ) (P : Prime p) where
  abbrev S : Scalars
  S = ModP p P

  -- every coefficient is 1 .. p − 1
  abbrev pub Goods : TVec n → Type 0
  Goods [] = Unit {0}
  Goods (t ∷ v) = Good p t.0 × Goods v

  pub goods_append : (v w : TVec n) → Goods v → Goods w → Goods (v ++ w)
  goods_append [] w g h = h
  goods_append (t ∷ v) w g h = (g.0, goods_append v w g.1 h)

  pub canonical_good : (code : ℕ) (b : List (TLevel n)) (v : TVec n) → Canonical S (module_over n code b) v → Goods v
  canonical_good code b [] k = tt
  canonical_good code b (t ∷ v) k = ((k.0, k.1), canonical_good code b v k.3)

  -- no monomial stands twice
  abbrev pub Distinct : TVec n → Type 0
  Distinct [] = Unit {0}
  Distinct (t ∷ v) = All S (λ (x : Mono n). t.1 ≡ x → ⊥) v × Distinct v

  distinct_last : (v : TVec n) (t : ℕ × Mono n) → Distinct v → All S (λ (x : Mono n). t.1 ≡ x → ⊥) v → Distinct (v ++ t ∷ [])
  distinct_last [] t d h = (tt, tt)
  distinct_last (u ∷ v) t d h =
      (Vec.all_append S (λ x. u.1 ≡ x → ⊥) v (t ∷ []) d.0 ((λ e. h.0 (sym e)), tt), distinct_last v t d.1 h.1)

  -- two terms with one monomial are one
  pub merged : (t u : ℕ × Mono n) (v : TVec n) → t.1 ≡ u.1 → Same S ((plus p u.0 t.0, u.1) ∷ v) (t ∷ u ∷ v)
  merged t u v e = record {
    at = λ φ.
        ap (λ z. plus p (times p z (φ u.1)) (ev S φ v)) (S.add_comm u.0 t.0) ∙ sym (Vec.merge S t.0 u.0 (φ u.1) (ev S φ v))
        ∙ ap (λ z. plus p (times p t.0 (φ z)) (ev S φ (u ∷ v))) (sym e);
  }

  -- ## A term stored

  module _ (Q : Mono n → Type 0) where
    -- w is written as a vector of the theory that is equal to v, its coefficients 1 .. p − 1, its monomials of Q
    pub record Like (v : TVec n) (w : Vector) : Type 0 where
      pub form : TVec n
      pub is : w ≡ vec n form
      pub like : Same S form v
      pub good : Goods form
      pub ok : All S Q form
      pub apart : Distinct form

    pub like_same : {v v' : TVec n} {w : Vector} → Same S v v' → Like v w → Like v' w
    like_same e l = record { form = l.form; is = l.is; like = Vec.same_trans S l.like e; good = l.good; ok = l.ok; apart = l.apart }

    pub like_itself : (v : TVec n) → Goods v → All S Q v → Distinct v → Like v (vec n v)
    like_itself v g q d = record { form = v; is = refl; like = Vec.same_refl S; good = g; ok = q; apart = d }

    -- where t's monomial stands in v: the sum, without a new monomial; where it does not
    pub data Combined (t : ℕ × Mono n) (v : TVec n) : Option Vector → Type 1 where
      joined : {w : Vector} (l : Like (t ∷ v) w) → ((X : Mono n → Type 0) → All S X v → All S X l.form) → Combined t v (some w)
      new : All S (λ (x : Mono n). t.1 ≡ x → ⊥) v → Combined t v none

    combined_here : (t u : ℕ × Mono n) (v : TVec n) → t.1 ≡ u.1 → Goods (u ∷ v) → All S Q (u ∷ v) → Distinct (u ∷ v)
        → Combined t (u ∷ v) (some (unless_zero (plus p u.0 t.0, mono n u.1) (vec n v)))
    combined_here t u v e g q d = go (eqb sum 0) (eqb→eq sum 0) (nonzero_test sum)
      where
        sum : ℕ
        sum = plus p u.0 t.0

        gone : sum ≡ 0 → Like (t ∷ u ∷ v) (vec n v)
        gone h = record {
          form = v;
          is = refl;
          like = Vec.same_sym S (Vec.same_drop S sum u.1 v (ap (times p 1) h ∙ S.mul_zero 1) (Vec.same_sym S (merged t u v e)));
          good = g.1;
          ok = q.1;
          apart = d.1;
        }

        kept : sum ≢ 0 → Like (t ∷ u ∷ v) ((sum, mono n u.1) ∷ vec n v)
        kept k = record {
          form = (sum, u.1) ∷ v;
          is = refl;
          like = merged t u v e;
          good = (good_plus p P u.0 t.0 k, g.1);
          ok = q;
          apart = d;
        }

        go : (s : Bool) → (T s → sum ≡ 0) → (T (not s) → sum ≢ 0) → Combined t (u ∷ v)
            (some (elim s [ true ↦ vec n v | false ↦ (sum, mono n u.1) ∷ vec n v ]))
        go true h k = joined (gone (h tt)) (λ X x. x.1)
        go false h k = joined (kept (k tt)) (λ X x. x)

    combined_behind : (t u : ℕ × Mono n) (v : TVec n) → ¬ (t.1 ≡ u.1) → Good p u.0 → Q u.1 → Distinct (u ∷ v) → {o : Option Vector}
        → Combined t v o → Combined t (u ∷ v) (behind (term n u) o)
    combined_behind t u v ne g q d (new h) = new (ne, h)
    combined_behind t u v ne g q d (joined l sub) = joined (record {
      form = u ∷ l.form;
      is = ap (λ z. term n u ∷ z) l.is;
      like = Vec.same_trans S (Vec.same_cons S u l.like) (Vec.same_swap S u t v);
      good = (g, l.good);
      ok = (q, l.ok);
      apart = (sub (λ x. u.1 ≡ x → ⊥) d.0, l.apart);
    }) (λ X x. (x.0, sub X x.1))

    pub combined_with : (t : ℕ × Mono n) (v : TVec n) → Goods v → All S Q v → Distinct v → Combined t v (combined p (term n t) (vec n v))
    combined_with t [] g q d = new tt
    combined_with t (u ∷ v) g q d =
        go (same_monomial? (mono n t.1) (mono n u.1)) (same_mono n t.1 u.1) (mono_same n t.1 u.1)
        (combined_with t v g.1 q.1 d.1)
      where
        go : (s : Bool) → (T s → t.1 ≡ u.1) → (t.1 ≡ u.1 → T s) → Combined t v (combined p (term n t) (vec n v)) → Combined t (u ∷ v) (elim s [
          | true ↦ some (unless_zero (plus p u.0 t.0, mono n u.1) (vec n v))
          | false ↦ behind (term n u) (combined p (term n t) (vec n v))
        ])
        go true h k r = combined_here t u v (h tt) g q d
        go false h k r = combined_behind t u v k g.0 q.0 d r

    -- R is what is said of refusals
    module _ (R : ℕ → Vector → Type 0) (at-14 : R 14 []) where
      pub like_stored : (limit : ℕ) (t : ℕ × Mono n) (v : TVec n) → Good p t.0 → Q t.1 → Goods v → All S Q v → Distinct v
          → Ends (Like (t ∷ v)) R (store limit p (term n t) (vec n v))
      like_stored limit t v g q gs qs d = go (combined_with t v gs qs d)
        where
          last : All S (λ (x : Mono n). t.1 ≡ x → ⊥) v → (s : Bool) → Ends (Like (t ∷ v)) R (appended s (term n t) (vec n v))
          last h false = refuses at-14
          last h true = gives (record {
            form = v ++ t ∷ [];
            is = sym (vec_append n v (t ∷ []));
            like = Vec.same_trans S (Vec.same_sym S (Vec.same_middle S t v [])) (Vec.same_cons S t (Vec.same_sym S (Vec.same_nil S v)));
            good = goods_append v (t ∷ []) gs (g, tt);
            ok = Vec.all_append S Q v (t ∷ []) qs (q, tt);
            apart = distinct_last v t d h;
          })

          go : {o : Option Vector} → Combined t v o → Ends (Like (t ∷ v)) R (or_last limit (term n t) (vec n v) o)
          go (joined l sub) = gives l
          go (new h) = last h (ltb (length (vec n v)) limit)

  -- ## Products added

  module _ (lim : Limits) (heads : Vector) (drops : Bool) (Low Q : Mono n → Type 0) where
    abbrev K : Reduction
    K = record { limits = lim; p = p; heads = heads }

    -- w is written as a vector of the theory that, with terms of lower order that were dropped, is equal to v
    pub record Left (v : TVec n) (w : Vector) : Type 0 where
      pub form : TVec n
      pub low : TVec n
      pub is : w ≡ vec n form
      pub split : Same S (form ++ low) v
      pub lows : All S Low low
      pub whole : drops ≡ false → low ≡ []
      pub good : Goods form
      pub ok : All S Q form
      pub apart : Distinct form

    -- the product of c · q and the terms of a family
    abbrev pub by : E n → Mono n → Mono n
    by q x = ((ExpM n).mulE q x.0, x.1)

    multiple_term : (c : ℕ) (q : E n) (u : ℕ × Mono n) → multiple p c (out n q) (term n u) ≡ term n (times p c u.0, by q u.1)
    multiple_term c q u = λ i. (times p c u.0, (product_out n q u.1.0 i, suc u.1.1))

    module _ (R : ℕ → Vector → Type 0) (at-13 : R 13 []) (at-14 : R 14 [])
        (lower : (x : Mono n) → T (lower_order? (answer p heads (1, mono n x))) → Low x) where
      -- a product that is not dropped is stored
      left_kept : (u : ℕ × Mono n) (v : TVec n) {w : Vector} → Like Q (u ∷ v) w → Left (v ++ u ∷ []) w
      left_kept u v l = record {
        form = l.form;
        low = [];
        is = l.is;
        split = Vec.same_trans S (Vec.same_sym S (Vec.same_nil S l.form))
            (Vec.same_trans S l.like (Vec.same_trans S (Vec.same_cons S u (Vec.same_nil S v)) (Vec.same_middle S u v [])));
        lows = tt;
        whole = λ e. refl;
        good = l.good;
        ok = l.ok;
        apart = l.apart;
      }

      -- "if it would be dropped"
      left_dropped : (u : ℕ × Mono n) (v : TVec n) → Goods v → All S Q v → Distinct v → Low u.1 → ¬ (drops ≡ false) → Left (v ++ u ∷ []) (vec n v)
      left_dropped u v g q a l d = record {
        form = v;
        low = u ∷ [];
        is = refl;
        split = Vec.same_refl S;
        lows = (l, tt);
        whole = λ e. absurd (d e);
        good = g;
        ok = q;
        apart = a;
      }

      dropped_low : (x : Mono n) → T (dropped? K drops (mono n x)) → Low x × ¬ (drops ≡ false)
      dropped_low x = go drops
        where
          go : (d : Bool) → T (dropped? K d (mono n x)) → Low x × ¬ (d ≡ false)
          go true t = (lower x t, true_not_false)
          go false t = absurd t

      pub term_added : (u : ℕ × Mono n) (v : TVec n) → Good p u.0 → (T (fits? lim.exponent (out n u.1.0)) → Q u.1) → Goods v → All S Q v
          → Distinct v
          → Ends (Left (v ++ u ∷ [])) R (add_term K drops (term n u) (vec n v))
      term_added u v g h gs qs d = fitting (fits? lim.exponent (out n u.1.0)) h
        where
          dropping : (s : Bool) → (T s → Low u.1 × ¬ (drops ≡ false)) → Q u.1
              → Ends (Left (v ++ u ∷ [])) R (unless_dropped s K (term n u) (vec n v))
          dropping true l q = gives (left_dropped u v gs qs d (l tt).0 (l tt).1)
          dropping false l q = ends_map (λ w k. left_kept u v k) (like_stored Q R at-14 lim.working u v g q gs qs d)

          fitting : (f : Bool) → (T f → Q u.1) → Ends (Left (v ++ u ∷ [])) R (if_fits f K drops (term n u) (vec n v))
          fitting false k = refuses at-13
          fitting true k = dropping (dropped? K drops (mono n u.1)) (dropped_low u.1) (k tt)

      -- one product, then the others X
      left_more : (u : ℕ × Mono n) (v X : TVec n) {w : Vector} (a : Left (v ++ u ∷ []) w) {w' : Vector} → Left (a.form ++ X) w' → Left (v ++ u ∷ X) w'
      left_more u v X a b = record {
        form = b.form;
        low = b.low ++ a.low;
        is = b.is;
        split = Vec.same_trans S (Vec.same_sym S (Vec.same_assoc S b.form b.low a.low))
            (Vec.same_trans S (Vec.same_append S b.split (Vec.same_refl S {v = a.low}))
            (Vec.same_trans S (Vec.same_shift S a.form X a.low)
            (Vec.same_trans S (Vec.same_append S a.split (Vec.same_refl S {v = X})) (Vec.same_assoc S v (u ∷ []) X))));
        lows = Vec.all_append S Low b.low a.low b.lows a.lows;
        whole = λ e. ap₂ (λ x y. x ++ y) (b.whole e) (a.whole e);
        good = b.good;
        ok = b.ok;
        apart = b.apart;
      }

      -- c · q · g into v
      pub products_added : (Q₀ : Mono n → Type 0) (c : ℕ) → Good p c → (q : E n)
          → ((x : Mono n) → Q₀ x → T (fits? lim.exponent (out n (by q x).0)) → Q (by q x))
          → (g v : TVec n) → Goods g → All S Q₀ g → Goods v → All S Q v → Distinct v
          → Ends (Left (v ++ scale S c (mapB S (by q) g))) R (add_products K drops c (out n q) (vec n g) (vec n v))
      products_added Q₀ c gc q h [] v gg qg gv qv d = gives (record {
        form = v;
        low = [];
        is = refl;
        split = Vec.same_refl S;
        lows = tt;
        whole = λ e. refl;
        good = gv;
        ok = qv;
        apart = d;
      })
      products_added Q₀ c gc q h (t ∷ g) v gg qg gv qv d =
          ends_then (subst (λ z. Ends (Left (v ++ u ∷ [])) R (add_term K drops z (vec n v))) (sym (multiple_term c q t))
          (term_added u v (good_mul p P c t.0 gc gg.0) (h t.1 qg.0) gv qv d))
          (λ w a. subst (λ z. Ends (Left (v ++ u ∷ scale S c (mapB S (by q) g))) R (add_products K drops c (out n q) (vec n g) z)) (sym a.is)
          (ends_map (λ w' b. left_more u v (scale S c (mapB S (by q) g)) a b)
          (products_added Q₀ c gc q h g a.form gg.1 qg.1 a.good a.ok a.apart)))
        where
          u : ℕ × Mono n
          u = (times p c t.0, by q t.1)
