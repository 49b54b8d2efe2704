-- The tree with any cache: every subtree is the lifting of its monomial, and every part of the cache is.
use mathlib.Core.Path.{◌≡◌, refl, sym, ap, ◌∙◌, subst}
use mathlib.Core.Logic.{inl}
use mathlib.Core.Bool.{Bool, true, false}
use mathlib.Core.Option.{Option, some}
use mathlib.Core.List.{[], ◌∷◌, ◌++◌}
use Prim.Native.Nat.{ℕ, zero, suc, ◌+◌, ◌-◌, ◌<◌}
use lib.Dec.{T, leb, ltb}
use lib.ListN.{length, get_or}
use Rattle.theory.specs.Vec.{Same, scale, mapB, lin, All, times}
use Rattle.theory.specs.Reckon.{Reducer, turned, others, reckon}
use Rattle.theory.specs.Canon.{Canonical}
use Rattle.theory.proofs.Vec
use Rattle.theory.proofs.Lift.{up_lower}
use Rattle.theory.proofs.Trees.{tree_step}
use Rattle.theory.proofs.Canon.{canonical_is}
use Rattle.definitions.specs.Limits.{Limits}
use Rattle.definitions.specs.Field
use Rattle.definitions.specs.Monomial.{Term, Vector, fits?, same_monomial?}
use Rattle.definitions.specs.Reducer.{Answer}
use Rattle.definitions.specs.Result.{Result, done, ◌>>=◌, refusal}
use Rattle.definitions.specs.Vectors.{insert}
use Rattle.definitions.specs.Run.{multiple}
use Rattle.definitions.specs.Tree
use Rattle.definitions.specs.Tree.{Cache, cached, used, Subtree, finish_by, finish, held_to, add_result, LiftTerm, LiftList, if_product_fits, lift_product}
use Rattle.definitions.specs.Tree.{lift_list, open_subtree, or_open, lift_by, lift_term, if_vector_product_fits, lift_vector_product, lift_vector, tree}
use Rattle.demands.proofs.Results.{Gives, gives, refuses, ends_then, ends_map, Holds, holds, nothing}
use Rattle.demands.proofs.Exponents.{E, out, product_out, factor_fits}
use Rattle.demands.proofs.Levels.{Mono, TVec, mono, term, vec, flat_at, lm, module_over, Has, same_mono}
use Rattle.demands.proofs.Coefficients.{Good, good_mul, good_one}
use Rattle.demands.proofs.Setting.{Setting, S, L, F, red, red_by, up, Answered, hit, miss, answered}
use Rattle.demands.proofs.Sums.{Goods, canonical_good}
use Rattle.demands.proofs.Sorting.{Form, term_inserted}
use Rattle.demands.proofs.Steps.{stage, Fits, InVector}
use Rattle.demands.proofs.Reckoned.{vector, others_is, others_good, turned_good, turned_is}

module _ (Z : Setting) (lim : Limits) where
  -- ## Sums

  -- w is the canonical form of v, its monomials in range and within the limit
  pub record Summed (v : TVec Z.n) (w : Vector) : Type 0 where
    pub form : TVec Z.n
    pub is : w ≡ vec Z.n form
    pub canonical : Canonical (S Z) (module_over Z.n Z.code (Z.f ∷ Z.b)) form
    pub like : Same (S Z) form v
    pub ok : All (S Z) (InVector Z lim) form

  summed_same : {v v' : TVec Z.n} {w : Vector} → Same (S Z) v v' → Summed v w → Summed v' w
  summed_same e s = record { form = s.form; is = s.is; canonical = s.canonical; like = Vec.same_trans (S Z) s.like e; ok = s.ok }

  summed_one : (t : ℕ × Mono Z.n) → Good Z.p t.0 → InVector Z lim t.1 → Summed (t ∷ []) (term Z.n t ∷ [])
  summed_one t g q = record { form = t ∷ []; is = refl; canonical = (g.0, g.1, tt, tt); like = Vec.same_refl (S Z); ok = (q, tt) }

  inserted : (t : ℕ × Mono Z.n) → Good Z.p t.0 → InVector Z lim t.1 → (v : TVec Z.n) (w : Vector) → Summed v w
      → Summed (t ∷ v) (insert (stage Z lim).above Z.p (term Z.n t) w)
  inserted t g q v w s =
      let i : Form Z.n Z.p Z.P Z.code (Z.f ∷ Z.b) Z.grounded (t ∷ s.form)
      (insert (stage Z lim).above Z.p (term Z.n t) (vec Z.n s.form)) =
      term_inserted Z.n Z.p Z.P Z.code (Z.f ∷ Z.b) Z.grounded t s.form g q.0
      (Vec.all_map (S Z) (InVector Z lim) (Has Z.n (Z.f ∷ Z.b)) (λ x h. h.0) s.form s.ok) s.canonical in
      record {
        form = i.form;
        is = ap (insert (stage Z lim).above Z.p (term Z.n t)) s.is ∙ i.is;
        canonical = i.canonical;
        like = Vec.same_trans (S Z) i.like (Vec.same_cons (S Z) t s.like);
        ok = i.ok (InVector Z lim) (q, s.ok);
      }

  held : {P : Vector → Type 0} (b : Bool) (w : Vector) → P w → Gives P (held_to b w)
  held true w h = gives h
  held false w h = refuses tt

  -- c times a result, term by term
  result_added : (top others c : ℕ) → Good Z.p c → (u : TVec Z.n) → Goods Z.n Z.p Z.P u → All (S Z) (InVector Z lim) u
      → (v : TVec Z.n) (w : Vector) → Summed v w
      → Gives (Summed (scale (S Z) c u ++ v)) (add_result (stage Z lim).above Z.p top others c (vec Z.n u) w)
  result_added top others c gc [] gu qu v w s = gives s
  result_added top others c gc (t ∷ u) gu qu v w s =
      ends_then (held (leb (others + length grown) top) grown (inserted t' (good_mul Z.p Z.P c t.0 gc gu.0) qu.0 v w s))
      (λ w' s'. ends_map (λ w'' s''. summed_same (Vec.same_sym (S Z) (Vec.same_middle (S Z) t' (scale (S Z) c u) v)) s'')
      (result_added top others c gc u gu.1 qu.1 (t' ∷ v) w' s'))
    where
      t' : ℕ × Mono Z.n
      t' = (Field.times Z.p c t.0, t.1)

      grown : Vector
      grown = insert (stage Z lim).above Z.p (term Z.n t') w

  -- .. of any sum
  sum_added : (top others c : ℕ) → Good Z.p c → {u : TVec Z.n} {x : Vector} → Summed u x → (v : TVec Z.n) (w : Vector) → Summed v w
      → Gives (Summed (scale (S Z) c u ++ v)) (add_result (stage Z lim).above Z.p top others c x w)
  sum_added top others c gc {u} a v w s =
      subst (λ x. Gives (Summed (scale (S Z) c u ++ v)) (add_result (stage Z lim).above Z.p top others c x w)) (sym a.is)
      (ends_map (λ w' s'. summed_same (Vec.same_append (S Z) (Vec.same_scale (S Z) c a.like) (Vec.same_refl (S Z) {v = v})) s')
      (result_added top others c gc a.form (canonical_good Z.n Z.p Z.P Z.code (Z.f ∷ Z.b) a.form a.canonical) a.ok v w s))

  -- ## The cache

  -- every part of the cache is the lifting of its monomial
  abbrev pub CacheOk : Cache → Type 0
  CacheOk [] = Unit {0}
  CacheOk (entry ∷ cache) = ((x : Mono Z.n) × (entry.0 ≡ mono Z.n x) × Summed (up Z x) entry.1) × CacheOk cache

  looked_up : (x : Mono Z.n) (cache : Cache) → CacheOk cache → Holds (Summed (up Z x)) (cached (mono Z.n x) cache)
  looked_up x [] k = nothing
  looked_up x (entry ∷ cache) k =
      go (same_monomial? entry.0 (mono Z.n x)) (λ t. same_mono Z.n k.0.0 x (subst (λ z. T (same_monomial? z (mono Z.n x))) k.0.1 t))
      (looked_up x cache k.1)
    where
      go : (s : Bool) → (T s → k.0.0 ≡ x) → Holds (Summed (up Z x)) (cached (mono Z.n x) cache)
          → Holds (Summed (up Z x)) (elim s [ true ↦ some entry.1 | false ↦ cached (mono Z.n x) cache ])
      go true h r = holds (subst (λ z. Summed (up Z z) entry.1) (h tt) k.0.2)
      go false h r = r

  -- ## Terms and lists

  -- a subtree that is the lifting of x; a sum that is v
  abbrev pub SubtreeOk : Mono Z.n → Subtree → Type 0
  SubtreeOk x s = Summed (up Z x) s.0 × CacheOk s.2

  abbrev pub SumOk : TVec Z.n → Tree.Sum → Type 0
  SumOk v s = Summed v s.0 × CacheOk s.1

  abbrev TermsOk : LiftTerm → Type 0
  TermsOk lift = (others : ℕ) (cache : Cache) (x : Mono Z.n) → CacheOk cache → Fits Z lim x → Gives (SubtreeOk x) (lift others cache (mono Z.n x))

  -- a fold that adds each product's lifting adds the liftings of c · q · g
  module _ (c : ℕ) (q : E Z.n) (one : Term → Tree.Sum → Result Tree.Sum) (all : Vector → Tree.Sum → Result Tree.Sum)
      (base : (s : Tree.Sum) → all [] s ≡ done s)
      (next : (t : Term) (f : Vector) (s : Tree.Sum) → all (t ∷ f) s ≡ (one (multiple Z.p c (out Z.n q) t) s >>= λ r. all f r))
      (one_ok : (t : ℕ × Mono Z.n) → Good Z.p t.0 → (v : TVec Z.n) (s : Tree.Sum) → SumOk v s
      → Gives (SumOk (scale (S Z) t.0 (up Z t.1) ++ v)) (one (term Z.n t) s)) where
    abbrev lifted : TVec Z.n → TVec Z.n
    lifted g = lin (S Z) (up Z) (scale (S Z) c (mapB (S Z) ((L Z).act q) g))

    multiple_is : (t : ℕ × Mono Z.n) → multiple Z.p c (out Z.n q) (term Z.n t)
        ≡ term Z.n (Field.times Z.p c t.0, (L Z).act q t.1)
    multiple_is t = λ i. (Field.times Z.p c t.0, (product_out Z.n q t.1.0 i, suc t.1.1))

    all_ok : Good Z.p c → (g : TVec Z.n) → Goods Z.n Z.p Z.P g → (v : TVec Z.n) (s : Tree.Sum) → SumOk v s
        → Gives (SumOk (v ++ lifted g)) (all (vec Z.n g) s)
    all_ok gc [] gs v s k = rw (base s) (gives (summed_same (Vec.same_nil (S Z) v) k.0, k.1))
    all_ok gc (t ∷ g) gs v s k =
        rw (next (term Z.n t) (vec Z.n g) s, multiple_is t)
        (ends_then (one_ok u (good_mul Z.p Z.P c t.0 gc gs.0) v s k)
        (λ r h. ends_map (λ r' h'. (summed_same turn h'.0, h'.1)) (all_ok gc g gs.1 (A ++ v) r h)))
      where
        u : ℕ × Mono Z.n
        u = (Field.times Z.p c t.0, (L Z).act q t.1)

        A : TVec Z.n
        A = scale (S Z) u.0 (up Z u.1)

        turn : Same (S Z) ((A ++ v) ++ lifted g) (v ++ (A ++ lifted g))
        turn = Vec.same_trans (S Z) (Vec.same_append (S Z) (Vec.same_comm (S Z) A v) (Vec.same_refl (S Z) {v = lifted g}))
            (Vec.same_assoc (S Z) v A (lifted g))

  -- a product lifted into a subtree's sum
  product_ok : (lift : LiftTerm) → TermsOk lift → (others : ℕ) (t : ℕ × Mono Z.n) → Good Z.p t.0 → (v : TVec Z.n) (s : Tree.Sum)
      → SumOk v s
      → Gives (SumOk (scale (S Z) t.0 (up Z t.1) ++ v)) (lift_product (stage Z lim) lift others (term Z.n t) s)
  product_ok lift h others t g v s k = go (fits? lim.exponent (out Z.n t.1.0)) (λ f. f)
    where
      go : (b : Bool) → (T b → Fits Z lim t.1) → Gives (SumOk (scale (S Z) t.0 (up Z t.1) ++ v))
          (if_product_fits b (stage Z lim) lift others (term Z.n t) s)
      go false f = refuses tt
      go true f =
          ends_then (h (others + length s.0) s.1 t.1 k.1 (f tt)) (λ r a.
          ends_then (sum_added (lim.tree - r.1) others t.0 g a.0 v s.0 k.0) (λ w b. gives (b, a.1)))

  list_ok : (lift : LiftTerm) → TermsOk lift → (others c : ℕ) → Good Z.p c → (q : E Z.n) (g : TVec Z.n) → Goods Z.n Z.p Z.P g
      → (v : TVec Z.n) (s : Tree.Sum) → SumOk v s
      → Gives (SumOk (v ++ lin (S Z) (up Z) (scale (S Z) c (mapB (S Z) ((L Z).act q) g))))
      (lift_list (stage Z lim) lift others c (out Z.n q) (vec Z.n g) s)
  list_ok lift h others c gc q g gs v s k =
      all_ok c q (lift_product (stage Z lim) lift others) (lift_list (stage Z lim) lift others c (out Z.n q)) (λ s. refl) (λ t f s. refl)
      (product_ok lift h others) gc g gs v s k

  -- ## Subtrees

  finish_ok : (room : ℕ) (x : Mono Z.n) (s : Tree.Sum) → SumOk (up Z x) s → SubtreeOk x (finish room (mono Z.n x) s)
  finish_ok room x s k = go (leb (used s.1 + suc (length s.0)) room)
    where
      go : (b : Bool) → SubtreeOk x (finish_by b (mono Z.n x) s)
      go true = (k.0, ((x, refl, k.0), k.1))
      go false = k

  abbrev ListsOk : LiftList → Type 0
  ListsOk lift = (others c : ℕ) → Good Z.p c → (q : E Z.n) (g : TVec Z.n) → Goods Z.n Z.p Z.P g → (v : TVec Z.n) (s : Tree.Sum)
      → SumOk v s
      → Gives (SumOk (v ++ lin (S Z) (up Z) (scale (S Z) c (mapB (S Z) ((L Z).act q) g)))) (lift others c (out Z.n q) (vec Z.n g) s)

  module _ (room : ℕ) (lift : LiftList) (h : ListsOk lift) (beside : ℕ) (cache : Cache) (x : Mono Z.n) (k : CacheOk cache) (fx : Fits Z lim x) where
    -- with a reducer, not in the cache
    grown_ok : (r : Reducer (S Z) (L Z) (F Z) x) → red Z x ≡ inl r → (b : Bool)
        → Gives (SubtreeOk x) (open_subtree b (stage Z lim) room lift beside cache (mono Z.n x) (suc r.at.1) (turned (S Z) (L Z) (F Z) r)
        (out Z.n r.at.0))
    grown_ok r known false = refuses tt
    grown_ok r known true =
        ends_then (subst (λ g. Gives (SumOk (up Z x)) (lift beside (turned (S Z) (L Z) (F Z) r) (out Z.n r.at.0) g (term Z.n t ∷ [], cache)))
        (sym (others_is Z r))
        (ends_map (λ s a. (summed_same whole a.0, a.1)) (h beside t.0 (turned_good Z r) r.at.0 ((F Z).lead r.at.1 r.dom).rest
        (others_good Z r) (t ∷ [])
        (term Z.n t ∷ [], cache) (summed_one t (turned_good Z r) (Z.somes r.at.1 r.dom, fits), k))))
        (λ s a. gives (finish_ok room x s a))
      where
        t : ℕ × Mono Z.n
        t = (turned (S Z) (L Z) (F Z) r, r.at)

        fits : Fits Z lim r.at
        fits = factor_fits lim.exponent Z.n r.at.0 (lm Z.n Z.f r.at.1).0
            (subst (λ (y : Mono Z.n). T (fits? lim.exponent (out Z.n y.0))) (sym r.hits) fx)

        whole : Same (S Z) (t ∷ lin (S Z) (up Z) (others (S Z) (L Z) (F Z) r)) (up Z x)
        whole = tree_step (S Z) (L Z) (F Z) (red Z) x r known (lin (S Z) (up Z) (others (S Z) (L Z) (F Z) r)) (Vec.same_refl (S Z))

    -- with a reducer
    opened_ok : (r : Reducer (S Z) (L Z) (F Z) x) → red Z x ≡ inl r → {o : Option Vector} → Holds (Summed (up Z x)) o
        → Gives (SubtreeOk x) (or_open o (stage Z lim) room lift beside cache (mono Z.n x) (suc r.at.1) (turned (S Z) (L Z) (F Z) r)
        (out Z.n r.at.0))
    opened_ok r known (holds s) = gives (s, k)
    opened_ok r known nothing = grown_ok r known (ltb beside lim.tree)

    lift_by_ok : {a : Answer} (s : Answered Z x a) → red Z x ≡ red_by Z x s
        → Gives (SubtreeOk x) (lift_by a (stage Z lim) room lift beside cache (mono Z.n x))
    lift_by_ok (miss o) known = gives (
      record {
        form = [];
        is = refl;
        canonical = tt;
        like = subst (λ z. Same (S Z) [] z) (sym (up_lower (S Z) (L Z) (F Z) (red Z) x o)) (Vec.same_refl (S Z));
        ok = tt;
      },
      k,
    )
    lift_by_ok (hit r) known =
        subst (λ m. Gives (SubtreeOk x) (or_open (cached (mono Z.n x) cache) (stage Z lim) room lift beside cache (mono Z.n x) (suc r.at.1) m
        (out Z.n r.at.0)))
        (sym (turned_is Z r)) (opened_ok r known (looked_up x cache k))

  -- a subtree is the lifting of its monomial
  term_ok : (room left : ℕ) → TermsOk (lift_term (stage Z lim) room left)
  term_ok room zero others cache x k fx = lift_by_ok room (λ o c q f s. refusal 14) (λ o c gc q g gs v s k. refuses tt) others cache x k fx
      (answered Z x) refl
  term_ok room (suc left) others cache x k fx =
      lift_by_ok room (lift_list (stage Z lim) (lift_term (stage Z lim) room left))
      (list_ok (lift_term (stage Z lim) room left) (term_ok room left)) others cache x k fx (answered Z x) refl

  -- ## The vector of a frame term

  vector_product_ok : (lift : LiftTerm) → TermsOk lift → (t : ℕ × Mono Z.n) → Good Z.p t.0 → (v : TVec Z.n) (s : Tree.Sum) → SumOk v s
      → Gives (SumOk (scale (S Z) t.0 (up Z t.1) ++ v)) (lift_vector_product (stage Z lim) lift (term Z.n t) s)
  vector_product_ok lift h t g v s k = go (fits? lim.exponent (out Z.n t.1.0)) (λ f. f)
    where
      go : (b : Bool) → (T b → Fits Z lim t.1) → Gives (SumOk (scale (S Z) t.0 (up Z t.1) ++ v))
          (if_vector_product_fits b (stage Z lim) lift (term Z.n t) s)
      go false f = refuses tt
      go true f =
          ends_then (h 0 s.1 t.1 k.1 (f tt)) (λ r a.
          ends_then (sum_added lim.vector 0 t.0 g a.0 v s.0 k.0) (λ w b. gives (b, a.1)))

  -- the tree gives the reckoning's vector, and the cache stays right
  pub record Grown (x : Mono Z.n) (s : Tree.Sum) : Type 0 where
    pub is : s.0 ≡ vec Z.n (vector Z x)
    pub ok : All (S Z) (InVector Z lim) (vector Z x)
    pub cache : CacheOk s.1

  grown_from : (x : Mono Z.n) (s : Tree.Sum) → SumOk ((1, x) ∷ lin (S Z) (up Z) (scale (S Z) 1 (times (S Z) (L Z) (F Z).f x))) s → Grown x s
  grown_from x s k = record { is = k.0.is ∙ ap (vec Z.n) e; ok = subst (All (S Z) (InVector Z lim)) e k.0.ok; cache = k.1 }
    where
      e : k.0.form ≡ vector Z x
      e = canonical_is (S Z) (module_over Z.n Z.code (Z.f ∷ Z.b)) k.0.form (reckon (S Z) (L Z) (F Z) (red Z) x) k.0.canonical
          (Vec.same_trans (S Z) k.0.like (Vec.same_cons (S Z) (1, x)
          (Vec.same_lin (S Z) (up Z) (Vec.scale_one (S Z) (times (S Z) (L Z) (F Z).f x)))))

  pub tree_ok : (room : ℕ) (cache : Cache) (x : Mono Z.n) → x.1 < length Z.f → Fits Z lim x → CacheOk cache
      → Gives (Grown x) (tree (stage Z lim) room cache (mono Z.n x))
  tree_ok room cache x l fx k =
      subst (λ g. Gives (Grown x) (lift_vector (stage Z lim) (lift_term (stage Z lim) room lim.tree) 1 (out Z.n x.0) g
      ((1, mono Z.n x) ∷ [], cache)))
      (sym (flat_at Z.n Z.f x.1))
      (ends_map (grown_from x) (all_ok 1 x.0 (lift_vector_product (stage Z lim) lift) (lift_vector (stage Z lim) lift 1 (out Z.n x.0))
      (λ s. refl)
      (λ t f s. refl)
      (vector_product_ok lift (term_ok room lim.tree)) (good_one Z.p Z.P) (get_or Z.f x.1 [])
      (canonical_good Z.n Z.p Z.P Z.code Z.b (get_or Z.f x.1 []) (Z.canons x.1 l)) ((1, x) ∷ []) ((1, mono Z.n x) ∷ [], cache)
      (summed_one (1, x) (good_one Z.p Z.P) (Z.somes x.1 l, fx), k)))
    where
      lift : LiftTerm
      lift = lift_term (stage Z lim) room lim.tree
