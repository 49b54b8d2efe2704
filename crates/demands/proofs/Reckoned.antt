-- The definitions' reckoning within a bound is the theory's, and some bound is enough.
use mathlib.Core.Path.{◌≡◌, refl, sym, ap, ap₂, ◌∙◌, subst, subst₂}
use mathlib.Core.Logic.{inl}
use mathlib.Core.Option.{Option, some}
use mathlib.Core.List.{List, [], ◌∷◌, ◌++◌}
use mathlib.Core.WellFounded.{recursion}
use Prim.Native.Nat.{ℕ, zero, suc, ◌<◌}
use lib.Dec.{T}
use lib.ListN.{length, get_or}
use Rattle.theory.specs.Vec.{Same, scale, mapB, lin, All, times}
use Rattle.theory.specs.Reckon.{Reducer, turned, lift_as, lift_eq, reckon}
use Rattle.theory.specs.Canon.{Canonical, canon}
use Rattle.theory.proofs.Vec
use Rattle.definitions.specs.Lists.{◌then◌, rest}
use Rattle.definitions.specs.Field
use Rattle.definitions.specs.Monomial
use Rattle.definitions.specs.Monomial.{Exponents, Monomial, Vector, product, vector_of}
use Rattle.definitions.specs.Order.{compare_over}
use Rattle.definitions.specs.Reducer.{Answer, reducer, lower_order, heads, answer}
use Rattle.definitions.specs.Vectors.{descending}
use Rattle.definitions.specs.Run.{multiple}
use Rattle.definitions.specs.Stage.{highest}
use Rattle.definitions.specs.Reckoning.{scaled, liftings, lifted_by, lifted_to, reckoned_vector}
use Rattle.demands.proofs.Results.{Holds, holds, nothing, holds_then, holds_at, Upto, unknown, known, upto_then, Reached, reached_at, reached_some}
use Rattle.demands.proofs.Results.{reached_then, reached_deeper}
use Rattle.demands.proofs.Exponents.{E, out, product_out}
use Rattle.demands.proofs.Levels.{Mono, TVec, mono, term, vec, vec_append, flat, flats, flat_at, cons?, lm, module_over, Has}
use Rattle.demands.proofs.Coefficients.{Good, good_mul, good_one, good_turned, minus_one}
use Rattle.demands.proofs.Setting.{Setting, S, L, F, red, red_by, up, answer_to, Answered, hit, miss, answered, lead_at}
use Rattle.demands.proofs.Sums.{Goods, goods_append, canonical_good}
use Rattle.demands.proofs.Sorting.{sorted_is}

-- ## A larger bound changes nothing

liftings_more : (p : ℕ) (h k : Monomial → Option Vector) → ((m : Monomial) → Upto (h m) (k m)) → (c : ℕ) (q : Exponents) (f : Vector)
    → Upto (liftings p h c q f) (liftings p k c q f)
liftings_more p h k l c q [] = known
liftings_more p h k l c q (t ∷ f) = upto_then (l (multiple p c q t).1) (λ v. upto_then (liftings_more p h k l c q f) (λ w. known))

lifted_by_more : (a : Answer) (p : ℕ) (f : Monomial.Level) (h k : Monomial → Option Vector) → ((m : Monomial) → Upto (h m) (k m))
    → Upto (lifted_by a p f h) (lifted_by a p f k)
lifted_by_more lower_order p f h k l = known
lifted_by_more (reducer j c q) p f h k l = upto_then (liftings_more p h k l (Field.minus p c) q (rest (vector_of f j))) (λ v. known)

lifted_more : (N p : ℕ) (f : Monomial.Level) (m : Monomial) → Upto (lifted_to N p f m) (lifted_to (suc N) p f m)
lifted_more zero p f m = unknown
lifted_more (suc N) p f m = lifted_by_more (answer p (heads p f) (1, m)) p f (λ m'. lifted_to N p f m') (λ m'. lifted_to (suc N) p f m')
    (lifted_more N p f)

pub vector_more : (N p code : ℕ) (below : List Monomial.Level) (m : Monomial)
    → Upto (reckoned_vector N p code below m) (reckoned_vector (suc N) p code below m)
vector_more N p code below m =
    upto_then (liftings_more p (lifted_to N p (highest below)) (lifted_to (suc N) p (highest below)) (lifted_more N p (highest below)) 1 m.0
    (vector_of (highest below) m.1)) (λ v. known)

module _ (Z : Setting) where
  abbrev Q : Mono Z.n → Type 0
  Q = Has Z.n (Z.f ∷ Z.b)

  -- w is written as a vector of the theory that is equal to v, coefficients 1 .. p − 1, components in range
  pub record Spelled (v : TVec Z.n) (w : Vector) : Type 0 where
    pub form : TVec Z.n
    pub is : w ≡ vec Z.n form
    pub like : Same (S Z) form v
    pub good : Goods Z.n Z.p Z.P form
    pub ok : All (S Z) (Has Z.n (Z.f ∷ Z.b)) form

  -- ## The value is the theory's

  scaled_is : (c : ℕ) (w : TVec Z.n) → scaled Z.p c (vec Z.n w) ≡ vec Z.n (scale (S Z) c w)
  scaled_is c [] = refl
  scaled_is c (t ∷ w) = ap (λ z. term Z.n (Field.times Z.p c t.0, t.1) ∷ z) (scaled_is c w)

  scaled_good : (c : ℕ) → Good Z.p c → (w : TVec Z.n) → Goods Z.n Z.p Z.P w → Goods Z.n Z.p Z.P (scale (S Z) c w)
  scaled_good c g [] h = tt
  scaled_good c g (t ∷ w) h = (good_mul Z.p Z.P c t.0 g h.0, scaled_good c g w h.1)

  spelled_both : (c : ℕ) → Good Z.p c → {v w : TVec Z.n} {x y : Vector} → Spelled v x → Spelled w y
      → Spelled (scale (S Z) c v ++ w) (scaled Z.p c x ++ y)
  spelled_both c g a b = record {
    form = scale (S Z) c a.form ++ b.form;
    is = ap₂ (λ x y. scaled Z.p c x ++ y) a.is b.is ∙ ap (λ z. z ++ vec Z.n b.form) (scaled_is c a.form)
        ∙ sym (vec_append Z.n (scale (S Z) c a.form) b.form);
    like = Vec.same_append (S Z) (Vec.same_scale (S Z) c a.like) b.like;
    good = goods_append Z.n Z.p Z.P (scale (S Z) c a.form) b.form (scaled_good c g a.form a.good) b.good;
    ok = Vec.all_append (S Z) Q (scale (S Z) c a.form) b.form (Vec.all_scale (S Z) Q c a.form a.ok) b.ok;
  }

  spelled_none : Spelled [] []
  spelled_none = record { form = []; is = refl; like = Vec.same_refl (S Z); good = tt; ok = tt }

  -- the liftings of the terms of c · q · g
  liftings_spelled : (h : Monomial → Option Vector) → ((x : Mono Z.n) → Holds (Spelled (up Z x)) (h (mono Z.n x)))
      → (c : ℕ) → Good Z.p c → (q : E Z.n) (g : TVec Z.n) → Goods Z.n Z.p Z.P g
      → Holds (Spelled (lin (S Z) (up Z) (scale (S Z) c (mapB (S Z) ((L Z).act q) g)))) (liftings Z.p h c (out Z.n q) (vec Z.n g))
  liftings_spelled h k c gc q [] gs = holds spelled_none
  liftings_spelled h k c gc q (t ∷ g) gs =
      holds_then (subst (λ z. Holds (Spelled (up Z ((L Z).act q t.1))) (h (z, suc t.1.1))) (sym (product_out Z.n q t.1.0))
      (k ((L Z).act q t.1))) (λ v a.
      holds_then (liftings_spelled h k c gc q g gs.1) (λ w b.
      holds (spelled_both (Field.times Z.p c t.0) (good_mul Z.p Z.P c t.0 gc gs.0) a b)))

  -- the family's vector without its leading term
  tail_is : (v : TVec Z.n) (k : Canonical (S Z) (L Z) v) (t : T (cons? Z.n v)) → rest (vec Z.n v) ≡ vec Z.n (lead_at Z v k t).rest
  tail_is [] k t = absurd t
  tail_is (u ∷ v) k t = refl

  tail_good : (v : TVec Z.n) (k : Canonical (S Z) (L Z) v) (t : T (cons? Z.n v)) → Goods Z.n Z.p Z.P (lead_at Z v k t).rest
  tail_good [] k t = absurd t
  tail_good (u ∷ v) k t = canonical_good Z.n Z.p Z.P Z.code Z.b v k.3

  module _ {x : Mono Z.n} (r : Reducer (S Z) (L Z) (F Z) x) where
    pub others_is : rest (vector_of (flat Z.n Z.f) (suc r.at.1)) ≡ vec Z.n ((F Z).lead r.at.1 r.dom).rest
    others_is = ap rest (flat_at Z.n Z.f r.at.1) ∙ tail_is (get_or Z.f r.at.1 []) (Z.canons r.at.1 r.dom)
        (Z.somes r.at.1 r.dom)

    pub others_good : Goods Z.n Z.p Z.P ((F Z).lead r.at.1 r.dom).rest
    others_good = tail_good (get_or Z.f r.at.1 []) (Z.canons r.at.1 r.dom) (Z.somes r.at.1 r.dom)

    pub turned_good : Good Z.p (turned (S Z) (L Z) (F Z) r)
    turned_good = good_turned Z.p Z.P ((F Z).lead r.at.1 r.dom).coef ((F Z).lead r.at.1 r.dom).nonzero

    -- the multiple that the definitions take, sign turned
    pub turned_is : Field.minus Z.p (Field.times Z.p 1 (Field.inverse Z.p ((F Z).lead r.at.1 r.dom).coef)) ≡ turned (S Z) (L Z) (F Z) r
    turned_is = minus_one Z.p (Field.inverse Z.p ((F Z).lead r.at.1 r.dom).coef)

  lifted_by_spelled : (h : Monomial → Option Vector) → ((x : Mono Z.n) → Holds (Spelled (up Z x)) (h (mono Z.n x))) → (x : Mono Z.n)
      → Holds (Spelled (up Z x)) (lifted_by (answer_to Z x) Z.p (flat Z.n Z.f) h)
  lifted_by_spelled h k x =
      subst (λ z. Holds (Spelled z) (lifted_by (answer_to Z x) Z.p (flat Z.n Z.f) h)) (sym (lift_eq (S Z) (L Z) (F Z) (red Z) x))
      (go (answered Z x))
    where
      go : {a : Answer} (s : Answered Z x a) → Holds (Spelled (lift_as (S Z) (L Z) (F Z) (red Z) x (red_by Z x s)))
          (lifted_by a Z.p (flat Z.n Z.f) h)
      go (miss o) = holds spelled_none
      go (hit r) =
          subst₂ (λ m g. Holds (Spelled (lift_as (S Z) (L Z) (F Z) (red Z) x (inl r)))
          (liftings Z.p h m (out Z.n r.at.0) g then λ v. some ((m, mono Z.n r.at) ∷ v))) (sym (turned_is r)) (sym (others_is r))
          (holds_then (liftings_spelled h k (turned (S Z) (L Z) (F Z) r) (turned_good r) r.at.0 ((F Z).lead r.at.1 r.dom).rest
          (others_good r))
          (λ v a. holds (record {
            form = (turned (S Z) (L Z) (F Z) r, r.at) ∷ a.form;
            is = ap (λ z. (turned (S Z) (L Z) (F Z) r, mono Z.n r.at) ∷ z) a.is;
            like = Vec.same_cons (S Z) (turned (S Z) (L Z) (F Z) r, r.at) a.like;
            good = (turned_good r, a.good);
            ok = (Z.somes r.at.1 r.dom, a.ok);
          })))

  lifted_spelled : (N : ℕ) (x : Mono Z.n) → Holds (Spelled (up Z x)) (lifted_to N Z.p (flat Z.n Z.f) (mono Z.n x))
  lifted_spelled zero x = nothing
  lifted_spelled (suc N) x = lifted_by_spelled (λ m. lifted_to N Z.p (flat Z.n Z.f) m) (lifted_spelled N) x

  -- the theory's vector of a frame term
  abbrev pub vector : Mono Z.n → TVec Z.n
  vector x = canon (S Z) (module_over Z.n Z.code (Z.f ∷ Z.b)) (reckon (S Z) (L Z) (F Z) (red Z) x)

  -- the vector of the frame term, from the liftings of the terms of m · f_i
  vector_from : (x : Mono Z.n) → x.1 < length Z.f → (w : Vector) → Spelled (lin (S Z) (up Z) (scale (S Z) 1 (times (S Z) (L Z) (F Z).f x))) w
      → descending (compare_over Z.code (flats Z.n (Z.f ∷ Z.b))) Z.p ((1, mono Z.n x) ∷ w) ≡ vec Z.n (vector x)
  vector_from x l w a =
      ap (λ z. descending (compare_over Z.code (flats Z.n (Z.f ∷ Z.b))) Z.p ((1, mono Z.n x) ∷ z)) a.is
      ∙ sorted_is Z.n Z.p Z.P Z.code (Z.f ∷ Z.b) Z.grounded ((1, x) ∷ a.form) (reckon (S Z) (L Z) (F Z) (red Z) x)
      (good_one Z.p Z.P, a.good) (Z.somes x.1 l, a.ok)
      (Vec.same_cons (S Z) (1, x) (Vec.same_trans (S Z) a.like (Vec.same_lin (S Z) (up Z) (Vec.scale_one (S Z) (times (S Z) (L Z) (F Z).f x)))))

  module _ (x : Mono Z.n) (l : x.1 < length Z.f) where
    abbrev family_vector : TVec Z.n
    family_vector = get_or Z.f x.1 []

    family_good : Goods Z.n Z.p Z.P family_vector
    family_good = canonical_good Z.n Z.p Z.P Z.code Z.b family_vector (Z.canons x.1 l)

    -- what is reckoned within any bound is the theory's vector
    pub vector_is : (N : ℕ) → Holds (λ w. w ≡ vec Z.n (vector x)) (reckoned_vector N Z.p Z.code (flats Z.n (Z.f ∷ Z.b)) (mono Z.n x))
    vector_is N =
        subst (λ g. Holds (λ w. w ≡ vec Z.n (vector x)) (liftings Z.p (lifted_to N Z.p (flat Z.n Z.f)) 1 (out Z.n x.0) g then λ v.
        some (descending (compare_over Z.code (flats Z.n (Z.f ∷ Z.b))) Z.p ((1, mono Z.n x) ∷ v)))) (sym (flat_at Z.n Z.f x.1))
        (holds_then (liftings_spelled (lifted_to N Z.p (flat Z.n Z.f)) (lifted_spelled N) 1 (good_one Z.p Z.P)
        x.0 family_vector family_good)
        (λ w a. holds (vector_from x l w a)))

  -- ## Some bound is enough

  abbrev to : ℕ → Monomial → Option Vector
  to N m = lifted_to N Z.p (flat Z.n Z.f) m

  abbrev Liftable : Mono Z.n → Type 0
  Liftable x = Reached (λ N. to N (mono Z.n x))

  liftings_reached : (c : ℕ) (q : E Z.n) (g : TVec Z.n) → All (S Z) (λ (x : Mono Z.n). Liftable ((L Z).act q x)) g
      → Reached (λ N. liftings Z.p (to N) c (out Z.n q) (vec Z.n g))
  liftings_reached c q [] es = reached_some []
  liftings_reached c q (t ∷ g) es =
      reached_then (λ N. to N (product (out Z.n q) (out Z.n t.1.0), suc t.1.1))
      (λ N v. liftings Z.p (to N) c (out Z.n q) (vec Z.n g) then λ w. some (scaled Z.p (Field.times Z.p c t.0) v ++ w))
      (subst (λ z. Reached (λ N. to N (z, suc t.1.1))) (sym (product_out Z.n q t.1.0)) es.0)
      (λ v. reached_then (λ N. liftings Z.p (to N) c (out Z.n q) (vec Z.n g))
      (λ N w. some (scaled Z.p (Field.times Z.p c t.0) v ++ w))
      (liftings_reached c q g es.1) (λ w. reached_some (scaled Z.p (Field.times Z.p c t.0) v ++ w)))

  lifted_step : (x : Mono Z.n) → ((y : Mono Z.n) → (L Z).Lt y x → Liftable y) → Liftable x
  lifted_step x rec = reached_deeper (λ N. to N (mono Z.n x)) (go (answered Z x))
    where
      others : (r : Reducer (S Z) (L Z) (F Z) x) → All (S Z) (λ (y : Mono Z.n). Liftable ((L Z).act r.at.0 y))
          ((F Z).lead r.at.1 r.dom).rest
      others r =
          Vec.all_map (S Z) (λ y. (L Z).Lt y (lm Z.n Z.f r.at.1)) (λ y. Liftable ((L Z).act r.at.0 y))
          (λ y l. rec ((L Z).act r.at.0 y) (subst (λ z. (L Z).Lt ((L Z).act r.at.0 y) z) r.hits
          ((L Z).compat r.at.0 y (lm Z.n Z.f r.at.1) l)))
          ((F Z).lead r.at.1 r.dom).rest ((F Z).lead r.at.1 r.dom).smaller

      go : {a : Answer} → Answered Z x a → Reached (λ N. lifted_by a Z.p (flat Z.n Z.f) (λ m. to N m))
      go (miss o) = reached_some []
      go (hit r) =
          reached_then (λ N. liftings Z.p (λ m. to N m) c (out Z.n r.at.0) (rest (vector_of (flat Z.n Z.f) (suc r.at.1))))
          (λ N v. some ((c, mono Z.n r.at) ∷ v))
          (subst (λ g. Reached (λ N. liftings Z.p (λ m. to N m) c (out Z.n r.at.0) g)) (sym (others_is r))
          (liftings_reached c r.at.0 ((F Z).lead r.at.1 r.dom).rest (others r)))
          (λ v. reached_some ((c, mono Z.n r.at) ∷ v))
        where
          c : ℕ
          c = Field.minus Z.p (Field.times Z.p 1 (Field.inverse Z.p ((F Z).lead r.at.1 r.dom).coef))

  lifted_reached : (x : Mono Z.n) → Liftable x
  lifted_reached x = recursion (L Z).wf {C = Liftable} x lifted_step

  pub vector_reached : (x : Mono Z.n) → Reached (λ N. reckoned_vector N Z.p Z.code (flats Z.n (Z.f ∷ Z.b)) (mono Z.n x))
  vector_reached x =
      reached_then (λ N. liftings Z.p (to N) 1 (out Z.n x.0) (vector_of (flat Z.n Z.f) (suc x.1)))
      (λ N v. some (descending (compare_over Z.code (flats Z.n (Z.f ∷ Z.b))) Z.p ((1, mono Z.n x) ∷ v)))
      (subst (λ g. Reached (λ N. liftings Z.p (to N) 1 (out Z.n x.0) g)) (sym (flat_at Z.n Z.f x.1))
      (liftings_reached 1 x.0 (get_or Z.f x.1 []) (Vec.all_all (S Z) (λ y. Liftable ((L Z).act x.0 y))
      (λ y. lifted_reached ((L Z).act x.0 y))
      (get_or Z.f x.1 []))))
      (λ v. reached_some (descending (compare_over Z.code (flats Z.n (Z.f ∷ Z.b))) Z.p ((1, mono Z.n x) ∷ v)))

  -- from some bound on the reckoning's vector is the theory's
  pub vector_bound : (x : Mono Z.n) → x.1 < length Z.f
      → (N : ℕ) × (reckoned_vector N Z.p Z.code (flats Z.n (Z.f ∷ Z.b)) (mono Z.n x) ≡ some (vec Z.n (vector x)))
  vector_bound x l =
      let r : Reached (λ N. reckoned_vector N Z.p Z.code (flats Z.n (Z.f ∷ Z.b)) (mono Z.n x)) = vector_reached x in
      let e = reached_at (λ N. reckoned_vector N Z.p Z.code (flats Z.n (Z.f ∷ Z.b)) (mono Z.n x)) r in
      (r.bound, e ∙ ap some (holds_at e (vector_is x l r.bound)))
