-- "17, with the first such element as place, when some element has terms of two degrees"; a degree is what some function gives, so that 25 (A14) is the same.
use mathlib.Core.Path.{◌≡◌, refl, sym, ap, ◌∙◌, subst}
use mathlib.Core.Logic.{◌⊎◌, inl, inr}
use mathlib.Core.Bool.{Bool, true, false, not}
use mathlib.Core.Option.{Option, none, some}
use mathlib.Core.List.{List, [], ◌∷◌}
use Prim.Native.Nat.{ℕ, zero, suc, ◌+◌, ◌<◌, ◌≤◌}
use native.Mathlib.Omega.{arith}
use lib.Dec.{T, eqb, eqb→eq, eqb_refl, ltb, ltb→lt, nltb→le}
use lib.ListN.{length, get_or}
use Rattle.definitions.specs.Lists.{any}
use Rattle.definitions.specs.Monomial.{Monomial, Term, Vector, Level, vector_of}
use Rattle.definitions.specs.Degrees.{degree_by}
use Rattle.definitions.specs.Betti.{mixed?, first_mixed, same_degree?}
use Rattle.demands.specs.Notions.{Member}
use Rattle.betti.specs.Notions.{TwoDegrees, FirstMixed, Homogeneous}

-- elements are counted from 1: the first with terms of two degrees, or there is none
abbrev pub FirstOf : {A : Type 0} → (Monomial → A) → Level → Option ℕ → Type 0
FirstOf by f none = Homogeneous by f
FirstOf by f (some i) = FirstMixed by f i

module _
    {A : Type 0} (by : Monomial → A) (same? : Monomial → Monomial → Bool)
    (says : (m m' : Monomial) → T (same? m m') → by m ≡ by m') (shows : (m m' : Monomial) → by m ≡ by m' → T (same? m m')) where
  abbrev deg : Term → A
  deg t = by t.1

  -- ## One element

  -- a term of another degree than t's
  pub record Other (t : Term) (v : Vector) : Type 0 where
    pub term : Term
    pub in_it : Member term v
    pub differ : ¬ (deg t ≡ deg term)

  abbrev others? : Term → Vector → Bool
  others? t v = any (λ u. not (same? t.1 u.1)) v

  any_other : (t : Term) (v : Vector) → T (others? t v) → Other t v
  any_other t [] h = absurd h
  any_other t (u ∷ v) h = go (same? t.1 u.1) (shows t.1 u.1) h (any_other t v)
    where
      go : (b : Bool) → (deg t ≡ deg u → T b) → T (elim (not b) [ true ↦ true | false ↦ others? t v ]) → (T (others? t v) → Other t v) → Other t (u ∷ v)
      go true e h ih = let o = ih h in record { term = o.term; in_it = inr o.in_it; differ = o.differ }
      go false e h ih = record { term = u; in_it = inl refl; differ = e }

  none_other : (t : Term) (v : Vector) → (T (others? t v) → ⊥) → (u : Term) → Member u v → deg t ≡ deg u
  none_other t [] h u m = absurd m
  none_other t (w ∷ v) h u m = go (same? t.1 w.1) (says t.1 w.1) h m (none_other t v)
    where
      go : (b : Bool) → (T b → deg t ≡ deg w) → (T (elim (not b) [ true ↦ true | false ↦ others? t v ]) → ⊥) → (u ≡ w) ⊎ Member u v
          → ((T (others? t v) → ⊥) → (u : Term) → Member u v → deg t ≡ deg u) → deg t ≡ deg u
      go true e h (inl q) ih = e tt ∙ ap deg (sym q)
      go true e h (inr m) ih = ih h u m
      go false e h m ih = absurd (h tt)

  mixed_says : (f : Vector) → T (mixed? same? f) → TwoDegrees by f
  mixed_says [] h = absurd h
  mixed_says (t ∷ v) h = let o = any_other t v h in record { one = t; other = o.term; in_it = inl refl; too = inr o.in_it; differ = o.differ }

  mixed_shows : (f : Vector) → TwoDegrees by f → (T (mixed? same? f) → ⊥) → ⊥
  mixed_shows [] h n = h.in_it
  mixed_shows (t ∷ v) h n = h.differ (sym (same h.one h.in_it) ∙ same h.other h.too)
    where
      same : (u : Term) → (u ≡ t) ⊎ Member u v → deg t ≡ deg u
      same u (inl q) = ap deg (sym q)
      same u (inr m) = none_other t v n u m

  -- ## The first such element

  -- element i + j, counted from i
  pub record Found (i : ℕ) (f : Level) (k : ℕ) : Type 0 where
    pub past : ℕ
    pub is : k ≡ i + past
    pub inside : past < length f
    pub here : T (mixed? same? (get_or f past []))
    pub not_before : (h : ℕ) → h < past → T (mixed? same? (get_or f h [])) → ⊥

  abbrev Searched : ℕ → Level → Option ℕ → Type 0
  Searched i f none = (h : ℕ) → h < length f → T (mixed? same? (get_or f h [])) → ⊥
  Searched i f (some k) = Found i f k

  searched : (i : ℕ) (f : Level) → Searched i f (first_mixed same? i f)
  searched i [] = λ h l t. omega (arith, l)
  searched i (v ∷ f) = go (mixed? same? v) refl (first_mixed same? (suc i) f) (searched (suc i) f)
    where
      behind : {j : ℕ} → mixed? same? v ≡ false → ((h : ℕ) → h < j → T (mixed? same? (get_or f h [])) → ⊥) → (h : ℕ) → h < suc j
          → T (mixed? same? (get_or (v ∷ f) h [])) → ⊥
      behind q n zero l t = subst T q t
      behind q n (suc h) l t = n h (omega (arith, l)) t

      later : mixed? same? v ≡ false → (o : Option ℕ) → Searched (suc i) f o → Searched i (v ∷ f) o
      later q none s = behind q s
      later q (some k) s = record {
        past = suc s.past;
        is = let e = s.is in omega (arith, e);
        inside = let e = s.inside in omega (arith, e);
        here = s.here;
        not_before = behind q s.not_before;
      }

      go : (b : Bool) → mixed? same? v ≡ b → (o : Option ℕ) → Searched (suc i) f o → Searched i (v ∷ f) (elim b [ true ↦ some i | false ↦ o ])
      go true q o s = record { past = 0; is = omega arith; inside = omega arith; here = subst T (sym q) tt; not_before = λ h l t. omega (arith, l) }
      go false q o s = later q o s

  not_at : (f : Level) {j : ℕ} → ((h : ℕ) → h < j → T (mixed? same? (get_or f h [])) → ⊥) → (i : ℕ) → 1 ≤ i → i < suc j → ¬ (TwoDegrees by (vector_of f i))
  not_at f n zero k l m = omega (arith, k)
  not_at f n (suc h) k l m = mixed_shows (get_or f h []) m (n h (omega (arith, l)))

  pub first_is : (f : Level) → FirstOf by f (first_mixed same? 1 f)
  first_is f = go (first_mixed same? 1 f) (searched 1 f)
    where
      go : (o : Option ℕ) → Searched 1 f o → FirstOf by f o
      go none s = λ i a b. not_at f s i a (omega (arith, b))
      go (some i) s =
          let e : i ≡ suc s.past = let z = s.is in omega (arith, z) in
          let l = s.inside in
          subst (FirstMixed by f) (sym e) (record {
            low = omega arith;
            high = omega (arith, l);
            mixed = mixed_says (get_or f s.past []) s.here;
            none_before = not_at f s.not_before;
          })

-- there is one first
pub first_once : {A : Type 0} (by : Monomial → A) (f : Level) (i j : ℕ) → FirstMixed by f i → FirstMixed by f j → i ≡ j
first_once by f i j a b = go (ltb i j) (ltb→lt i j) (nltb→le i j) (ltb j i) (ltb→lt j i) (nltb→le j i)
  where
    go : (x : Bool) → (T x → i < j) → (T (not x) → j ≤ i) → (y : Bool) → (T y → j < i) → (T (not y) → i ≤ j) → i ≡ j
    go true l m y n o = absurd (b.none_before i a.low (l tt) a.mixed)
    go false l m true n o = absurd (a.none_before j b.low (n tt) b.mixed)
    go false l m false n o = let p = m tt in let q = o tt in omega (arith, p, q)

-- ## By the degree

pub first_by_degree : (d : List ℕ) (f : Level) → FirstOf (degree_by d) f (first_mixed (same_degree? d) 1 f)
first_by_degree d f = first_is (degree_by d) (same_degree? d) says shows f
  where
    says : (m m' : Monomial) → T (same_degree? d m m') → degree_by d m ≡ degree_by d m'
    says m m' = eqb→eq (degree_by d m) (degree_by d m')

    shows : (m m' : Monomial) → degree_by d m ≡ degree_by d m' → T (same_degree? d m m')
    shows m m' e = subst (λ x. T (eqb (degree_by d m) x)) e (eqb_refl (degree_by d m))
