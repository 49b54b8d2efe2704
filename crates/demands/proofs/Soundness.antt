-- The levels of a sound state are levels of the theory: a setting.
use mathlib.Core.Path.{◌≡◌, refl, sym, ap, ap₂, ◌∙◌, subst, subst₂}
use mathlib.Core.Bool.{Bool, true}
use mathlib.Core.List.{List, [], ◌∷◌}
use Prim.Native.Nat.{ℕ, zero, suc, ◌-◌, ◌<◌, ◌≤◌}
use native.Mathlib.Omega.{arith}
use lib.Dec.{T}
use lib.ListN.{length, get_or}
use Rattle.theory.specs.Vec.{All}
use Rattle.theory.specs.Modular.{ModP}
use Rattle.theory.specs.Canon.{Canonical}
use Rattle.theory.proofs.Canon.{all_lower}
use Rattle.definitions.specs.Limits.{Limits}
use Rattle.definitions.specs.Lists.{every}
use Rattle.definitions.specs.Monomial
use Rattle.definitions.specs.Monomial.{Monomial, Term, Vector, fits?}
use Rattle.definitions.specs.Order.{Comparison, compare_over, greater?}
use Rattle.definitions.specs.Vectors.{strictly_descending?}
use Rattle.definitions.specs.Stage.{highest}
use Rattle.definitions.specs.Problem.{Parameters}
use Rattle.definitions.specs.State.{term_sound?, vector_sound?, levels_sound?}
use Rattle.laws.proofs.Modular.{Prime}
use Rattle.laws.proofs.Tests.{and_left, and_right, between_low, between_high}
use Rattle.laws.proofs.Sound.{SoundTerm, term_says, SoundVector, vector_says, basis_says, level_says}
use Rattle.demands.proofs.Exponents.{out, into, into_out, out_into}
use Rattle.demands.proofs.Comparisons.{Says, less, level, more}
use Rattle.demands.proofs.Levels.{Mono, TVec, TLevel, mono, term, vec, flat, flats, flat_length, cons?, head, lm, module_over, Has, Grounded, over_says}
use Rattle.demands.proofs.Coefficients.{Good, good_range}
use Rattle.demands.proofs.Setting.{Setting, Somes}

-- ## Back into the theory

module _ (n : ℕ) where
  abbrev pub tmono : Monomial → Mono n
  tmono m = (into n m.0, m.1 - 1)

  pub tmono_mono : (x : Mono n) → tmono (mono n x) ≡ x
  tmono_mono x = let e : suc x.1 - 1 ≡ x.1 = omega arith in λ i. (into_out n x.0 i, e i)

  abbrev pub tvec : Vector → TVec n
  tvec [] = []
  tvec (t ∷ v) = (t.0, tmono t.1) ∷ tvec v

  abbrev pub tlevel : Monomial.Level → TLevel n
  tlevel [] = []
  tlevel (v ∷ f) = tvec v ∷ tlevel f

  abbrev pub tlevels : List Monomial.Level → List (TLevel n)
  tlevels [] = []
  tlevels (f ∷ b) = tlevel f ∷ tlevels b

-- ## What soundness gives

module _ (n p : ℕ) (P : Prime p) (code : ℕ) where
  -- a vector with a leading term, canonical, its components in range
  pub record Regular (b : List (TLevel n)) (v : TVec n) : Type 0 where
    pub has_one : T (cons? n v)
    pub canonical : Canonical (ModP p P) (module_over n code b) v
    pub inside : All (ModP p P) (Has n b) v

  abbrev pub Regulars : List (TLevel n) → TLevel n → Type 0
  Regulars b f = (j : ℕ) → j < length f → Regular b (get_or f j [])

  -- .. all the way down
  abbrev pub Deep : List (TLevel n) → Type 0
  Deep [] = Unit {0}
  Deep (f ∷ b) = Regulars b f × Deep b

  pub cons_in : (f : TLevel n) (j : ℕ) → T (cons? n (get_or f j [])) → j < length f
  cons_in [] j t = absurd t
  cons_in (v ∷ f) zero t = omega arith
  cons_in (v ∷ f) (suc j) t = let h : j < length f = cons_in f j t in omega arith

  head_has : (b : List (TLevel n)) (v : TVec n) → T (cons? n v) → All (ModP p P) (Has n b) v → Has n b (head n v)
  head_has b [] t h = absurd t
  head_has b (u ∷ v) t h = h.0

  pub deep_grounded : (b : List (TLevel n)) → Deep b → Grounded n b
  deep_grounded [] d = tt
  deep_grounded (f ∷ b) d = ((λ j t. head_has b (get_or f j []) t (d.0 j (cons_in f j t)).inside), deep_grounded b d.1)

  abbrev pub setting : (f : TLevel n) (b : List (TLevel n)) → Deep (f ∷ b) → Setting
  setting f b d = record {
    n = n;
    p = p;
    P = P;
    code = code;
    f = f;
    b = b;
    somes = λ j l. (d.0 j l).has_one;
    canons = λ j l. (d.0 j l).canonical;
    inside = λ j l. (d.0 j l).inside;
    grounded = deep_grounded (f ∷ b) d;
  }

-- the exponents are within the limit
abbrev pub Within : Limits → (n : ℕ) → Mono n → Type 0
Within lim n x = T (fits? lim.exponent (out n x.0))

-- .. and the component in range
abbrev pub SoundMono : Limits → (n : ℕ) → ℕ → Mono n → Type 0
SoundMono lim n count x = (x.1 < count) × Within lim n x

abbrev pub AllSound : Limits → (n p : ℕ) → Prime p → ℕ → TLevel n → Type 0
AllSound lim n p P count f = (j : ℕ) → j < length f → All (ModP p P) (SoundMono lim n count) (get_or f j [])

pub leading_within : (lim : Limits) (n p : ℕ) (P : Prime p) (count : ℕ) (f : TLevel n) → Somes n p f → AllSound lim n p P count f → (j : ℕ)
    → j < length f
    → Within lim n (lm n f j)
leading_within lim n p P count f s w j l = go (get_or f j []) (s j l) (w j l)
  where
    go : (v : TVec n) → T (cons? n v) → All (ModP p P) (SoundMono lim n count) v → Within lim n (head n v)
    go [] t h = absurd t
    go (u ∷ v) t h = h.0.1

-- ## One level over regular levels

module _ (lim : Limits) (q : Parameters) (P : Prime q.p) (eight : q.n ≤ 8) (b : List (TLevel q.n)) (G : Grounded q.n b)
    (count : ℕ) (ranged : (x : Mono q.n) → x.1 < count → Has q.n b x) where
  abbrev n : ℕ
  n = q.n

  pub record TermRight (t : Term) : Type 0 where
    pub back : term q.n (t.0, tmono q.n t.1) ≡ t
    pub good : Good q.p t.0
    pub has : Has q.n b (tmono q.n t.1)
    pub fits : SoundMono lim q.n count (tmono q.n t.1)

  term_right : (t : Term) → T (term_sound? lim q count t) → TermRight t
  term_right t s = record {
    back = λ i. (t.0, (out_into n eight t.1.0 h.eight h.past i, component i));
    good = good_range q.p P t.0 (between_low 1 t.0 (q.p - 1) h.coefficient) (between_high 1 t.0 (q.p - 1) h.coefficient);
    has = ranged (tmono n t.1) inside;
    fits = (inside, subst (λ e. T (fits? lim.exponent e)) (sym (out_into n eight t.1.0 h.eight h.past)) h.fits);
  }
    where
      h : SoundTerm lim q count t
      h = term_says lim q count t s

      low : 1 ≤ t.1.1
      low = between_low 1 t.1.1 count h.component

      high : t.1.1 ≤ count
      high = between_high 1 t.1.1 count h.component

      component : suc (t.1.1 - 1) ≡ t.1.1
      component = omega (arith, low)

      inside : t.1.1 - 1 < count
      inside = omega (arith, low, high)

  said_greater : (x y : Mono n) → Has n b x → Has n b y → T (greater? (compare_over q.code (flats n b) (mono n x) (mono n y)))
      → (module_over n q.code b).Lt y x
  said_greater x y hx hy = go (over_says n q.code b G x y hx hy)
    where
      go : {c : Comparison} → Says ((module_over n q.code b).Lt x y) (x ≡ y) ((module_over n q.code b).Lt y x) c → T (greater? c)
          → (module_over n q.code b).Lt y x
      go (more s) t = s
      go (level s) t = absurd t
      go (less s) t = absurd t

  -- a vector of sound terms
  pub record VectorRight (v : Vector) : Type 0 where
    pub back : vec q.n (tvec q.n v) ≡ v
    pub inside : All (ModP q.p P) (Has q.n b) (tvec q.n v)
    pub fits : All (ModP q.p P) (SoundMono lim q.n count) (tvec q.n v)

  pub vector_right : (v : Vector) → T (every (term_sound? lim q count) v) → VectorRight v
  vector_right [] s = record { back = refl; inside = tt; fits = tt }
  vector_right (t ∷ v) s =
      let h : TermRight t = term_right t (and_left (term_sound? lim q count t) (every (term_sound? lim q count) v) s) in
      let r : VectorRight v = vector_right v (and_right (term_sound? lim q count t) (every (term_sound? lim q count) v) s) in
      record { back = ap₂ (λ x y. x ∷ y) h.back r.back; inside = (h.has, r.inside); fits = (h.fits, r.fits) }

  -- strictly descending: canonical
  vector_canonical : (v : Vector) → T (every (term_sound? lim q count) v) → T (strictly_descending? (compare_over q.code (flats n b)) v)
      → Canonical (ModP q.p P) (module_over n q.code b) (tvec n v)
  vector_canonical [] s d = tt
  vector_canonical (t ∷ []) s d = let r : TermRight t = term_right t (and_left (term_sound? lim q count t) true s) in (r.good.0, r.good.1, tt, tt)
  vector_canonical (t ∷ u ∷ v) s d = go (vector_canonical (u ∷ v) rest
      (and_right order (strictly_descending? (compare_over q.code (flats n b)) (u ∷ v)) d))
    where
      order : Bool
      order = greater? (compare_over q.code (flats n b) t.1 u.1)

      rest : T (every (term_sound? lim q count) (u ∷ v))
      rest = and_right (term_sound? lim q count t) (every (term_sound? lim q count) (u ∷ v)) s

      r : TermRight t
      r = term_right t (and_left (term_sound? lim q count t) (every (term_sound? lim q count) (u ∷ v)) s)

      w : TermRight u
      w = term_right u (and_left (term_sound? lim q count u) (every (term_sound? lim q count) v) rest)

      l : (module_over n q.code b).Lt (tmono n u.1) (tmono n t.1)
      l = said_greater (tmono n t.1) (tmono n u.1) r.has w.has
          (subst₂ (λ x y. T (greater? (compare_over q.code (flats n b) x y))) (sym (ap (λ z. z.1) r.back)) (sym (ap (λ z. z.1) w.back))
          (and_left order (strictly_descending? (compare_over q.code (flats n b)) (u ∷ v)) d))

      go : Canonical (ModP q.p P) (module_over n q.code b) (tvec n (u ∷ v))
          → Canonical (ModP q.p P) (module_over n q.code b) (tvec n (t ∷ u ∷ v))
      go c = (
        r.good.0,
        r.good.1,
        (l, all_lower (ModP q.p P) (module_over n q.code b) (tmono n u.1) (tmono n t.1) l (tvec n v) c.2),
        c,
      )

  some_one : (v : Vector) → 1 ≤ length v → T (cons? n (tvec n v))
  some_one [] h = absurd (omega arith)
  some_one (t ∷ v) h = tt

  -- a level of sound vectors
  pub record LevelRight (f : Monomial.Level) : Type 0 where
    pub back : flat q.n (tlevel q.n f) ≡ f
    pub regular : Regulars q.n q.p P q.code b (tlevel q.n f)
    pub fits : AllSound lim q.n q.p P count (tlevel q.n f)

  pub level_right : (most : ℕ) (f : Monomial.Level) → T (every (vector_sound? lim q count most (flats q.n b)) f) → LevelRight f
  level_right most [] s = record { back = refl; regular = λ j l. absurd (omega arith); fits = λ j l. absurd (omega arith) }
  level_right most (v ∷ f) s =
      go (level_right most f (and_right (vector_sound? lim q count most (flats n b) v) (every (vector_sound? lim q count most (flats n b)) f) s))
    where
      h : SoundVector lim q count most (flats n b) v
      h = vector_says lim q count most (flats n b) v (and_left (vector_sound? lim q count most (flats n b) v)
          (every (vector_sound? lim q count most (flats n b)) f) s)

      w : VectorRight v
      w = vector_right v h.terms

      first : Regular n q.p P q.code b (tvec n v)
      first = record { has_one = some_one v h.filled; canonical = vector_canonical v h.terms h.descends; inside = w.inside }

      go : LevelRight f → LevelRight (v ∷ f)
      go r = record { back = ap₂ (λ x y. x ∷ y) w.back r.back; regular = all; fits = fits }
        where
          fits : (j : ℕ) → j < suc (length (tlevel n f)) → All (ModP q.p P) (SoundMono lim n count) (get_or (tvec n v ∷ tlevel n f) j [])
          fits zero l = w.fits
          fits (suc j) l = r.fits j (omega arith)

          all : (j : ℕ) → j < suc (length (tlevel n f)) → Regular n q.p P q.code b (get_or (tvec n v ∷ tlevel n f) j [])
          all zero l = first
          all (suc j) l = r.regular j (omega arith)

-- ## All levels

module _ (lim : Limits) (q : Parameters) (P : Prime q.p) (eight : q.n ≤ 8) where
  -- how many components the highest level's module has
  abbrev pub components : List Monomial.Level → ℕ
  components [] = 0
  components (f ∷ []) = q.s
  components (f ∷ g ∷ below) = length g

  pub record LevelsRight (ls : List Monomial.Level) : Type 0 where
    pub back : flats q.n (tlevels q.n ls) ≡ ls
    pub deep : Deep q.n q.p P q.code (tlevels q.n ls)
    -- the highest level
    pub fits : AllSound lim q.n q.p P (components ls) (tlevel q.n (highest ls))

  -- the level above sound levels
  module _ (g : Monomial.Level) (below : List Monomial.Level) (w : LevelsRight (g ∷ below)) where
    size : length (tlevel q.n g) ≡ length g
    size = sym (flat_length q.n (tlevel q.n g)) ∙ ap (λ ls. length (highest ls)) w.back

    pub ranged_above : (x : Mono q.n) → x.1 < length g → Has q.n (tlevels q.n (g ∷ below)) x
    ranged_above x l = (w.deep.0 x.1 (omega (arith, size))).has_one

    pub grounded_above : Grounded q.n (tlevels q.n (g ∷ below))
    grounded_above = deep_grounded q.n q.p P q.code (tlevels q.n (g ∷ below)) w.deep

  pub levels_right : (ls : List Monomial.Level) → T (levels_sound? lim q ls) → LevelsRight ls
  levels_right [] s = absurd s
  levels_right (f ∷ []) s =
      let r : LevelRight lim q P eight [] tt q.s (λ x h. tt) f = level_right lim q P eight [] tt q.s (λ x h. tt) lim.t_lines f
      (basis_says lim q f s).vectors in
      record { back = ap (λ z. z ∷ []) r.back; deep = (r.regular, tt); fits = r.fits }
  levels_right (f ∷ g ∷ below) s = go (levels_right (g ∷ below) (level_says lim q f g below s).under)
    where
      go : LevelsRight (g ∷ below) → LevelsRight (f ∷ g ∷ below)
      go w = record { back = ap₂ (λ x y. x ∷ y) r.back w.back; deep = (r.regular, w.deep); fits = r.fits }
        where
          r : LevelRight lim q P eight (tlevels q.n (g ∷ below)) (grounded_above g below w) (length g) (ranged_above g below w) f
          r = level_right lim q P eight (tlevels q.n (g ∷ below)) (grounded_above g below w) (length g) (ranged_above g below w) lim.vector f
              (subst (λ ls. T (every (vector_sound? lim q (length g) lim.vector ls) f)) (sym w.back) (level_says lim q f g below s).vectors)
