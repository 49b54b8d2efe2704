-- What the soundness test says, part by part, and that these parts are all of it.
use mathlib.Core.Path.{◌≡◌}
use mathlib.Core.Bool.{Bool}
use mathlib.Core.List.{List, [], ◌∷◌}
use Prim.Native.Nat.{ℕ, suc, ◌-◌, ◌≤◌}
use lib.Dec.{T, leb, eqb, leb→le, le→leb, eqb→eq}
use lib.ListN.{length, drop}
use Rattle.definitions.specs.Limits.{Limits}
use Rattle.definitions.specs.Lists.{◌and◌, every, between}
use Rattle.definitions.specs.Monomial.{Exponents, Term, Vector, Level, fits?}
use Rattle.definitions.specs.Order.{compare_over}
use Rattle.definitions.specs.Vectors.{strictly_descending?}
use Rattle.definitions.specs.Problem.{Parameters, in_ranges?, prime_in_range?}
use Rattle.definitions.specs.State.{State, sound?, degrees_sound?, levels_sound?, vector_sound?, term_sound?, exponents_sound?, terms_of}
use Rattle.laws.proofs.Tests.{and_left, and_right, and_both, between_low, between_high, between_shown}

abbrev Past : ℕ → Exponents → Bool
Past n e = every (λ x. eqb x 0) (drop n e)

pub record SoundTerm (lim : Limits) (q : Parameters) (components : ℕ) (t : Term) : Type 0 where
  pub coefficient : T (between 1 t.0 (q.p - 1))
  pub component : T (between 1 t.1.1 components)
  pub eight : length t.1.0 ≡ 8
  pub fits : T (fits? lim.exponent t.1.0)
  pub past : T (every (λ x. eqb x 0) (drop q.n t.1.0))

pub record SoundVector (lim : Limits) (q : Parameters) (components most : ℕ) (below : List Level) (v : Vector) : Type 0 where
  pub filled : 1 ≤ length v
  pub short : length v ≤ most
  pub terms : T (every (term_sound? lim q components) v)
  pub descends : T (strictly_descending? (compare_over q.code below) v)

-- level 0
pub record SoundBasis (lim : Limits) (q : Parameters) (f : Level) : Type 0 where
  pub some_element : 1 ≤ length f
  pub few : length f ≤ lim.elements
  pub short : terms_of f ≤ lim.t_lines
  pub vectors : T (every (vector_sound? lim q q.s lim.t_lines []) f)

-- a level over g and the levels below g
pub record SoundLevel (lim : Limits) (q : Parameters) (f g : Level) (below : List Level) : Type 0 where
  pub few : length f ≤ lim.vectors
  pub short : terms_of f ≤ lim.level_terms
  pub vectors : T (every (vector_sound? lim q (length g) lim.vector (g ∷ below)) f)
  pub under : T (levels_sound? lim q (g ∷ below))

pub record Sound (lim : Limits) (X : State) : Type 0 where
  pub prime : T (prime_in_range? lim X.parameters.p)
  pub ranges : T (in_ranges? lim X.parameters)
  pub degrees : T (degrees_sound? X.parameters)
  pub height : length X.levels ≤ suc lim.levels
  pub levels : T (levels_sound? lim X.parameters X.levels)

module _ (lim : Limits) (q : Parameters) where
  pub term_says : (c : ℕ) (t : Term) → T (term_sound? lim q c t) → SoundTerm lim q c t
  term_says c t h =
      let r = and_right (between 1 t.0 (q.p - 1)) (between 1 t.1.1 c and exponents_sound? lim q.n t.1.0) h in
      let e = and_right (between 1 t.1.1 c) (exponents_sound? lim q.n t.1.0) r in
      let f = and_right (eqb (length t.1.0) 8) (fits? lim.exponent t.1.0 and Past q.n t.1.0) e in
      record {
        coefficient = and_left (between 1 t.0 (q.p - 1)) (between 1 t.1.1 c and exponents_sound? lim q.n t.1.0) h;
        component = and_left (between 1 t.1.1 c) (exponents_sound? lim q.n t.1.0) r;
        eight = eqb→eq (length t.1.0) 8 (and_left (eqb (length t.1.0) 8) (fits? lim.exponent t.1.0 and Past q.n t.1.0) e);
        fits = and_left (fits? lim.exponent t.1.0) (Past q.n t.1.0) f;
        past = and_right (fits? lim.exponent t.1.0) (Past q.n t.1.0) f;
      }

  pub term_shown : (c : ℕ) (t : Term) → SoundTerm lim q c t → T (term_sound? lim q c t)
  term_shown c t h =
      and_both (between 1 t.0 (q.p - 1)) (between 1 t.1.1 c and exponents_sound? lim q.n t.1.0) h.coefficient
      (and_both (between 1 t.1.1 c) (exponents_sound? lim q.n t.1.0) h.component
      (and_both (eqb (length t.1.0) 8) (fits? lim.exponent t.1.0 and Past q.n t.1.0) (rw h.eight tt)
      (and_both (fits? lim.exponent t.1.0) (Past q.n t.1.0) h.fits h.past)))

  pub vector_says : (c most : ℕ) (below : List Level) (v : Vector) → T (vector_sound? lim q c most below v) → SoundVector lim q c most below v
  vector_says c most below v h =
      let d = strictly_descending? (compare_over q.code below) v in
      let r = and_right (between 1 (length v) most) (every (term_sound? lim q c) v and d) h in
      let b = and_left (between 1 (length v) most) (every (term_sound? lim q c) v and d) h in
      record {
        filled = between_low 1 (length v) most b;
        short = between_high 1 (length v) most b;
        terms = and_left (every (term_sound? lim q c) v) d r;
        descends = and_right (every (term_sound? lim q c) v) d r;
      }

  pub vector_shown : (c most : ℕ) (below : List Level) (v : Vector) → SoundVector lim q c most below v → T (vector_sound? lim q c most below v)
  vector_shown c most below v h =
      let d = strictly_descending? (compare_over q.code below) v in
      and_both (between 1 (length v) most) (every (term_sound? lim q c) v and d) (between_shown 1 (length v) most h.filled h.short)
      (and_both (every (term_sound? lim q c) v) d h.terms h.descends)

  pub basis_says : (f : Level) → T (levels_sound? lim q (f ∷ [])) → SoundBasis lim q f
  basis_says f h =
      let vs = every (vector_sound? lim q q.s lim.t_lines []) f in
      let b = and_left (between 1 (length f) lim.elements) (leb (terms_of f) lim.t_lines and vs) h in
      let r = and_right (between 1 (length f) lim.elements) (leb (terms_of f) lim.t_lines and vs) h in
      record {
        some_element = between_low 1 (length f) lim.elements b;
        few = between_high 1 (length f) lim.elements b;
        short = leb→le (terms_of f) lim.t_lines (and_left (leb (terms_of f) lim.t_lines) vs r);
        vectors = and_right (leb (terms_of f) lim.t_lines) vs r;
      }

  pub basis_shown : (f : Level) → SoundBasis lim q f → T (levels_sound? lim q (f ∷ []))
  basis_shown f h =
      let vs = every (vector_sound? lim q q.s lim.t_lines []) f in
      and_both (between 1 (length f) lim.elements) (leb (terms_of f) lim.t_lines and vs)
      (between_shown 1 (length f) lim.elements h.some_element h.few)
      (and_both (leb (terms_of f) lim.t_lines) vs (le→leb (terms_of f) lim.t_lines h.short) h.vectors)

  pub level_says : (f g : Level) (below : List Level) → T (levels_sound? lim q (f ∷ g ∷ below)) → SoundLevel lim q f g below
  level_says f g below h =
      let vs = every (vector_sound? lim q (length g) lim.vector (g ∷ below)) f in
      let r = and_right (levels_sound? lim q (g ∷ below)) (leb (length f) lim.vectors and leb (terms_of f) lim.level_terms and vs) h in
      let s = and_right (leb (length f) lim.vectors) (leb (terms_of f) lim.level_terms and vs) r in
      record {
        few = leb→le (length f) lim.vectors (and_left (leb (length f) lim.vectors) (leb (terms_of f) lim.level_terms and vs) r);
        short = leb→le (terms_of f) lim.level_terms (and_left (leb (terms_of f) lim.level_terms) vs s);
        vectors = and_right (leb (terms_of f) lim.level_terms) vs s;
        under = and_left (levels_sound? lim q (g ∷ below)) (leb (length f) lim.vectors and leb (terms_of f) lim.level_terms and vs) h;
      }

  pub level_shown : (f g : Level) (below : List Level) → SoundLevel lim q f g below → T (levels_sound? lim q (f ∷ g ∷ below))
  level_shown f g below h =
      let vs = every (vector_sound? lim q (length g) lim.vector (g ∷ below)) f in
      and_both (levels_sound? lim q (g ∷ below)) (leb (length f) lim.vectors and leb (terms_of f) lim.level_terms and vs) h.under
      (and_both (leb (length f) lim.vectors) (leb (terms_of f) lim.level_terms and vs) (le→leb (length f) lim.vectors h.few)
      (and_both (leb (terms_of f) lim.level_terms) vs (le→leb (terms_of f) lim.level_terms h.short) h.vectors))

module _ (lim : Limits) (X : State) where
  Height : Bool
  Height = leb (length X.levels) (suc lim.levels)

  Levels : Bool
  Levels = levels_sound? lim X.parameters X.levels

  pub sound_says : T (sound? lim X) → Sound lim X
  unfolding Height Levels
  sound_says h =
      let d = degrees_sound? X.parameters in
      let r = and_right (prime_in_range? lim X.parameters.p) (in_ranges? lim X.parameters and d and Height and Levels) h in
      let e = and_right (in_ranges? lim X.parameters) (d and Height and Levels) r in
      let s = and_right d (Height and Levels) e in
      record {
        prime = and_left (prime_in_range? lim X.parameters.p) (in_ranges? lim X.parameters and d and Height and Levels) h;
        ranges = and_left (in_ranges? lim X.parameters) (d and Height and Levels) r;
        degrees = and_left d (Height and Levels) e;
        height = leb→le (length X.levels) (suc lim.levels) (and_left Height Levels s);
        levels = and_right Height Levels s;
      }

  pub sound_shown : Sound lim X → T (sound? lim X)
  unfolding Height Levels
  sound_shown h =
      let d = degrees_sound? X.parameters in
      and_both (prime_in_range? lim X.parameters.p) (in_ranges? lim X.parameters and d and Height and Levels) h.prime
      (and_both (in_ranges? lim X.parameters) (d and Height and Levels) h.ranges
      (and_both d (Height and Levels) h.degrees
      (and_both Height Levels (le→leb (length X.levels) (suc lim.levels) h.height) h.levels)))
