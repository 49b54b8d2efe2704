-- The soundness test of a state's levels gives all that the argument asks of a stage.
use mathlib.Core.Path.{refl}
use mathlib.Core.List.{List, [], ◌∷◌}
use Prim.Native.Nat.{ℕ, zero, suc, ◌-◌, ◌≤◌}
use lib.Dec.{T, leb}
use lib.ListN.{length, drop}
use Rattle.definitions.specs.Limits.{Limits}
use Rattle.definitions.specs.Lists.{every, rest}
use Rattle.definitions.specs.Monomial.{Monomial, Term, Vector, Level}
use Rattle.definitions.specs.Order.{Comparison, compare_over}
use Rattle.definitions.specs.Stage.{highest, stage_over}
use Rattle.definitions.specs.Problem.{Parameters}
use Rattle.definitions.specs.State.{State, term_sound?, vector_sound?, levels_sound?, sound?}
use Rattle.definitions.specs.Field.{prime?}
use Rattle.laws.proofs.Tests.{and_right, between_low, between_high}
use Rattle.laws.proofs.Members.{All, every_all, all_map}
use Rattle.laws.proofs.Sound.{term_says, vector_says, basis_says, level_says, sound_says}
use Rattle.laws.proofs.Modular.{Prime, prime_says}
use Rattle.laws.proofs.Coefficients.{range_nonzero}
use Rattle.laws.proofs.Induced.{Led, Leads, compare_order}
use Rattle.ending.specs.Well.{Proper, Descending, DescendingLevels, Well}

-- ## From descending levels

descending_led : (p : ℕ) (order : Monomial → Monomial → Comparison) (v : Vector) → Descending p order v → Led 8 v
descending_led p order [] d = tt
descending_led p order (t ∷ v) d = d.proper.0.shaped.long

pub levels_lead : (p code : ℕ) (below : List Level) → DescendingLevels p code below → Leads 8 below
levels_lead p code [] d = tt
levels_lead p code (f ∷ below) d =
    (all_map (Descending p (compare_over code below)) (Led 8) (descending_led p (compare_over code below)) f d.0, levels_lead p code below d.1)

rest_descending : (p code : ℕ) (below : List Level) → DescendingLevels p code below → DescendingLevels p code (rest below)
rest_descending p code [] d = tt
rest_descending p code (f ∷ below) d = d.1

highest_descending : (p code : ℕ) (below : List Level) → DescendingLevels p code below
    → All (Descending p (compare_over code (rest below))) (highest below)
highest_descending p code [] d = tt
highest_descending p code (f ∷ below) d = d.0

-- some of the levels, from level 0 on
pub drop_descending : (p code n : ℕ) (below : List Level) → DescendingLevels p code below → DescendingLevels p code (drop n below)
drop_descending p code zero below d = d
drop_descending p code (suc n) [] d = tt
drop_descending p code (suc n) (f ∷ below) d = drop_descending p code n below d.1

pub descending_well : (lim : Limits) (p code : ℕ) (below : List Level) → Prime p → lim.exponent ≤ 255 → DescendingLevels p code below
    → Well (stage_over lim p code below)
descending_well lim p code below P l d = record {
  prime = P;
  small = l;
  heads_are = refl;
  order = compare_order 8 code (rest below) (levels_lead p code (rest below) (rest_descending p code below d));
  family = highest_descending p code below d;
}

-- ## From the test

module _ (lim : Limits) (q : Parameters) (P : Prime q.p) where
  term_proper : (components : ℕ) (t : Term) → T (term_sound? lim q components t) → Proper q.p t
  term_proper components t h =
      let s = term_says lim q components t h in
      record {
        shaped = record { long = s.eight; component = between_low 1 t.1.1 components s.component };
        coefficient = range_nonzero q.p P t.0 (between_low 1 t.0 (q.p - 1) s.coefficient)
            (between_high 1 t.0 (q.p - 1) s.coefficient);
      }

  vector_descending : (components most : ℕ) (below : List Level) (v : Vector) → T (vector_sound? lim q components most below v)
      → Descending q.p (compare_over q.code below) v
  vector_descending components most below v h =
      let s = vector_says lim q components most below v h in
      record {
        proper =
            all_map (λ t. T (term_sound? lim q components t)) (Proper q.p) (term_proper components) v
            (every_all (term_sound? lim q components) v s.terms);
        strictly = s.descends;
      }

  level_descending : (components most : ℕ) (below : List Level) (f : Level) → T (every (vector_sound? lim q components most below) f)
      → All (Descending q.p (compare_over q.code below)) f
  level_descending components most below f h =
      all_map (λ v. T (vector_sound? lim q components most below v)) (Descending q.p (compare_over q.code below))
      (vector_descending components most below) f
      (every_all (vector_sound? lim q components most below) f h)

  pub levels_descending : (below : List Level) → T (levels_sound? lim q below) → DescendingLevels q.p q.code below
  levels_descending [] h = absurd h
  levels_descending (f ∷ []) h = (level_descending q.s lim.t_lines [] f (basis_says lim q f h).vectors, tt)
  levels_descending (f ∷ g ∷ below) h =
      let s = level_says lim q f g below h in
      (level_descending (length g) lim.vector (g ∷ below) f s.vectors, levels_descending (g ∷ below) s.under)

-- sound levels make a stage well
pub sound_well : (lim : Limits) (q : Parameters) (below : List Level) → T (prime? q.p) → lim.exponent ≤ 255 → T (levels_sound? lim q below)
    → Well (stage_over lim q.p q.code below)
sound_well lim q below t l s =
    let P = prime_says q.p t in
    descending_well lim q.p q.code below P l (levels_descending lim q P below s)

-- ## A sound state

pub sound_prime : (lim : Limits) (X : State) → T (sound? lim X) → Prime X.parameters.p
sound_prime lim X s = let p = X.parameters.p in prime_says p (and_right (leb p lim.prime_bound) (prime? p) (sound_says lim X s).prime)

pub sound_levels : (lim : Limits) (X : State) → T (sound? lim X) → DescendingLevels X.parameters.p X.parameters.code X.levels
sound_levels lim X s = levels_descending lim X.parameters (sound_prime lim X s) X.levels (sound_says lim X s).levels
