-- The columns of a sound state: few generators, of degrees that are carried.
use mathlib.Core.Path.{◌≡◌, sym, subst}
use mathlib.Core.List.{List, [], ◌∷◌, reverse, reverse-cons}
use Prim.Native.Nat.{ℕ, ◌≤◌}
use native.Mathlib.Omega.{arith}
use lib.Dec.{T, eqb, leb, eqb→eq, leb→le}
use lib.ListN.{length}
use Rattle.definitions.specs.Limits.{Limits}
use Rattle.definitions.specs.Lists.{◌and◌, between}
use Rattle.definitions.specs.Monomial.{Level, fits?}
use Rattle.definitions.specs.Problem.{Parameters}
use Rattle.definitions.specs.State.{State, sound?, levels_sound?}
use Rattle.definitions.specs.Degrees.{degrees_of, carried}
use Rattle.definitions.specs.Places.{most_exponent, most_degree, most_carried, most_components, most_elements, most_vectors, most_levels, all_levels}
use Rattle.definitions.specs.Betti.{column_degrees}
use Rattle.laws.proofs.Tests.{and_left, and_right, between_high}
use Rattle.laws.proofs.Members.{All, every_all, all_map, all_append}
use Rattle.laws.proofs.Sound.{sound_says, basis_says, level_says}
use Rattle.laws.proofs.Heights.{Low, levels_low, degree_most}
use Rattle.laws.proofs.RoundTrip.{length_degrees}
use Rattle.betti.specs.Notions.{paged?}

-- limits that a page has room for
pub record Paged (lim : Limits) : Type 0 where
  pub exponent : lim.exponent ≤ most_exponent
  pub components : lim.components ≤ most_components
  pub elements : lim.elements ≤ most_elements
  pub vectors : lim.vectors ≤ most_vectors
  pub levels : lim.levels ≤ most_levels

pub paged_says : (lim : Limits) → T (paged? lim) → Paged lim
paged_says lim t =
    let a = leb lim.exponent most_exponent in
    let b = leb lim.components most_components in
    let c = leb lim.elements most_elements in
    let d = leb lim.vectors most_vectors in
    let e = leb lim.levels most_levels in
    let u = and_right a (b and c and d and e) t in
    let v = and_right b (c and d and e) u in
    let w = and_right c (d and e) v in
    record {
      exponent = leb→le lim.exponent most_exponent (and_left a (b and c and d and e) t);
      components = leb→le lim.components most_components (and_left b (c and d and e) u);
      elements = leb→le lim.elements most_elements (and_left c (d and e) v);
      vectors = leb→le lim.vectors most_vectors (and_left d e w);
      levels = leb→le lim.levels most_levels (and_right d e w);
    }

-- the degrees of a column's generators
pub record Column (ds : List ℕ) : Type 0 where
  pub few : length ds ≤ most_vectors
  pub low : All (λ x. x ≤ most_carried) ds

module _ (lim : Limits) (P : Paged lim) where
  levels_few : (q : Parameters) (levels : List Level) → T (levels_sound? lim q levels) → All (λ f. length f ≤ most_vectors) levels
  levels_few q [] t = absurd t
  levels_few q (f ∷ []) t = (let s = basis_says lim q f t in let a = s.few in let b = P.elements in omega (arith, a, b), tt)
  levels_few q (f ∷ g ∷ below) t =
      let s = level_says lim q f g below t in
      (let a = s.few in let b = P.vectors in omega (arith, a, b), levels_few q (g ∷ below) s.under)

  module _ (d : List ℕ) (t : T (fits? most_degree d)) where
    degrees_low : (below : List Level) → All (All Low) below → length below ≤ most_levels → (f : Level) → All Low f
        → All (λ x. x ≤ most_carried) (degrees_of d below f)
    degrees_low below h l [] k = tt
    degrees_low below h l (v ∷ f) k = (let a = degree_most d t below h v k.0 in omega (arith, a, l), degrees_low below h l f k.1)

    carried_columns : (levels : List Level) → All (All Low) levels → All (λ f. length f ≤ most_vectors) levels → length levels ≤ all_levels
        → All Column (carried d levels)
    carried_columns [] h k l = tt
    carried_columns (f ∷ below) h k l = (
      record { few = let a = length_degrees d below f in let b = k.0 in omega (arith, a, b); low = degrees_low below h.1 (omega (arith, l)) f h.0 },
      carried_columns below h.1 k.1 (omega (arith, l)),
    )

  all_reverse : (l : List (List ℕ)) → All Column l → All Column (reverse l)
  all_reverse [] h = tt
  all_reverse (a ∷ l) h = subst (All Column) (sym (reverse-cons a l)) (all_append Column (reverse l) (a ∷ []) (all_reverse l h.1) (h.0, tt))

  pub sound_columns : (X : State) → T (sound? lim X) → All Column (column_degrees X)
  sound_columns X s =
      let S = sound_says lim X s in
      let q = X.parameters in
      let fit = and_right (eqb (length q.degrees) q.s) (fits? most_degree q.degrees) S.degrees in
      let all : length q.degrees ≡ q.s =
      eqb→eq (length q.degrees) q.s (and_left (eqb (length q.degrees) q.s) (fits? most_degree q.degrees) S.degrees) in
      let few : q.s ≤ lim.components = between_high 1 q.s lim.components (and_right (between 1 q.code 3) (between 1 q.s lim.components)
      (and_right (between 1 q.n lim.variables) (between 1 q.code 3 and between 1 q.s lim.components) S.ranges)) in (
        record {
          few = let b = P.components in omega (arith, all, few, b);
          low = all_map (λ x. T (leb x most_degree)) (λ x. x ≤ most_carried) (λ x h. let a = leb→le x most_degree h in omega (arith, a)) q.degrees
              (every_all (λ x. leb x most_degree) q.degrees fit);
        },
        all_reverse (carried q.degrees X.levels)
            (carried_columns q.degrees fit X.levels (levels_low lim P.exponent q X.levels S.levels) (levels_few q X.levels S.levels)
            (let a = S.height in let b = P.levels in omega (arith, a, b))),
      )
