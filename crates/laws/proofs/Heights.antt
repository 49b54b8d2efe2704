-- How large the degree of a vector can be in sound levels: eight exponents' for its leading monomial and for each level below it, and a component's (A5).
use mathlib.Core.List.{List, [], ◌∷◌}
use Prim.Native.Nat.{ℕ, zero, suc, ◌+◌, ◌*◌, ◌≤◌}
use native.Mathlib.Omega.{arith}
use lib.Dec.{T, leb, leb→le}
use lib.ListN.{length}
use Rattle.definitions.specs.Limits.{Limits}
use Rattle.definitions.specs.Lists.{every}
use Rattle.definitions.specs.Monomial.{Exponents, Monomial, Vector, Level, product, degree, fits?, leading, vector_of}
use Rattle.definitions.specs.Order.{image, image_by}
use Rattle.definitions.specs.Problem.{Parameters}
use Rattle.definitions.specs.State.{vector_sound?, term_sound?, levels_sound?}
use Rattle.definitions.specs.Degrees.{component_degree, image_over, degree_of}
use Rattle.definitions.specs.Places.{exponents_length, most_exponent, most_degree}
use Rattle.laws.proofs.Tests.{and_left, and_right}
use Rattle.laws.proofs.Members.{All, every_all, all_map, all_at}
use Rattle.laws.proofs.Sound.{basis_says, level_says, vector_says, term_says}

-- a monomial's
abbrev pub eight_most : ℕ
eight_most = exponents_length * most_exponent

-- ## Degrees

degree_fits : (most : ℕ) → most ≤ most_exponent → (e : Exponents) → T (fits? most e) → degree e ≤ length e * most_exponent
degree_fits most h [] t = omega arith
degree_fits most h (x ∷ e) t =
    let a : x ≤ most = leb→le x most (and_left (leb x most) (fits? most e) t) in
    let b = degree_fits most h e (and_right (leb x most) (fits? most e) t) in
    omega (arith, a, b, h)

degree_product_most : (a b : Exponents) → degree (product a b) ≤ degree a + degree b
degree_product_most [] b = omega arith
degree_product_most (x ∷ a) [] = omega arith
degree_product_most (x ∷ a) (y ∷ b) = let h = degree_product_most a b in omega (arith, h)

component_most : (d : List ℕ) → T (fits? most_degree d) → (i : ℕ) → component_degree d i ≤ most_degree
component_most d t zero = omega arith
component_most d t (suc i) =
    all_at (λ x. x ≤ most_degree) 0 (omega arith) d i
    (all_map (λ x. T (leb x most_degree)) (λ x. x ≤ most_degree) (λ x. leb→le x most_degree) d (every_all (λ x. leb x most_degree) d t))

-- a leading monomial of eight exponents
abbrev pub Low : Vector → Type 0
Low v = degree (leading v).0 ≤ eight_most

image_most : (e : Exponents) (v : Vector) → Low v → degree (image_by e v).0 ≤ degree e + eight_most
image_most e [] h = omega arith
image_most e (t ∷ v) h = let k = degree_product_most e t.1.0 in omega (arith, h, k)

pub low_of : (f : Level) → All Low f → (i : ℕ) → Low (vector_of f i)
low_of f h zero = omega arith
low_of f h (suc i) = all_at Low [] (omega arith) f i h

over_most : (below : List Level) → All (All Low) below → (m : Monomial) → degree (image_over below m).0 ≤ degree m.0 + length below * eight_most
over_most [] h m = omega arith
over_most (f ∷ below) h m =
    let a = over_most below h.1 (image f m) in
    let b = image_most m.0 (vector_of f m.1) (low_of f h.0 m.1) in
    omega (arith, a, b)

-- ## Sound states

module _ (lim : Limits) (small : lim.exponent ≤ most_exponent) (q : Parameters) where
  vector_low : (c most : ℕ) (below : List Level) (v : Vector) → T (vector_sound? lim q c most below v) → Low v
  vector_low c most below [] t = omega arith
  vector_low c most below (u ∷ v) t =
      let s = term_says lim q c u (and_left (term_sound? lim q c u) (every (term_sound? lim q c) v) (vector_says lim q c most below (u ∷ v) t).terms) in
      let a = degree_fits lim.exponent small u.1.0 s.fits in
      let b = s.eight in
      omega (arith, a, b)

  pub level_low : (c most : ℕ) (below : List Level) (f : Level) → T (every (vector_sound? lim q c most below) f) → All Low f
  level_low c most below f t =
      all_map (λ v. T (vector_sound? lim q c most below v)) Low (vector_low c most below) f (every_all (vector_sound? lim q c most below) f t)

  pub levels_low : (levels : List Level) → T (levels_sound? lim q levels) → All (All Low) levels
  levels_low [] t = absurd t
  levels_low (f ∷ []) t = (level_low q.s lim.t_lines [] f (basis_says lim q f t).vectors, tt)
  levels_low (f ∷ g ∷ below) t =
      let s = level_says lim q f g below t in
      (level_low (length g) lim.vector (g ∷ below) f s.vectors, levels_low (g ∷ below) s.under)

-- the degree of a vector over levels with such leading monomials
pub degree_most : (d : List ℕ) → T (fits? most_degree d) → (below : List Level) → All (All Low) below → (v : Vector) → Low v
    → degree_of d below v ≤ suc (length below) * eight_most + most_degree
degree_most d t below h v l =
    let a = over_most below h (leading v) in
    let b = component_most d t (image_over below (leading v)).1 in
    omega (arith, a, b, l)
