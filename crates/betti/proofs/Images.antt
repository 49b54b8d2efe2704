-- Of a file's levels no image has an exponent above the largest: the image of a frame term is the least common multiple of two leading monomials' images.
use mathlib.Core.Path.{◌≡◌, refl, sym, ap, ◌∙◌, subst}
use mathlib.Core.Bool.{Bool, true, false, not}
use mathlib.Core.List.{List, [], ◌∷◌}
use Prim.Native.Nat.{ℕ, zero, suc, ◌+◌, ◌-◌, ◌*◌, ◌<◌, ◌≤◌, max}
use native.Mathlib.Omega.{arith}
use lib.Dec.{T, eqb, leb, leb→le, le→leb, eqb→eq}
use lib.ListN.{length, get_or}
use Rattle.definitions.specs.Limits.{Limits}
use Rattle.definitions.specs.Lists.{every, any, those}
use Rattle.definitions.specs.Monomial.{Exponents, Monomial, Vector, Level, product, quotient, lcm, fits?, degree, leading, leading_monomials, vector_of}
use Rattle.definitions.specs.Order.{Comparison, greater, equal, smaller, exponents_by, image, image_by}
use Rattle.definitions.specs.Frame.{into_ascending, generators, properly_divides?, minimal, with_component, frame_of, frame_from, frame}
use Rattle.definitions.specs.Problem.{Parameters}
use Rattle.definitions.specs.State.{levels_sound?, vector_sound?, term_sound?}
use Rattle.definitions.specs.Degrees.{component_degree, image_over, degree_of}
use Rattle.definitions.specs.Places.{exponents_length, most_exponent, most_degree}
use Rattle.demands.specs.Exact.{Exact}
use Rattle.laws.proofs.Tests.{and_left, and_right, and_both}
use Rattle.laws.proofs.Members.{All, every_all, all_map, all_append, all_at}
use Rattle.laws.proofs.Sound.{vector_says, term_says, basis_says, level_says}
use Rattle.laws.proofs.Heights.{eight_most}
use Rattle.lengths.proofs.Rising.{level_leads}

-- ## Least common multiples

abbrev pub low? : Exponents → Bool
low? e = fits? most_exponent e

product_lcm : (a b w : Exponents) → product (lcm a b) w ≡ lcm (product a w) (product b w)
product_lcm [] b w = refl
product_lcm (x ∷ a) [] [] = refl
product_lcm (x ∷ a) [] (z ∷ w) = refl
product_lcm (x ∷ a) (y ∷ b) [] = refl
product_lcm (x ∷ a) (y ∷ b) (z ∷ w) =
    let e : max x y + z ≡ max (x + z) (y + z) = omega arith in
    λ i. e i ∷ product_lcm a b w i

product_quotient_lcm : (a m : Exponents) → product (quotient (lcm a m) m) m ≡ lcm a m
product_quotient_lcm [] m = refl
product_quotient_lcm (x ∷ a) [] = refl
product_quotient_lcm (x ∷ a) (y ∷ m) =
    let e : max x y - y + y ≡ max x y = omega arith in
    λ i. e i ∷ product_quotient_lcm a m i

lcm_low : (a b : Exponents) → T (low? a) → T (low? b) → T (low? (lcm a b))
lcm_low [] b s t = tt
lcm_low (x ∷ a) [] s t = tt
lcm_low (x ∷ a) (y ∷ b) s t =
    let h = leb→le x most_exponent (and_left (leb x most_exponent) (low? a) s) in
    let k = leb→le y most_exponent (and_left (leb y most_exponent) (low? b) t) in
    and_both (leb (max x y) most_exponent) (low? (lcm a b)) (le→leb (max x y) most_exponent (omega (arith, h, k)))
    (lcm_low a b (and_right (leb x most_exponent) (low? a) s) (and_right (leb y most_exponent) (low? b) t))

-- the image of a least common multiple is that of the images
over_lcm : (below : List Level) (a b : Exponents) (c : ℕ)
    → (image_over below (lcm a b, c)).0 ≡ lcm (image_over below (a, c)).0 (image_over below (b, c)).0
over_lcm [] a b c = refl
over_lcm (f ∷ below) a b c = go (vector_of f c) (over_lcm below)
  where
    go : (v : Vector)
        → ((a b : Exponents) (c : ℕ) → (image_over below (lcm a b, c)).0 ≡ lcm (image_over below (a, c)).0 (image_over below (b, c)).0)
        → (image_over below (image_by (lcm a b) v)).0 ≡ lcm (image_over below (image_by a v)).0 (image_over below (image_by b v)).0
    go [] ih = ih a b 0
    go (t ∷ v) ih =
        ap (λ e. (image_over below (e, t.1.1)).0) (product_lcm a b t.1.0) ∙ ih (product a t.1.0) (product b t.1.0) t.1.1

-- ## Frame terms

module _ (below : List Level) where
  abbrev pub Small : Monomial → Type 0
  Small m = T (low? (image_over below m).0)

  -- of m = LM f_i: what a generator g of its ideal gives
  abbrev Good : Monomial → Exponents → Type 0
  Good m g = Small (product g m.0, m.1)

  into_all : (m : Monomial) (code : ℕ) (g : Exponents) (gs : List Exponents) → Good m g → All (Good m) gs → All (Good m) (into_ascending code g gs)
  into_all m code g [] h k = (h, tt)
  into_all m code g (x ∷ gs) h k = go (exponents_by code g x) (into_all m code g gs h k.1)
    where
      go : (c : Comparison) → All (Good m) (into_ascending code g gs)
          → All (Good m) (elim c [ smaller ↦ g ∷ x ∷ gs | equal ↦ x ∷ gs | greater ↦ x ∷ into_ascending code g gs ])
      go smaller r = (h, k)
      go equal r = k
      go greater r = (k.0, r)

  colon_good : (l m : Monomial) → Small l → Small m → l.1 ≡ m.1 → Good m (quotient (lcm l.0 m.0) m.0)
  colon_good l m s t e =
      subst (λ x. T (low? (image_over below (x, m.1)).0)) (sym (product_quotient_lcm l.0 m.0))
      (subst (λ x. T (low? x)) (sym (over_lcm below l.0 m.0 m.1))
      (lcm_low (image_over below (l.0, m.1)).0 (image_over below m).0 (subst (λ c. T (low? (image_over below (l.0, c)).0)) e s) t))

  generators_all : (code : ℕ) (earlier : List Monomial) (m : Monomial) → All Small earlier → Small m → All (Good m) (generators code earlier m)
  generators_all code [] m h s = tt
  generators_all code (l ∷ earlier) m h s = go (eqb l.1 m.1) (eqb→eq l.1 m.1) (generators_all code earlier m h.1 s)
    where
      go : (b : Bool) → (T b → l.1 ≡ m.1) → All (Good m) (generators code earlier m)
          → All (Good m) (elim b [
            | true ↦ into_ascending code (quotient (lcm l.0 m.0) m.0) (generators code earlier m)
            | false ↦ generators code earlier m
          ])
      go true e r = into_all m code (quotient (lcm l.0 m.0) m.0) (generators code earlier m) (colon_good l m h.0 s (e tt)) r
      go false e r = r

  those_all : {A : Type 0} (P : A → Type 0) (f : A → Bool) (l : List A) → All P l → All P (those f l)
  those_all P f [] h = tt
  those_all P f (a ∷ l) h = go (f a) (those_all P f l h.1)
    where
      go : (b : Bool) → All P (those f l) → All P (elim b [ true ↦ a ∷ those f l | false ↦ those f l ])
      go true r = (h.0, r)
      go false r = r

  module _ (f : Level) where
    abbrev Above : Monomial → Type 0
    Above t = T (low? (image_over (f ∷ below) t).0)

    component_all : (i : ℕ) (v : Vector) → vector_of f i ≡ v → 1 ≤ length v → (gs : List Exponents) → All (Good (leading v)) gs
        → All Above (with_component i gs)
    component_all i v e n [] h = tt
    component_all i [] e n (g ∷ gs) h = absurd (omega arith)
    component_all i (t ∷ v) e n (g ∷ gs) h =
        (subst (λ w. T (low? (image_over below (image_by g w)).0)) (sym e) h.0, component_all i (t ∷ v) e n gs h.1)

    from_all : (code i : ℕ) (earlier : List Monomial) (rest : Level) → All Small earlier → All Small (leading_monomials rest) → All (λ v. 1 ≤ length v) rest
        → ((j : ℕ) → j < length rest → vector_of f (i + j) ≡ get_or rest j []) → All Above (frame_from code i earlier (leading_monomials rest))
    from_all code i earlier [] h k n e = tt
    from_all code i earlier (v ∷ rest) h k n e =
        let z : i + 0 ≡ i = omega arith in
        let g = generators code earlier (leading v) in
        all_append Above (frame_of code i earlier (leading v)) (frame_from code (suc i) (leading v ∷ earlier) (leading_monomials rest))
        (component_all i v (sym (ap (vector_of f) z) ∙ e 0 (omega arith)) n.0 (minimal g)
        (those_all (Good (leading v)) (λ x. not (any (λ y. properly_divides? y x) g)) g (generators_all code earlier (leading v) h k.0)))
        (from_all code (suc i) (leading v ∷ earlier) rest (k.0, h) k.1 n.1
        (λ j l. let y : suc i + j ≡ i + suc j = omega arith in ap (vector_of f) y ∙ e (suc j) (omega arith)))

    frame_small : (code : ℕ) → All Small (leading_monomials f) → All (λ v. 1 ≤ length v) f → All Above (frame code (leading_monomials f))
    frame_small code k n = from_all code 1 [] f tt k n (λ j l. let z : 1 + j ≡ suc j = omega arith in ap (vector_of f) z)

-- ## The levels of a file

module _ (lim : Limits) (small : lim.exponent ≤ most_exponent) (q : Parameters) where
  fits_low : (e : Exponents) → T (fits? lim.exponent e) → T (low? e)
  fits_low [] t = tt
  fits_low (x ∷ e) t =
      let h = leb→le x lim.exponent (and_left (leb x lim.exponent) (fits? lim.exponent e) t) in
      and_both (leb x most_exponent) (low? e) (le→leb x most_exponent (omega (arith, h, small)))
      (fits_low e (and_right (leb x lim.exponent) (fits? lim.exponent e) t))

  vectors_filled : (c most : ℕ) (below : List Level) (f : Level) → T (every (vector_sound? lim q c most below) f) → All (λ v. 1 ≤ length v) f
  vectors_filled c most below f t =
      all_map (λ v. T (vector_sound? lim q c most below v)) (λ v. 1 ≤ length v) (λ v s. (vector_says lim q c most below v s).filled) f
      (every_all (vector_sound? lim q c most below) f t)

  elements_small : (c most : ℕ) (f : Level) → T (every (vector_sound? lim q c most []) f) → All (Small []) (leading_monomials f)
  elements_small c most [] t = tt
  elements_small c most (v ∷ f) t = (
    one v (and_left (vector_sound? lim q c most [] v) (every (vector_sound? lim q c most []) f) t),
    elements_small c most f (and_right (vector_sound? lim q c most [] v) (every (vector_sound? lim q c most []) f) t),
  )
    where
      one : (v : Vector) → T (vector_sound? lim q c most [] v) → Small [] (leading v)
      one [] s = tt
      one (u ∷ v) s =
          fits_low u.1.0 (term_says lim q c u (and_left (term_sound? lim q c u) (every (term_sound? lim q c) v)
          (vector_says lim q c most [] (u ∷ v) s).terms)).fits

  filled_at : (g : Level) (below : List Level) → T (levels_sound? lim q (g ∷ below)) → All (λ v. 1 ≤ length v) g
  filled_at g [] t = vectors_filled q.s lim.t_lines [] g (basis_says lim q g t).vectors
  filled_at g (b ∷ below) t = vectors_filled (length b) lim.vector (b ∷ below) g (level_says lim q g b below t).vectors

  -- each level's leading monomials, over the levels below it
  abbrev pub AllSmall : List Level → Type 0
  AllSmall [] = Unit {0}
  AllSmall (f ∷ below) = All (Small below) (leading_monomials f) × AllSmall below

  pub levels_small : (ls : List Level) → T (levels_sound? lim q ls) → Exact lim q ls → AllSmall ls
  levels_small [] t e = tt
  levels_small (f ∷ []) t e = (elements_small q.s lim.t_lines f (basis_says lim q f t).vectors, tt)
  levels_small (f ∷ g ∷ below) t e =
      let s = level_says lim q f g below t in
      let r = levels_small (g ∷ below) s.under e.1 in (
        subst (All (Small (g ∷ below))) (sym (level_leads q (lim.numbering q.code) (g ∷ below) f e.0))
            (frame_small below g (lim.numbering q.code) r.0 (filled_at g below s.under)),
        r,
      )

-- ## Degrees

degree_low : (e : Exponents) → T (low? e) → degree e ≤ length e * most_exponent
degree_low [] t = omega arith
degree_low (x ∷ e) t =
    let a = leb→le x most_exponent (and_left (leb x most_exponent) (low? e) t) in
    let b = degree_low e (and_right (leb x most_exponent) (low? e) t) in
    omega (arith, a, b)

product_short : (a b : Exponents) → length (product a b) ≤ length a
product_short [] b = omega arith
product_short (x ∷ a) [] = omega arith
product_short (x ∷ a) (y ∷ b) = let h = product_short a b in omega (arith, h)

image_short : (e : Exponents) (v : Vector) → length (image_by e v).0 ≤ length e
image_short e [] = omega arith
image_short e (t ∷ v) = product_short e t.1.0

over_short : (below : List Level) (m : Monomial) → length (image_over below m).0 ≤ length m.0
over_short [] m = omega arith
over_short (f ∷ below) m =
    let a = over_short below (image f m) in let b = image_short m.0 (vector_of f m.1) in omega (arith, a, b)

component_low : (d : List ℕ) → T (fits? most_degree d) → (i : ℕ) → component_degree d i ≤ most_degree
component_low d t zero = omega arith
component_low d t (suc i) =
    all_at (λ x. x ≤ most_degree) 0 (omega arith) d i
    (all_map (λ x. T (leb x most_degree)) (λ x. x ≤ most_degree) (λ x. leb→le x most_degree) d (every_all (λ x. leb x most_degree) d t))

-- the largest degree of a file's vector
abbrev pub most_listed : ℕ
most_listed = eight_most + most_degree

pub degree_listed : (d : List ℕ) → T (fits? most_degree d) → (below : List Level) (v : Vector) → length (leading v).0 ≤ exponents_length
    → Small below (leading v) → degree_of d below v ≤ most_listed
degree_listed d t below v l s =
    let m = image_over below (leading v) in
    let a = degree_low m.0 s in
    let b = over_short below (leading v) in
    let c = component_low d t m.1 in
    let e : length m.0 ≤ exponents_length = omega (arith, b, l) in
    omega (arith, a, c, e)
