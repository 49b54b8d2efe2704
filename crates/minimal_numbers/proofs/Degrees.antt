-- Every level reckoned from elements with terms of one degree has vectors with terms of one degree: the lifting of a monomial has its degree.
use mathlib.Core.Path.{◌≡◌, refl, sym, ap, ◌∙◌, subst}
use mathlib.Core.Option.{Option, some}
use mathlib.Core.List.{List, [], ◌∷◌}
use Prim.Native.Nat.{ℕ, zero, suc, ◌+◌}
use native.Mathlib.Omega.{arith}
use lib.Dec.{T, eqb, eqb→eq}
use lib.ListN.{length}
use Rattle.definitions.specs.Limits.{Limits}
use Rattle.definitions.specs.Lists.{◌then◌, rest}
use Rattle.definitions.specs.Field.{minus}
use Rattle.definitions.specs.Monomial.{Exponents, Monomial, Term, Vector, Level, unit, product, quotient, degree, divides?, divides_monomial?, leading}
use Rattle.definitions.specs.Monomial.{vector_of, leading_monomials}
use Rattle.definitions.specs.Order.{compare_over, image_by, image}
use Rattle.definitions.specs.Degrees.{degree_by, image_over}
use Rattle.definitions.specs.Frame.{frame}
use Rattle.definitions.specs.Reducer.{Answer, reducer, lower_order, heads, answer}
use Rattle.definitions.specs.Run.{multiple}
use Rattle.definitions.specs.Reckoning.{scaled, liftings, lifted_by, lifted_to, reckoned_vector, each, reckoned_level, reckoned_levels}
use Rattle.laws.proofs.Tests.{and_left, and_right}
use Rattle.laws.proofs.Members.{All, all_map, all_append, all_at}
use Rattle.laws.proofs.Products.{length_product, length_quotient, degree_product, product_quotient}
use Rattle.laws.proofs.Induced.{Has, shifted, Shaped, Led, image_has, image_shifted}
use Rattle.laws.proofs.Reducers.{Reducing, answer_reducing}
use Rattle.laws.proofs.Frames.{frame_shaped, leading_monomials_eight}
use Rattle.laws.proofs.Sums.{inserted_all}
use Rattle.demands.proofs.Results.{Holds, holds, nothing, holds_then}

-- ## Eight exponents

abbrev pub Eight : Vector → Type 0
Eight v = All (λ t. Has 8 t.1) v

abbrev pub Eights : List Level → Type 0
Eights [] = Unit {0}
Eights (f ∷ below) = All Eight f × Eights below

eight_led : (v : Vector) → Eight v → Led 8 v
eight_led [] h = tt
eight_led (t ∷ v) h = h.0

pub eights_led : (f : Level) → All Eight f → All (Led 8) f
eights_led f h = all_map Eight (Led 8) eight_led f h

pub eight_of : (f : Level) → All Eight f → (i : ℕ) → Eight (vector_of f i)
eight_of f h zero = tt
eight_of f h (suc i) = all_at Eight [] tt f i h

pub leading_has : (v : Vector) → Eight v → Has 8 (leading v)
leading_has [] h = refl
leading_has (t ∷ v) h = h.0

-- times the unit
pub times_unit : (e : Exponents) → length e ≡ 8 → product e unit ≡ e
times_unit e h = go 8 e h
  where
    zeros : ℕ → Exponents
    zeros zero = []
    zeros (suc n) = 0 ∷ zeros n

    plus_zero : (x : ℕ) → x + 0 ≡ x
    plus_zero x = omega arith

    go : (n : ℕ) (e : Exponents) → length e ≡ n → product e (zeros n) ≡ e
    go zero [] h = refl
    go zero (x ∷ e) h = absurd (omega arith)
    go (suc n) [] h = absurd (omega arith)
    go (suc n) (x ∷ e) h = λ i. plus_zero x i ∷ go n e (omega arith) i

-- the leading monomial of m·f_i, that of an empty vector too
pub image_leads : (f : Level) (m : Monomial) → Has 8 m → image f m ≡ shifted m.0 (leading (vector_of f m.1))
image_leads f m h = go (vector_of f m.1)
  where
    go : (v : Vector) → image_by m.0 v ≡ shifted m.0 (leading v)
    go [] = λ i. (sym (times_unit m.0 h) i, 0)
    go (t ∷ v) = refl

-- ## The degree of a product

module _ (ds : List ℕ) where
  -- the degree of a monomial over levels, the highest first
  abbrev pub degree_over : List Level → Monomial → ℕ
  degree_over ls m = degree_by ds (image_over ls m)

  pub degree_shifted : (ls : List Level) → Eights ls → (q : Exponents) (m : Monomial) → length q ≡ 8 → Has 8 m
      → degree_over ls (shifted q m) ≡ degree q + degree_over ls m
  degree_shifted [] E q m h k = let e : degree (product q m.0) ≡ degree q + degree m.0 = degree_product q m.0 (k ∙ sym h) in omega arith
  degree_shifted (f ∷ below) E q m h k =
      ap (degree_over below) (image_shifted q f m) ∙ degree_shifted below E.1 q (image f m) h (image_has 8 f (eights_led f E.0) m k)

  -- terms of one degree
  abbrev pub One : List Level → ℕ → Vector → Type 0
  One ls d v = All (λ t. Has 8 t.1 × (degree_over ls t.1 ≡ d)) v

  abbrev pub OneDegree : List Level → Vector → Type 0
  OneDegree ls v = All (λ t. degree_over ls t.1 ≡ degree_over ls (leading v)) v

  abbrev pub HomogeneousLevels : List Level → Type 0
  HomogeneousLevels [] = Unit {0}
  HomogeneousLevels (f ∷ below) = All (OneDegree below) f × HomogeneousLevels below

  one_degree : (ls : List Level) (d : ℕ) (v : Vector) → One ls d v → OneDegree ls v
  one_degree ls d [] h = tt
  one_degree ls d (t ∷ v) h =
      all_map (λ u. Has 8 u.1 × (degree_over ls u.1 ≡ d)) (λ u. degree_over ls u.1 ≡ degree_over ls t.1)
      (λ u k. k.1 ∙ sym h.0.1) (t ∷ v) h

  one_eight : (ls : List Level) (d : ℕ) (v : Vector) → One ls d v → Eight v
  one_eight ls d v h = all_map (λ u. Has 8 u.1 × (degree_over ls u.1 ≡ d)) (λ u. Has 8 u.1) (λ u k. k.0) v h

  -- ## Liftings

  module _ (p : ℕ) (g : Level) (below : List Level) (E : Eights (g ∷ below)) (H : All (OneDegree below) g) where
    homogeneous_of : (i : ℕ) → OneDegree below (vector_of g i)
    homogeneous_of zero = tt
    homogeneous_of (suc i) = all_at (OneDegree below) [] tt g i H

    -- the terms of q·g_i
    multiple_degree : (q : Exponents) → length q ≡ 8 → (i : ℕ) (t : Term) → Has 8 t.1
        → degree_over below t.1 ≡ degree_over below (leading (vector_of g i))
        → degree_over below (shifted q t.1) ≡ degree_over below (shifted q (leading (vector_of g i)))
    multiple_degree q h i t k e =
        degree_shifted below E.1 q t.1 h k ∙ ap (λ z. degree q + z) e
        ∙ sym (degree_shifted below E.1 q (leading (vector_of g i)) h (leading_has (vector_of g i) (eight_of g E.0 i)))

    scaled_one : (d c : ℕ) (v : Vector) → One (g ∷ below) d v → One (g ∷ below) d (scaled p c v)
    scaled_one d c [] h = tt
    scaled_one d c (t ∷ v) h = (h.0, scaled_one d c v h.1)

    -- the liftings of terms with degree d
    liftings_one : (d : ℕ) (lifted : Monomial → Option Vector) → ((m : Monomial) → Has 8 m → degree_over below m ≡ d → Holds (One (g ∷ below) d) (lifted m))
        → (c : ℕ) (q : Exponents) (v : Vector) → All (λ t. Has 8 (shifted q t.1) × (degree_over below (shifted q t.1) ≡ d)) v
        → Holds (One (g ∷ below) d) (liftings p lifted c q v)
    liftings_one d lifted ih c q [] h = holds tt
    liftings_one d lifted ih c q (t ∷ v) h =
        holds_then (ih (shifted q t.1) h.0.0 h.0.1) (λ w k.
        holds_then (liftings_one d lifted ih c q v h.1) (λ u l.
        holds (all_append (λ t. Has 8 t.1 × (degree_over (g ∷ below) t.1 ≡ d)) (scaled p (multiple p c q t).0 w)
        u (scaled_one d (multiple p c q t).0 w k) l)))

    -- all terms of q·g_i have the degree of its leading one
    multiples_one : (q : Exponents) → length q ≡ 8 → (i : ℕ) (v : Vector) → Eight v
        → All (λ t. degree_over below t.1 ≡ degree_over below (leading (vector_of g i))) v
        → All (λ t. Has 8 (shifted q t.1) × (degree_over below (shifted q t.1) ≡ degree_over below (shifted q (leading (vector_of g i))))) v
    multiples_one q h i [] k e = tt
    multiples_one q h i (t ∷ v) k e = ((length_product 8 q t.1.0 h k.0, multiple_degree q h i t k.0 e.0), multiples_one q h i v k.1 e.1)

    all_rest : (P : Term → Type 0) (v : Vector) → All P v → All P (rest v)
    all_rest P [] h = tt
    all_rest P (t ∷ v) h = h.1

    quotient_leads : (l m : Monomial) → Has 8 l → Has 8 m → T (divides_monomial? l m) → shifted (quotient m.0 l.0) l ≡ m
    quotient_leads l m h k d =
        let c : l.1 ≡ m.1 = eqb→eq l.1 m.1 (and_left (eqb l.1 m.1) (divides? l.0 m.0) d) in
        λ i. (product_quotient m.0 l.0 (h ∙ sym k) (and_right (eqb l.1 m.1) (divides? l.0 m.0) d) i, c i)

    -- the lifting of a monomial has its degree
    pub lifted_one : (n : ℕ) (m : Monomial) → Has 8 m → Holds (One (g ∷ below) (degree_over below m)) (lifted_to n p g m)
    lifted_one zero m h = nothing
    lifted_one (suc n) m h = go (answer p (heads p g) (1, m)) refl (λ m' k. lifted_one n m' k)
      where
        go : (a : Answer) → answer p (heads p g) (1, m) ≡ a → ((m' : Monomial) → Has 8 m' → Holds (One (g ∷ below) (degree_over below m')) (lifted_to n p g m'))
            → Holds (One (g ∷ below) (degree_over below m)) (lifted_by a p g (λ m'. lifted_to n p g m'))
        go lower_order e ih = holds tt
        go (reducer j c q) e ih =
            holds_then (liftings_one (degree_over below m) (λ m'. lifted_to n p g m')
            (λ m' k d. subst (λ z. Holds (One (g ∷ below) z) (lifted_to n p g m')) d (ih m' k)) (minus p c) q (rest (vector_of g j))
            (subst (λ z. All (λ t. Has 8 (shifted q t.1) × (degree_over below (shifted q t.1) ≡ degree_over below z)) (rest (vector_of g j))) leads
            (multiples_one q long j (rest (vector_of g j)) (all_rest (λ t. Has 8 t.1) (vector_of g j) (eight_of g E.0 j))
            (all_rest (λ t. degree_over below t.1 ≡ degree_over below (leading (vector_of g j))) (vector_of g j) (homogeneous_of j)))))
            (λ v k. holds ((long, ap (degree_over below) (image_leads g (q, j) long ∙ leads)), k))
          where
            r : Reducing p (vector_of g j) (1, m) c q
            r = answer_reducing p g (1, m) j c q e

            l : Has 8 (leading (vector_of g j))
            l = leading_has (vector_of g j) (eight_of g E.0 j)

            long : length q ≡ 8
            long = ap length r.quotient_is ∙ length_quotient 8 m.0 (leading (vector_of g j)).0 h l

            leads : shifted q (leading (vector_of g j)) ≡ m
            leads = ap (λ z. shifted z (leading (vector_of g j))) r.quotient_is ∙ quotient_leads (leading (vector_of g j)) m l h r.divides

    -- the vector of a frame term
    pub vector_one : (n code : ℕ) (m : Monomial) → Has 8 m → Holds (One (g ∷ below) (degree_over (g ∷ below) m)) (reckoned_vector n p code (g ∷ below) m)
    vector_one n code m h =
        holds_then (liftings_one d (lifted_to n p g) (λ m' k e. subst (λ z. Holds (One (g ∷ below) z) (lifted_to n p g m')) e (lifted_one n m' k))
        1 m.0 (vector_of g m.1)
        (subst (λ z. All (λ t. Has 8 (shifted m.0 t.1) × (degree_over below (shifted m.0 t.1) ≡ degree_over below z)) (vector_of g m.1))
        (sym (image_leads g m h))
        (multiples_one m.0 h m.1 (vector_of g m.1) (eight_of g E.0 m.1) (homogeneous_of m.1))))
        (λ v k. holds (inserted_all p (λ t. Has 8 t.1 × (degree_over (g ∷ below) t.1 ≡ d)) (λ a b x y z. y)
        (compare_over code (g ∷ below)) [] ((1, m) ∷ v) tt ((h, refl), k)))
      where
        d : ℕ
        d = degree_over (g ∷ below) m

    each_one : (f : Monomial → Option Vector) → ((m : Monomial) → Has 8 m → Holds (One (g ∷ below) (degree_over (g ∷ below) m)) (f m))
        → (ms : List Monomial) → All (Shaped 8) ms → Holds (λ s. All Eight s × All (OneDegree (g ∷ below)) s) (each f ms)
    each_one f h [] k = holds (tt, tt)
    each_one f h (m ∷ ms) k =
        holds_then (h m k.0.long) (λ v a.
        holds_then (each_one f h ms k.1) (λ vs b.
        holds ((one_eight (g ∷ below) (degree_over (g ∷ below) m) v a, b.0), (one_degree (g ∷ below) (degree_over (g ∷ below) m) v a, b.1))))

    pub level_one : (lim : Limits) (n code : ℕ) → Holds (λ s. All Eight s × All (OneDegree (g ∷ below)) s) (reckoned_level lim n p code (g ∷ below))
    level_one lim n code =
        each_one (reckoned_vector n p code (g ∷ below)) (vector_one n code) (frame (lim.numbering code) (leading_monomials g))
        (frame_shaped 8 (lim.numbering code) (leading_monomials g) (leading_monomials_eight g (eights_led g E.0)))

  -- ## All levels

  pub levels_one : (lim : Limits) (n p code : ℕ) (basis : Level) → All Eight basis → All (OneDegree []) basis → (h : ℕ)
      → Holds (λ ls. Eights ls × HomogeneousLevels ls) (reckoned_levels lim n p code basis h)
  levels_one lim n p code basis E H zero = holds {a = basis ∷ []} ((E, tt), (H, tt))
  levels_one lim n p code basis E H (suc h) = holds_then (levels_one lim n p code basis E H h) (λ below k. go below k)
    where
      go : (below : List Level) → Eights below × HomogeneousLevels below
          → Holds (λ ls. Eights ls × HomogeneousLevels ls) (reckoned_level lim n p code below then λ f. some (f ∷ below))
      go [] k = holds {a = [] ∷ []} ((tt, tt), (tt, tt))
      go (g ∷ below) k = holds_then (level_one p g below k.0 k.1.0 lim n code) (λ f a. holds {a = f ∷ g ∷ below} ((a.0, k.0), (a.1, k.1)))
