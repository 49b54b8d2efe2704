-- A vector of a sound state has each monomial once: its constants are its coefficients at 1·e_j, equal monomials collected.
use mathlib.Core.Path.{◌≡◌, refl, sym, ap, ◌∙◌, subst}
use mathlib.Core.Bool.{Bool, true, false}
use mathlib.Core.List.{List, [], ◌∷◌}
use Prim.Native.Nat.{ℕ, zero, suc, ◌+◌, ◌-◌, ◌%◌, ◌<◌}
use native.Mathlib.Nat.{mod-eq_of_lt}
use native.Mathlib.Omega.{arith}
use lib.Dec.{T}
use lib.ListN.{length}
use Rattle.definitions.specs.Limits.{Limits}
use Rattle.definitions.specs.Lists.{every}
use Rattle.definitions.specs.Field.{plus}
use Rattle.definitions.specs.Monomial.{Monomial, Term, Vector, Level, unit, same_monomial?, vector_of}
use Rattle.definitions.specs.Order.{Comparison, greater, compare_over}
use Rattle.definitions.specs.Vectors.{strictly_descending?}
use Rattle.definitions.specs.Problem.{Parameters}
use Rattle.definitions.specs.State.{term_sound?, vector_sound?, levels_sound?}
use Rattle.definitions.specs.Minimal.{constant}
use Rattle.laws.proofs.Tests.{between_low, between_high}
use Rattle.laws.proofs.Members.{All, all_map, all_at, every_all}
use Rattle.laws.proofs.Products.{same_monomial_says}
use Rattle.laws.proofs.Comparisons.{Orders, greater≢smaller, order_turned}
use Rattle.laws.proofs.Induced.{Has, Leads, compare_order}
use Rattle.laws.proofs.Sums.{Above, descending_tail, descending_above}
use Rattle.laws.proofs.Sound.{term_says, vector_says, basis_says, level_says}
use Rattle.laws.proofs.Degrees.{headed_leads, sound_headed}
use Rattle.demands.specs.Notions.{coefficient}
use Rattle.minimal_numbers.proofs.Columns.{Each}

-- ## A descending vector

module _ (p : ℕ) (order : Monomial → Monomial → Comparison) (O : Orders (Has 8) order) where
  -- no monomial is greater than itself
  not_above : (m : Monomial) → Has 8 m → order m m ≡ greater → ⊥
  not_above m h e = greater≢smaller (sym e ∙ order_turned (Has 8) order O m m h h greater e)

  absent : (m : Monomial) → Has 8 m → (v : Vector) → Above (Has 8) order O m v → coefficient p m v ≡ 0
  absent m h [] a = refl
  absent m h (u ∷ v) a = go (same_monomial? u.1 m) (same_monomial_says u.1 m) (absent m h v a.1)
    where
      go : (b : Bool) → (T b → u.1 ≡ m) → coefficient p m v ≡ 0
          → ◌≡◌ {A = ℕ} (elim b [ true ↦ plus p u.0 (coefficient p m v) | false ↦ coefficient p m v ]) 0
      go true e i = absurd (not_above m h (subst (λ w. order m w ≡ greater) (e tt) a.0))
      go false e i = i

  -- eight exponents, and a reduced coefficient
  pub record Plain (t : Term) : Type 0 where
    pub eight : Has 8 t.1
    pub reduced : t.0 < p

  constant_is : (v : Vector) → All Plain v → T (strictly_descending? order v) → (j : ℕ) → constant v j ≡ coefficient p (unit, j) v
  constant_is [] h d j = refl
  constant_is (t ∷ v) h d j =
      go (same_monomial? t.1 (unit, j)) (same_monomial_says t.1 (unit, j)) (constant_is v h.1 (descending_tail (Has 8) order O t v d) j)
    where
      above : Above (Has 8) order O t.1 v
      above = descending_above (Has 8) order O t v h.0.eight (all_map Plain (λ u. Has 8 u.1) (λ u k. k.eight) v h.1) d

      alone : t.1 ≡ (unit, j) → plus p t.0 (coefficient p (unit, j) v) ≡ t.0
      alone e =
          let z : t.0 + 0 ≡ t.0 = omega arith in
          ap (plus p t.0) (absent (unit, j) refl v (subst (λ m. Above (Has 8) order O m v) e above)) ∙ ap (λ n. n % p) z ∙ mod-eq_of_lt h.0.reduced

      go : (b : Bool) → (T b → t.1 ≡ (unit, j)) → constant v j ≡ coefficient p (unit, j) v
          → ◌≡◌ {A = ℕ} (elim b [ true ↦ t.0 | false ↦ constant v j ])
          (elim b [ true ↦ plus p t.0 (coefficient p (unit, j) v) | false ↦ coefficient p (unit, j) v ])
      go true e i = sym (alone (e tt))
      go false e i = i

-- ## Sound levels

-- of a level's vectors
abbrev pub PlainConstants : ℕ → Level → List Level → Type 0
PlainConstants p f below = (i j : ℕ) → constant (vector_of f i) j ≡ coefficient p (unit, j) (vector_of f i)

module _ (lim : Limits) (q : Parameters) where
  module _ (below : List Level) (L : Leads 8 below) where
    abbrev order : Monomial → Monomial → Comparison
    order = compare_over q.code below

    O : Orders (Has 8) order
    O = (compare_order 8 q.code below L).orders

    plain_term : (c : ℕ) (t : Term) → T (term_sound? lim q c t) → Plain q.p order O t
    plain_term c t h =
        let s = term_says lim q c t h in
        record {
          eight = s.eight;
          reduced = let a = between_low 1 t.0 (q.p - 1) s.coefficient in let b = between_high 1 t.0 (q.p - 1) s.coefficient in
              omega (arith, a, b);
        }

    plain_vector : (c most : ℕ) (v : Vector) → T (vector_sound? lim q c most below v) → (j : ℕ) → constant v j ≡ coefficient q.p (unit, j) v
    plain_vector c most v h =
        let s = vector_says lim q c most below v h in
        constant_is q.p order O v
        (all_map (λ t. T (term_sound? lim q c t)) (Plain q.p order O) (plain_term c) v (every_all (term_sound? lim q c) v s.terms)) s.descends

    plain_level : (c most : ℕ) (f : Level) → T (every (vector_sound? lim q c most below) f) → PlainConstants q.p f below
    plain_level c most f h zero j = refl
    plain_level c most f h (suc i) j =
        all_at (λ v. constant v j ≡ coefficient q.p (unit, j) v) [] refl f i
        (all_map (λ v. T (vector_sound? lim q c most below v)) (λ v. constant v j ≡ coefficient q.p (unit, j) v) (λ v k. plain_vector c most v k j) f
        (every_all (vector_sound? lim q c most below) f h))

  pub sound_plain : (ls : List Level) → T (levels_sound? lim q ls) → Each (PlainConstants q.p) ls
  sound_plain [] h = tt
  sound_plain (f ∷ []) h = (plain_level [] tt q.s lim.t_lines f (basis_says lim q f h).vectors, tt)
  sound_plain (f ∷ g ∷ below) h =
      let s = level_says lim q f g below h in (
        plain_level (g ∷ below) (headed_leads (g ∷ below) (sound_headed lim q (g ∷ below) s.under)) (length g) lim.vector f s.vectors,
        sound_plain (g ∷ below) s.under,
      )
