-- The reckoning of whole levels: a larger bound changes nothing, and levels reckoned one over the other are the reckoning's.
use mathlib.Core.Path.{◌≡◌, sym, ap, ◌∙◌, subst}
use mathlib.Core.Option.{Option, none, some}
use mathlib.Core.List.{List, [], ◌∷◌}
use Prim.Native.Nat.{ℕ, zero, suc, ◌+◌, ◌<◌}
use native.Mathlib.Omega.{arith}
use lib.ListN.{length, drop}
use Rattle.definitions.specs.Limits.{Limits}
use Rattle.definitions.specs.Lists.{◌then◌}
use Rattle.definitions.specs.Monomial.{Monomial, Vector, Level, leading_monomials}
use Rattle.definitions.specs.Frame.{frame}
use Rattle.definitions.specs.Stage.{highest}
use Rattle.definitions.specs.Problem.{Parameters}
use Rattle.definitions.specs.Reckoning.{Reckoning, each, reckoned_vector, reckoned_level, reckoned_levels, reckoned_over, reckoned}
use Rattle.demands.specs.Exact.{Reckons}
use Rattle.demands.proofs.Results.{Upto, known, upto_then, upto_at, upto_more, upto_one}
use Rattle.demands.proofs.Reckoned.{vector_more}

-- ## A larger bound changes nothing

each_more : (h k : Monomial → Option Vector) → ((m : Monomial) → Upto (h m) (k m)) → (ms : List Monomial) → Upto (each h ms) (each k ms)
each_more h k l [] = known
each_more h k l (m ∷ ms) = upto_then (l m) (λ v. upto_then (each_more h k l ms) (λ vs. known))

module _ (lim : Limits) where
  level_more : (p code : ℕ) (below : List Level) (N : ℕ) → Upto (reckoned_level lim N p code below) (reckoned_level lim (suc N) p code below)
  level_more p code below N =
      each_more (reckoned_vector N p code below) (reckoned_vector (suc N) p code below) (vector_more N p code below)
      (frame (lim.numbering code) (leading_monomials (highest below)))

  levels_more : (p code : ℕ) (basis : Level) (h N : ℕ) → Upto (reckoned_levels lim N p code basis h) (reckoned_levels lim (suc N) p code basis h)
  levels_more p code basis zero N = known
  levels_more p code basis (suc h) N = upto_then (levels_more p code basis h N) (λ below. upto_then (level_more p code below N) (λ f. known))

  over_more : (b : Option (Parameters × Level)) (h N : ℕ) → Upto (reckoned_over lim N b h) (reckoned_over lim (suc N) b h)
  over_more none h N = known
  over_more (some f) h N = levels_more f.0.p f.0.code f.1 h N

  -- ## One value

  pub one_level : (p code : ℕ) (below : List Level) (N M : ℕ) (f g : Level)
      → reckoned_level lim N p code below ≡ some f → reckoned_level lim M p code below ≡ some g → f ≡ g
  one_level p code below = upto_one (λ N. reckoned_level lim N p code below) (level_more p code below)

  pub one_reckoning : (R : Reckoning) (f g : List Level) → Reckons lim R f → Reckons lim R g → f ≡ g
  one_reckoning R f g a b = upto_one (λ N. reckoned lim N R) (over_more R.basis R.h) a.0 b.0 f g a.1 b.1

  -- ## Towers

  -- level 0 is f, each other level is reckoned over those below it
  abbrev pub Tower : Parameters → Level → List Level → Type 0
  Tower q f [] = ⊥
  Tower q f (g ∷ []) = g ≡ f
  Tower q f (g ∷ below ∷ others) = ((bound : ℕ) × (reckoned_level lim bound q.p q.code (below ∷ others) ≡ some g)) × Tower q f (below ∷ others)

  at_both : (q : Parameters) (f : Level) (h N M : ℕ) (below : List Level) (g : Level) → reckoned_levels lim N q.p q.code f h ≡ some below
      → reckoned_level lim M q.p q.code below ≡ some g → reckoned_levels lim (N + M) q.p q.code f (suc h) ≡ some (g ∷ below)
  at_both q f h N M below g x y =
      let c : M + N ≡ N + M = omega arith in
      let a = subst (λ z. reckoned_levels lim z q.p q.code f h ≡ some below) c
      (upto_at (upto_more (λ z. reckoned_levels lim z q.p q.code f h) (levels_more q.p q.code f h) M N) x) in
      let b = upto_at (upto_more (λ z. reckoned_level lim z q.p q.code below) (level_more q.p q.code below) N M) y in
      ap (λ z. z then λ below. reckoned_level lim (N + M) q.p q.code below then λ f. some (f ∷ below)) a
      ∙ ap (λ z. z then λ f. some (f ∷ below)) b

  -- they are the reckoning's levels
  pub tower_reckons : (q : Parameters) (f : Level) (levels : List Level) (h : ℕ) → length levels ≡ suc h → Tower q f levels
      → Reckons lim (record { basis = some (q, f); h = h }) levels
  tower_reckons q f [] h l t = absurd t
  tower_reckons q f (g ∷ []) zero l t = (0, ap (λ z. some (z ∷ [])) (sym t))
  tower_reckons q f (g ∷ []) (suc h) l t = absurd (omega arith)
  tower_reckons q f (g ∷ below ∷ others) zero l t = absurd (omega arith)
  tower_reckons q f (g ∷ below ∷ others) (suc h) l t =
      let (N, e) = tower_reckons q f (below ∷ others) h (omega arith) t.1 in
      let (M, d) = t.0 in
      (N + M, at_both q f h N M (below ∷ others) g e d)

-- what passes to the levels below passes to all that are left of a list
pub drop_keeps : (X : List Level → Type 0) → ((f g : Level) (below : List Level) → X (f ∷ g ∷ below) → X (g ∷ below)) → (i : ℕ) (levels : List Level)
    → i < length levels → X levels → X (drop i levels)
drop_keeps X down zero levels l x = x
drop_keeps X down (suc i) [] l x = absurd (omega arith)
drop_keeps X down (suc i) (f ∷ []) l x = absurd (omega arith)
drop_keeps X down (suc i) (f ∷ g ∷ below) l x = drop_keeps X down i (g ∷ below) (omega arith) (down f g below x)
