-- What a sound state gives for comparing: eight exponents in every leading term, a code from 1 to 3, and leading terms above the others.
use mathlib.Core.Path.{◌≡◌, refl, sym, subst}
use mathlib.Core.List.{List, [], ◌∷◌}
use Prim.Native.Nat.{ℕ, zero, suc, ◌-◌}
use native.Mathlib.Omega.{arith}
use lib.Dec.{T}
use lib.ListN.{length, drop}
use Rattle.definitions.specs.Limits.{Limits}
use Rattle.definitions.specs.Lists.{◌and◌, every, between}
use Rattle.definitions.specs.Monomial.{Term, Vector, Level}
use Rattle.definitions.specs.Order.{compare_over}
use Rattle.definitions.specs.Vectors.{strictly_descending?}
use Rattle.definitions.specs.Problem.{Parameters}
use Rattle.definitions.specs.State.{State, sound?, levels_sound?, vector_sound?, term_sound?, up_to}
use Rattle.laws.proofs.Tests.{and_left, and_right}
use Rattle.laws.proofs.Members.{All, every_all, all_map}
use Rattle.laws.proofs.Sound.{term_says, vector_says, basis_says, level_says, sound_says}
use Rattle.laws.proofs.Induced.{Has, Led, Leads}

-- a vector that has terms, all with eight exponents, descending in the order over the levels below
pub record Descends (code : ℕ) (below : List Level) (v : Vector) : Type 0 where
  pub first : Term
  pub others : Vector
  pub is : v ≡ first ∷ others
  pub eight : All (λ t. Has 8 t.1) (first ∷ others)
  pub falls : T (strictly_descending? (compare_over code below) (first ∷ others))

module _ (lim : Limits) (q : Parameters) where
  -- ## Vectors

  eights : (c : ℕ) (v : Vector) → T (every (term_sound? lim q c) v) → All (λ t. Has 8 t.1) v
  eights c v h = all_map (λ t. T (term_sound? lim q c t)) (λ t. Has 8 t.1) (λ t s. (term_says lim q c t s).eight) v
      (every_all (term_sound? lim q c) v h)

  descends : (c most : ℕ) (below : List Level) (v : Vector) → T (vector_sound? lim q c most below v) → Descends q.code below v
  descends c most below [] h = let l = (vector_says lim q c most below [] h).filled in absurd (omega arith)
  descends c most below (t ∷ v) h =
      let s = vector_says lim q c most below (t ∷ v) h in
      record { first = t; others = v; is = refl; eight = eights c (t ∷ v) s.terms; falls = s.descends }

  led : (below : List Level) (v : Vector) → Descends q.code below v → Led 8 v
  led below v d = subst (Led 8) (sym d.is) d.eight.0

  -- ## Levels

  abbrev SoundVectors : List Level → Level → Type 0
  SoundVectors below f = All (Descends q.code below) f

  vectors : (c most : ℕ) (below : List Level) (f : Level) → T (every (vector_sound? lim q c most below) f) → SoundVectors below f
  vectors c most below f h =
      all_map (λ v. T (vector_sound? lim q c most below v)) (Descends q.code below) (descends c most below) f
      (every_all (vector_sound? lim q c most below) f h)

  -- every level over those below it
  abbrev pub Descending : List Level → Type 0
  Descending [] = Unit {0}
  Descending (f ∷ below) = SoundVectors below f × Descending below

  descending : (ls : List Level) → T (levels_sound? lim q ls) → Descending ls
  descending [] h = tt
  descending (f ∷ []) h = (vectors q.s lim.t_lines [] f (basis_says lim q f h).vectors, tt)
  descending (f ∷ g ∷ below) h =
      let s = level_says lim q f g below h in
      (vectors (length g) lim.vector (g ∷ below) f s.vectors, descending (g ∷ below) s.under)

  dropped : (n : ℕ) (ls : List Level) → Descending ls → Descending (drop n ls)
  dropped zero ls h = h
  dropped (suc n) [] h = tt
  dropped (suc n) (f ∷ ls) h = dropped n ls h.1

  pub leads : (ls : List Level) → Descending ls → Leads 8 ls
  leads [] h = tt
  leads (f ∷ below) h = (all_map (Descends q.code below) (Led 8) (led below) f h.0, leads below h.1)

module _ (lim : Limits) (X : State) (h : T (sound? lim X)) where
  pub levels_descending : (k : ℕ) → Descending lim X.parameters (up_to X k)
  levels_descending k =
      dropped lim X.parameters (length X.levels - suc k) X.levels
      (descending lim X.parameters X.levels (sound_says lim X h).levels)

  pub code_in_range : T (between 1 X.parameters.code 3)
  code_in_range =
      let q = X.parameters in
      let s = between 1 q.code 3 and between 1 q.s lim.components in
      and_left (between 1 q.code 3) (between 1 q.s lim.components)
      (and_right (between 1 q.n lim.variables) s (sound_says lim X h).ranges)
