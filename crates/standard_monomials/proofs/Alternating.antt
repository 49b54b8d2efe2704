-- The alternating sum over the columns of levels, each the frame of the one below and the highest of them empty.
use mathlib.Core.Path.{◌≡◌, refl, sym, ap, ap₂, ◌∙◌}
use mathlib.Core.List.{List, [], ◌∷◌, reverse, reverse_aux}
use Prim.Native.Nat.{ℕ, zero, suc, ◌+◌, ◌-◌, ◌<◌, ◌≤◌}
use native.Mathlib.Omega.{arith}
use lib.ListN.{length, get_or}
use Rattle.definitions.specs.Lists.{map, from}
use Rattle.definitions.specs.Monomial.{Monomial, Vector, Level, degree, leading, leading_monomials}
use Rattle.definitions.specs.Frame.{frame}
use Rattle.definitions.specs.Degrees.{component_degree, degree_by, degree_of, degrees_of, carried}
use Rattle.definitions.specs.Hilbert.{column_value, both_sums}
use Rattle.definitions.specs.Standard.{in_components}
use Rattle.definitions.specs.Places.{exponents_length, hilbert_degrees}
use Rattle.laws.proofs.Tests.{between_shown}
use Rattle.laws.proofs.Members.{All}
use Rattle.laws.proofs.Degrees.{Headed, AllHeaded, degree_recursion}
use Rattle.laws.proofs.RoundTrip.{length_degrees}
use Rattle.standard_monomials.proofs.Counts.{count_all}
use Rattle.standard_monomials.proofs.Components.{all_number}
use Rattle.standard_monomials.proofs.Padding.{Over, padded_eight}
use Rattle.standard_monomials.proofs.Partition.{undivided, one_step}

-- ## Degrees from the column before

-- the degrees of the generators over which a level's leading monomials stand: the components', or those of the level below
abbrev pub generators_under : List ℕ → List Level → List ℕ
generators_under d [] = d
generators_under d (g ∷ below) = degrees_of d below g

-- each vector has a term, and its leading monomial is one over these generators, on every level
abbrev pub LevelsOver : ℕ → List ℕ → List Level → Type 0
LevelsOver n d [] = Unit {0}
LevelsOver n d (f ∷ below) = All Headed f × All (Over n (length (generators_under d below))) (leading_monomials f) × LevelsOver n d below

pub over_headed : (n : ℕ) (d : List ℕ) (ls : List Level) → LevelsOver n d ls → AllHeaded ls
over_headed n d [] h = tt
over_headed n d (f ∷ below) h = (h.0, over_headed n d below h.2)

component_at : (gs : List ℕ) (c : ℕ) → 1 ≤ c → component_degree gs c ≡ get_or gs (c - 1) 0
component_at gs zero l = absurd (omega (arith, l))
component_at gs (suc c) l = let e : c ≡ suc c - 1 = omega arith in ap (λ i. get_or gs i 0) e

module _ (n : ℕ) (eight : n ≤ exponents_length) (d : List ℕ) where
  -- a vector's degree is that of its leading monomial over the generators of the column before
  degree_under : (below : List Level) → LevelsOver n d below → (v : Vector) → Over n (length (generators_under d below)) (leading v)
      → degree_of d below v ≡ degree_by (generators_under d below) (leading v)
  degree_under [] h v o = refl
  degree_under (g ∷ below) h v o =
      let m = leading v in
      let l = o.low in
      let k = o.high in
      let e = length_degrees d below g in
      degree_recursion d g below m (over_headed n d (g ∷ below) h) (padded_eight n eight m.0 o.exponents)
      (between_shown 1 m.1 (length g) l (omega (arith, k, e)))
      ∙ ap (λ x. degree m.0 + x) (sym (component_at (degrees_of d below g) m.1 l))

  pub degrees_under : (below : List Level) → LevelsOver n d below → (f : Level) → All (Over n (length (generators_under d below))) (leading_monomials f)
      → degrees_of d below f ≡ map (degree_by (generators_under d below)) (leading_monomials f)
  degrees_under below h [] o = refl
  degrees_under below h (v ∷ f) o = ap₂ (λ x y. x ∷ y) (degree_under below h v o.0) (degrees_under below h f o.1)

-- ## The sum

-- the leading monomials of each level are the frame of the level below
abbrev pub Framed : ℕ → List Level → Type 0
Framed code [] = Unit {0}
Framed code (f ∷ []) = Unit {0}
Framed code (f ∷ g ∷ below) = (leading_monomials f ≡ frame code (leading_monomials g)) × Framed code (g ∷ below)

-- level 0
abbrev pub lowest : List Level → Level
lowest [] = []
lowest (f ∷ []) = f
lowest (f ∷ g ∷ below) = lowest (g ∷ below)

module _ (code n : ℕ) (some : 1 ≤ n) (eight : n ≤ exponents_length) (d : List ℕ) (x : ℕ) (within : x < hilbert_degrees) where
  -- what is left of a column is what the sum over it and the columns behind it gives
  abbrev Balanced : List ℕ → List Monomial → List (List ℕ) → Type 0
  Balanced gs ls cs = undivided n gs ls x + (both_sums n x (gs ∷ cs)).1 ≡ (both_sums n x (gs ∷ cs)).0

  -- no leading monomial, and no generator behind
  balanced_last : (gs : List ℕ) → Balanced gs [] ([] ∷ [])
  balanced_last gs =
      let a : undivided n gs [] x ≡ column_value n x gs = count_all (in_components n gs x (from 1 (length gs))) ∙ all_number n x some eight within gs in
      omega (arith, a)

  -- one column further down
  balanced_down : (gs : List ℕ) (ls : List Monomial) → All (Over n (length gs)) ls → (hs : List ℕ) → hs ≡ map (degree_by gs) ls
      → (ks : List Monomial) → ks ≡ frame code ls → (cs : List (List ℕ)) → Balanced hs ks cs → Balanced gs ls (hs ∷ cs)
  balanced_down gs ls o hs e ks k cs b =
      let s = one_step code n eight gs x some within ls o in
      let z : undivided n hs ks x ≡ undivided n (map (degree_by gs) ls) (frame code ls) x = ap₂ (λ u v. undivided n u v x) e k in
      omega (arith, s, z, b)

  down : (below : List Level) (f : Level) (cs : List (List ℕ)) → LevelsOver n d (f ∷ below) → Framed code (f ∷ below)
      → Balanced (generators_under d below) (leading_monomials f) (degrees_of d below f ∷ cs)
      → Balanced d (leading_monomials (lowest (f ∷ below))) (reverse_aux (carried d (f ∷ below)) cs)
  down [] f cs o h b = b
  down (g ∷ below) f cs o h b =
      down below g (degrees_of d (g ∷ below) f ∷ cs) o.2 h.1
      (balanced_down (generators_under d below) (leading_monomials g) o.2.1 (degrees_of d below g)
      (degrees_under n eight d below o.2.2 g o.2.1) (leading_monomials f) h.0 (degrees_of d (g ∷ below) f ∷ cs) b)

  -- of levels that end in an empty one
  pub balanced : (below : List Level) → LevelsOver n d ([] ∷ below) → Framed code ([] ∷ below)
      → undivided n d (leading_monomials (lowest ([] ∷ below))) x + (both_sums n x (d ∷ reverse (carried d ([] ∷ below)))).1
      ≡ (both_sums n x (d ∷ reverse (carried d ([] ∷ below)))).0
  balanced below o h = down below [] [] o h (balanced_last (generators_under d below))
