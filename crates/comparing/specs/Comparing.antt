-- "A2. Comparing tells equal from smaller."
use Rattle.std.specs.Prelude.{◌≡◌, ◌↔◌, List, [], ◌∷◌, ℕ, T, length}
use Rattle.definitions.specs.Limits.{Limits}
use Rattle.definitions.specs.Lists.{between}
use Rattle.definitions.specs.Monomial.{Monomial, Level, vector_of}
use Rattle.definitions.specs.Order.{Comparison, greater, equal, smaller, image, compare_over}
use Rattle.definitions.specs.State.{State, sound?, up_to}
use Rattle.comparing.specs.Above.{Above, GreatestOf, multiplied}

-- "A monomial is eight exponents and a component"
abbrev pub Eight : Monomial → Type 0
Eight m = length m.0 ≡ 8

abbrev pub swapped : Comparison → Comparison
swapped greater = smaller
swapped equal = equal
swapped smaller = greater

-- what is promised of the comparison in the module over the levels below it
pub record AnswersExactly (code : ℕ) (below : List Level) : Type 0 where
  -- "should say greater, equal or smaller, each exactly when the order says so"
  pub greater_exactly : (m m' : Monomial) → Eight m → Eight m' → (compare_over code below m m' ≡ greater) ↔ Above code below m m'
  -- "and equal exactly for the same exponents and component"
  pub equal_exactly : (m m' : Monomial) → Eight m → Eight m' → (compare_over code below m m' ≡ equal) ↔ (m ≡ m')
  pub smaller_exactly : (m m' : Monomial) → Eight m → Eight m' → (compare_over code below m m' ≡ smaller) ↔ Above code below m' m
  -- "Two monomials swapped swap greater and smaller."
  pub swaps : (m m' : Monomial) → Eight m → Eight m' → compare_over code below m' m ≡ swapped (compare_over code below m m')
  -- the relation is an order
  pub irreflexive : (m : Monomial) → Eight m → Above code below m m → ⊥
  pub transitive : (m m' m'' : Monomial) → Eight m → Eight m' → Eight m'' → Above code below m m' → Above code below m' m'' → Above code below m m''

pub record A2 (lim : Limits) : Type 0 where
  -- "on level 0"
  pub level_0 : (code : ℕ) → T (between 1 code 3) → AnswersExactly code []
  -- "and in the induced order": over levels 0 to k of every sound state
  pub induced : (X : State) → T (sound? lim X) → (k : ℕ) → AnswersExactly X.parameters.code (up_to X k)
  -- where the image of m·e_i is what its name says, "the leading monomial of m·f_i": the greatest of those of m·f_i
  pub image_leads : (X : State) → T (sound? lim X) → (k : ℕ) (f : Level) (below : List Level) → up_to X k ≡ f ∷ below
      → (m : Monomial) → Eight m → T (between 1 m.1 (length f))
      → GreatestOf X.parameters.code below (multiplied m.0 (vector_of f m.1)) (image f m)
