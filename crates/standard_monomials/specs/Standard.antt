-- What A13's theorem counts, in plain notions.
use Rattle.std.specs.Prelude.{◌≡◌, List, [], ℕ, ◌+◌, ◌<◌, ◌≤◌, length}
use Rattle.definitions.specs.Monomial.{Monomial, Level, leading_monomials}
use Rattle.definitions.specs.Problem.{Parameters}
use Rattle.definitions.specs.Degrees.{component_degree}
use Rattle.definitions.specs.Standard.{standard}
use Rattle.definitions.specs.Places.{exponents_length}
use Rattle.standard_monomials.specs.Notions.{Undivided, ListsEach}

pub record StandardRight : Type 0 where
  -- "the monomials of that degree, components' degrees included, that no leading monomial of the basis divides": all of them, nothing else, none twice
  pub listed : (q : Parameters) → q.n ≤ exponents_length → (f : Level) (d : ℕ) → ListsEach (Undivided q f d) (standard q f d)
  -- .. so that they are as many as any list has that has each of them once
  pub number : (q : Parameters) → q.n ≤ exponents_length → (f : Level) (d : ℕ) (l : List Monomial) → ListsEach (Undivided q f d) l
      → length (standard q f d) ≡ length l
  -- which they are depends on variables, components, degrees and leading monomials alone
  pub by_leading : (q q' : Parameters) (f f' : Level) (d : ℕ) → q.n ≡ q'.n → q.s ≡ q'.s → q.degrees ≡ q'.degrees
      → leading_monomials f ≡ leading_monomials f' → standard q f d ≡ standard q' f' d
  -- with D: where each component's degree is raised by a, so is the degree of each monomial ..
  pub raised : (q q' : Parameters) (f : Level) (a d : ℕ) → q.n ≡ q'.n → q.s ≡ q'.s
      → ((i : ℕ) → 1 ≤ i → i ≤ q.s → component_degree q'.degrees i ≡ component_degree q.degrees i + a)
      → standard q' f (d + a) ≡ standard q f d
  -- .. and below all components' degrees there is none
  pub none_below : (q : Parameters) (f : Level) (d : ℕ) → ((i : ℕ) → 1 ≤ i → i ≤ q.s → d < component_degree q.degrees i) → standard q f d ≡ []
