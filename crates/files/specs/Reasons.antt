-- "Refusals from the input" 1 to 8, each with its reason in plain notions; "1, then 2, 3 for R; 1, 8, 5, 4, 6 for T; 1, 7 for E".
-- And 18 for D (A5), 24 for G (A14).
use Rattle.std.specs.Prelude.{◌≡◌, Bool, false, ◌⊎◌, List, [], ◌∷◌, ◌++◌, ℕ, suc, ◌+◌, ◌*◌, ◌≤◌, ◌<◌, length, drop, replicate}
use Rattle.std.proofs.Math.Option.{none, some}
use Rattle.definitions.specs.Limits.{Limits}
use Rattle.definitions.specs.Lists.{last}
use Rattle.definitions.specs.Monomial.{Term, Level}
use Rattle.definitions.specs.Order.{greater, compare_over}
use Rattle.definitions.specs.Problem.{Bytes, Line, Parameters, letter_R, letter_D, letter_G, letter_T, letter_E, lines, last_term}
use Rattle.definitions.specs.Places.{most_degree, most_weight}
use Rattle.definitions.specs.State.{terms_of}
use Rattle.definitions.specs.Sheet.{printed, term_fields}
use Rattle.laws.proofs.Modular.{Prime}
use Rattle.laws.proofs.Members.{All}
use Rattle.definitions.specs.Written.{end_line}
use Rattle.files.specs.Files.{elements_lines, first_line_of, Given, degrees_line, given_lines, behind_degrees, first_term_line}
use Rattle.files.specs.Files.{WellFormedParameters, DegreesSaid, WeightsSaid, WellFormedElement}

-- the elements of the lines so far are in order
pub record SoFar (lim : Limits) (given : Given) (q : Parameters) (f : Level) : Type 0 where
  pub parameters : WellFormedParameters lim q
  pub degrees : DegreesSaid given.degrees q
  pub weights : WeightsSaid given.weights q
  pub few : length f ≤ lim.elements
  pub short : terms_of f ≤ lim.t_lines
  pub elements : All (WellFormedElement lim q) f

-- the line is the letter and so many numbers, each within a field
pub record Says (lim : Limits) (letter count : ℕ) (line : Line) (v : List ℕ) : Type 0 where
  pub text : lines (printed letter v) ≡ line ∷ []
  pub counted : length v ≡ count
  pub within : All (λ x. x ≤ lim.field) v

-- "Elements run from 1 without gaps", "above 64"
abbrev pub InSequence : Limits → Level → ℕ → Type 0
InSequence lim f i = ((i ≡ suc (length f)) ⊎ ((i ≡ length f) × (1 ≤ length f))) × (i ≤ lim.elements)

-- "coefficient 0 or ≥ p, component outside 1..s, exponent above 255" does not hold
pub record InRange (lim : Limits) (q : Parameters) (t : Term) : Type 0 where
  pub coefficient_from : 1 ≤ t.0
  pub coefficient_below : t.0 < q.p
  pub component_from : 1 ≤ t.1.1
  pub component_to : t.1.1 ≤ q.s
  pub exponents_to : All (λ x. x ≤ lim.exponent) t.1.0

-- the term begins an element or is below the one before it
abbrev pub Below : ℕ → Level → ℕ → Term → Type 0
Below code f i t = (i ≡ suc (length f)) ⊎ ((u : Term) → last_term (last f) ≡ some u → compare_over code [] u.1 t.1 ≡ greater)

-- the line of term t for element i, after the elements f: "8, 5, 4, 6"
pub data BadTerm (lim : Limits) (q : Parameters) (f : Level) (i : ℕ) (t : Term) : ℕ → Type 0 where
  too_many : lim.t_lines ≤ terms_of f → BadTerm lim q f i t 8
  out_of_sequence : terms_of f < lim.t_lines → ¬ (InSequence lim f i) → BadTerm lim q f i t 5
  out_of_range : terms_of f < lim.t_lines → InSequence lim f i → ¬ (InRange lim q t) → BadTerm lim q f i t 4
  not_below : terms_of f < lim.t_lines → InSequence lim f i → InRange lim q t → ¬ (Below q.code f i t) → BadTerm lim q f i t 6

-- the next line is the one behind R, or behind R and D: there alone G may stand
abbrev pub HeadSoFar : Given → Level → Type 0
HeadSoFar given f = (given.weights ≡ none) × (f ≡ [])

-- the next line is line 2: there alone D may stand
abbrev pub Second : Given → Level → Type 0
Second given f = (given.degrees ≡ false) × HeadSoFar given f

-- the lines after R, after D and G where they are given, and the T lines of f
pub data BadLater (lim : Limits) (given : Given) (q : Parameters) (f : Level) : List Line → ℕ → Type 0 where
  absent : BadLater lim given q f [] 1
  no_shape : {line : Line} {later : List Line} → (Second given f → (v : List ℕ) → ¬ (Says lim letter_D q.s line v))
      → (HeadSoFar given f → (v : List ℕ) → ¬ (Says lim letter_G (2 * q.n) line v))
      → ((v : List ℕ) → ¬ (Says lim letter_T (3 + q.n) line v))
      → ((v : List ℕ) → ¬ (Says lim letter_E 1 line v))
      → BadLater lim given q f (line ∷ later) 1
  bad_term : {line : Line} {later : List Line} {number : ℕ} (i : ℕ) (t : Term) → length t.1.0 ≡ 8 → All (λ x. x ≡ 0) (drop q.n t.1.0)
      → Says lim letter_T (3 + q.n) line (i ∷ term_fields q.n t) → BadTerm lim q f i t number
      → BadLater lim given q f (line ∷ later) number
  bad_count : {line : Line} {later : List Line} (c : ℕ) → Says lim letter_E 1 line (c ∷ []) → ¬ ((1 ≤ c) × (c ≡ terms_of f))
      → BadLater lim given q f (line ∷ later) 7

-- the number and the place of a refusal, with the lines of the file
pub data Reason (lim : Limits) (bytes : Bytes) (number place : ℕ) : Type 0 where
  no_first : number ≡ 1 → place ≡ 1 → lines bytes ≡ [] → Reason lim bytes number place
  first_shape : number ≡ 1 → place ≡ 1 → (line : Line) (later : List Line) → lines bytes ≡ line ∷ later
      → ((v : List ℕ) → ¬ (Says lim letter_R 4 line v))
      → Reason lim bytes number place
  first_prime : number ≡ 2 → place ≡ 1 → (line : Line) (later : List Line) → lines bytes ≡ line ∷ later → (p n code s : ℕ)
      → Says lim letter_R 4 line (p ∷ n ∷ code ∷ s ∷ [])
      → ¬ (Prime p × (p ≤ lim.prime_bound)) → Reason lim bytes number place
  first_range : number ≡ 3 → place ≡ 1 → (line : Line) (later : List Line) → lines bytes ≡ line ∷ later → (p n code s : ℕ)
      → Says lim letter_R 4 line (p ∷ n ∷ code ∷ s ∷ [])
      → Prime p × (p ≤ lim.prime_bound) → ¬ (WellFormedParameters lim (record { p = p; n = n; code = code; s = s; degrees = replicate s 0 }))
      → Reason lim bytes number place
  -- "18 when a component's degree is above 255, tested after the line's shape" (A5)
  second_degree : number ≡ 18 → place ≡ 2 → (q : Parameters) → WellFormedParameters lim q → (tail : Bytes) → bytes ≡ first_line_of q ++ tail
      → (line : Line) (later : List Line) → lines tail ≡ line ∷ later → (v : List ℕ) → Says lim letter_D q.s line v
      → ¬ (All (λ x. x ≤ most_degree) v) → Reason lim bytes number place
  -- "24 when a weight is above 15, after its line's shape" (A14)
  head_weight : number ≡ 24 → (degrees : Bool) → place ≡ behind_degrees degrees → (q : Parameters) → WellFormedParameters lim q
      → DegreesSaid degrees q → (tail : Bytes) → bytes ≡ first_line_of q ++ (degrees_line degrees q ++ tail)
      → (line : Line) (later : List Line) → lines tail ≡ line ∷ later → (v : List ℕ) → Says lim letter_G (2 * q.n) line v
      → ¬ (All (λ x. x ≤ most_weight) v) → Reason lim bytes number place
  later_line : (given : Given) (q : Parameters) (f : Level) → SoFar lim given q f → (tail : Bytes)
      → bytes ≡ first_line_of q ++ (given_lines given q ++ (elements_lines q.n 1 f ++ tail))
      → place ≡ first_term_line given + terms_of f → BadLater lim given q f (lines tail) number → Reason lim bytes number place
  after_end : number ≡ 1 → (given : Given) (q : Parameters) (f : Level) → SoFar lim given q f → 1 ≤ terms_of f
      → (tail : Bytes) (line : Line) (later : List Line) → lines tail ≡ line ∷ later
      → bytes ≡ first_line_of q ++ (given_lines given q ++ (elements_lines q.n 1 f ++ (end_line f ++ tail)))
      → place ≡ suc (first_term_line given) + terms_of f → Reason lim bytes number place
