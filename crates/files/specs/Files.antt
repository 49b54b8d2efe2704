-- A problem file as it is printed, and what a well-formed one says, in plain notions: no test, no reader.
use Rattle.std.specs.Prelude.{◌≡◌, Bool, true, false, List, [], ◌∷◌, ◌++◌, ℕ, suc, ◌*◌, ◌≤◌, ◌<◌, length, take, drop, replicate}
use Rattle.std.proofs.Math.Option.{Option, none, some}
use Rattle.definitions.specs.Limits.{Limits}
use Rattle.definitions.specs.Monomial.{Term, Vector, Level}
use Rattle.definitions.specs.Order.{greater, compare_over}
use Rattle.definitions.specs.Problem.{Bytes, Parameters, letter_R, letter_D, letter_G, pairs, lines}
use Rattle.definitions.specs.Places.{most_degree, most_weight}
use Rattle.definitions.specs.State.{terms_of}
use Rattle.definitions.specs.Sheet.{printed}
use Rattle.definitions.specs.Written.{element_lines, end_line}
use Rattle.laws.proofs.Modular.{Prime}
use Rattle.laws.proofs.Members.{All}

-- ## The file

-- the elements from element i on
abbrev pub elements_lines : ℕ → ℕ → Level → Bytes
elements_lines n i [] = []
elements_lines n i (f ∷ fs) = element_lines n i f ++ elements_lines n (suc i) fs

-- `R,p,n,order,s`
abbrev pub first_line_of : Parameters → Bytes
first_line_of q = printed letter_R (q.p ∷ q.n ∷ q.code ∷ q.s ∷ [])

-- which lines stand between R and the first T line: D or not (A5); G, with these numbers, or not (A14)
pub record Given : Type 0 where
  pub degrees : Bool
  pub weights : Option (List ℕ)

-- "A line `D,d1,..,ds` .. may follow R" (A5): it is given or not
abbrev pub degrees_line : Bool → Parameters → Bytes
degrees_line true q = printed letter_D q.degrees
degrees_line false q = []

-- "A line `G,a1,b1,..,an,bn` .. may stand after R or, where there is one, D" (A14)
abbrev pub weights_line : Option (List ℕ) → Bytes
weights_line (some v) = printed letter_G v
weights_line none = []

abbrev pub given_lines : Given → Parameters → Bytes
given_lines given q = degrees_line given.degrees q ++ weights_line given.weights

-- the R line, D and G where they are given, the T lines element by element, the E line
abbrev pub file_of : Given → Parameters → Level → Bytes
file_of given q f = first_line_of q ++ (given_lines given q ++ (elements_lines q.n 1 f ++ end_line f))

-- the number of the first line behind R and D
abbrev pub behind_degrees : Bool → ℕ
behind_degrees true = 3
behind_degrees false = 2

-- .. and behind G, where the next line had that number
abbrev pub behind_weights : Option (List ℕ) → ℕ → ℕ
behind_weights (some v) place = suc place
behind_weights none place = place

-- the number of the first line behind R, D and G
abbrev pub first_term_line : Given → ℕ
first_term_line given = behind_weights given.weights (behind_degrees given.degrees)

-- ## What it says

-- "p a prime from 2 to" 65,535 (A4), "n variables, 1 to 8", "The order code is 1 .. 2 .. 3", "s components, 1 to 16"
pub record WellFormedParameters (lim : Limits) (q : Parameters) : Type 0 where
  pub prime : Prime q.p
  pub p_to : q.p ≤ lim.prime_bound
  pub n_from : 1 ≤ q.n
  pub n_to : q.n ≤ lim.variables
  pub code_from : 1 ≤ q.code
  pub code_to : q.code ≤ 3
  pub s_from : 1 ≤ q.s
  pub s_to : q.s ≤ lim.components

-- A D line has "d1,..,ds, each 0 to 255"
pub record WellFormedDegrees (q : Parameters) : Type 0 where
  pub counted : length q.degrees ≡ q.s
  pub each_to : All (λ x. x ≤ most_degree) q.degrees

-- "files without D keep zeros"
abbrev pub DegreesSaid : Bool → Parameters → Type 0
DegreesSaid true q = WellFormedDegrees q
DegreesSaid false q = q.degrees ≡ replicate q.s 0

-- A G line has "a1,b1,..,an,bn, weights 0 to 15"
pub record WellFormedWeights (q : Parameters) (v : List ℕ) : Type 0 where
  pub counted : length v ≡ 2 * q.n
  pub each_to : All (λ x. x ≤ most_weight) v

abbrev pub WeightsSaid : Option (List ℕ) → Parameters → Type 0
WeightsSaid (some v) q = WellFormedWeights q v
WeightsSaid none q = Unit {0}

-- the weights a and b of each variable: "Without G the weights are 1 and 0"
abbrev pub weights_of : Given → Parameters → List (ℕ × ℕ)
weights_of given q = elim given.weights [ some v ↦ pairs v | none ↦ replicate q.n (1, 0) ]

-- "A coefficient is 1 to p − 1", "component 1..s", "A monomial is eight exponents and a component; exponents past n are zero", "exponent 0 to 255"
pub record WellFormedTerm (lim : Limits) (q : Parameters) (t : Term) : Type 0 where
  pub coefficient_from : 1 ≤ t.0
  pub coefficient_below : t.0 < q.p
  pub component_from : 1 ≤ t.1.1
  pub component_to : t.1.1 ≤ q.s
  pub eight : length t.1.0 ≡ 8
  pub exponents_to : All (λ x. x ≤ lim.exponent) t.1.0
  pub past : All (λ x. x ≡ 0) (drop q.n t.1.0)

-- each term above the next one in the file's order
abbrev pub Descends : ℕ → Vector → Type 0
Descends code [] = Unit {0}
Descends code (t ∷ []) = Unit {0}
Descends code (t ∷ u ∷ v) = (compare_over code [] t.1 u.1 ≡ greater) × Descends code (u ∷ v)

pub record WellFormedElement (lim : Limits) (q : Parameters) (v : Vector) : Type 0 where
  pub filled : 1 ≤ length v
  pub terms : All (WellFormedTerm lim q) v
  pub descends : Descends q.code v

-- "r elements, 1 to 64", "2,048 T lines"
pub record WellFormed (lim : Limits) (given : Given) (q : Parameters) (f : Level) : Type 0 where
  pub parameters : WellFormedParameters lim q
  pub degrees : DegreesSaid given.degrees q
  pub weights : WeightsSaid given.weights q
  pub some_element : 1 ≤ length f
  pub few : length f ≤ lim.elements
  pub short : terms_of f ≤ lim.t_lines
  pub elements : All (WellFormedElement lim q) f

-- ## The limits

-- each number of a well-formed file is within a field, and eight exponents are enough: so it is with document 01's limits
pub record Wide (lim : Limits) : Type 0 where
  pub variables_in_eight : lim.variables ≤ 8
  pub code_in_field : 3 ≤ lim.field
  pub prime_in_field : lim.prime_bound ≤ lim.field
  pub variables_in_field : lim.variables ≤ lim.field
  pub components_in_field : lim.components ≤ lim.field
  pub elements_in_field : lim.elements ≤ lim.field
  pub exponent_in_field : lim.exponent ≤ lim.field
  pub t_lines_in_field : lim.t_lines ≤ lim.field
  pub degree_in_field : most_degree ≤ lim.field
  pub weight_in_field : most_weight ≤ lim.field

-- .. and there is a well-formed file at all
pub record Roomy (lim : Limits) : Type 0 where
  pub a_prime : 2 ≤ lim.prime_bound
  pub a_variable : 1 ≤ lim.variables
  pub a_component : 1 ≤ lim.components
  pub an_element : 1 ≤ lim.elements
  pub a_term : 1 ≤ lim.t_lines

-- ## The whole file, and where another one leaves the well-formed ones

-- a well-formed file of allowed length, with what it says
pub record WellFormedFile (lim : Limits) (bytes : Bytes) (q : Parameters) (f : Level) : Type 0 where
  pub given : Given
  pub text : bytes ≡ file_of given q f
  pub well : WellFormed lim given q f
  pub fits : length bytes ≤ lim.file

-- "The first bad line counts": with the lines before it some well-formed file begins, with it and these none; "an absent line has the next number"
pub record FirstBadLine (lim : Limits) (bytes : Bytes) (place : ℕ) : Type 0 where
  pub before : ℕ
  pub next : place ≡ suc before
  pub inside : before ≤ length (lines bytes)
  pub given : Given
  pub parameters : Parameters
  pub elements : Level
  pub well : WellFormed lim given parameters elements
  pub alike : take before (lines (file_of given parameters elements)) ≡ take before (lines bytes)
  pub bad : (given : Given) (q : Parameters) (f : Level)
      → WellFormed lim given q f → ¬ (take place (lines (file_of given q f)) ≡ take place (lines bytes))
