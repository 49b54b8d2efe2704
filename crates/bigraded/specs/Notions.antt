-- Plain notions for request A14: the generators of a column that have a bidegree, the lines that count them, files alike but for a G line.
use Rattle.std.specs.Prelude.{◌≡◌, ◌⊎◌, Bool, false, List, [], ◌∷◌, ◌++◌, ℕ, zero, suc, ◌*◌, ◌<◌, ◌≤◌, T, eqb, length}
use Rattle.definitions.specs.Limits.{Limits}
use Rattle.definitions.specs.Lists.{◌and◌, choose, those, count, map, from, sum}
use Rattle.definitions.specs.Monomial.{Term, Vector, Level, leading, vector_of}
use Rattle.definitions.specs.Problem.{Bytes, Line, Parameters, letter_G, lines}
use Rattle.definitions.specs.Degrees.{component_degree, image_over}
use Rattle.definitions.specs.Sheet.{printed}
use Rattle.definitions.specs.Calls.{Call, reading}
use Rattle.definitions.specs.Layout.{Words, Lent, read_with}
use Rattle.definitions.specs.Places.{most_weight}
use Rattle.definitions.specs.Bidegrees.{degree_weighted, Bidegree, bidegree, same_bidegree?, letter_B}
use Rattle.laws.proofs.Members.{All}
use Rattle.files.specs.Files.{first_line_of, degrees_line, behind_degrees, weights_of, WellFormedParameters, DegreesSaid, WellFormedWeights}
use Rattle.files.specs.Files.{WellFormedFile}
use Rattle.files.specs.Reasons.{Says}
use Rattle.demands.specs.Notions.{Member}
use Rattle.degrees.specs.Notions.{levels_below, begins_with_D?}
use Rattle.betti.specs.Notions.{listed_level}

-- the weights of a file: those of its G line, or 1 and 0
abbrev pub file_weights : {lim : Limits} {bytes : Bytes} {q : Parameters} {f : Level} → WellFormedFile lim bytes q f → List (ℕ × ℕ)
file_weights {q = q} w = weights_of w.given q

-- ## Generators

-- a vector's bidegree: that of its image in level 0's free module
abbrev pub bidegree_of : List (ℕ × ℕ) → List ℕ → List Level → Vector → Bidegree
bidegree_of ws d below v = bidegree ws d (image_over below (leading v))

-- "the number of generators of that column of A1 whose image has that bidegree": a component's is its own degree and 0, a vector's its image's
abbrev pub generators_at : List (ℕ × ℕ) → Parameters → List Level → ℕ → Bidegree → ℕ
generators_at ws q levels zero x = count (λ i. same_bidegree? x (component_degree q.degrees i, 0)) (from 1 q.s)
generators_at ws q levels (suc k) x =
    count (λ v. same_bidegree? x (bidegree_of ws q.degrees (levels_below levels k) v)) (listed_level levels k)

-- "those that A1 would give with weights a": how many generators of column c have the degree x, each variable having its weight
abbrev pub generators_weighted : List ℕ → Parameters → List Level → ℕ → ℕ → ℕ
generators_weighted ws q levels zero x = count (λ i. eqb (component_degree q.degrees i) x) (from 1 q.s)
generators_weighted ws q levels (suc k) x =
    count (λ v. eqb (degree_weighted ws q.degrees (image_over (levels_below levels k) (leading v))) x) (listed_level levels k)

-- ## Lines

-- what a line says
pub record Entry : Type 0 where
  pub column : ℕ
  pub first : ℕ
  pub second : ℕ
  pub many : ℕ

abbrev pub entry : ℕ → Bidegree → ℕ → Entry
entry c x n = record { column = c; first = x.0; second = x.1; many = n }

-- `B,column,a,b,count`
abbrev pub entry_line : Entry → Bytes
entry_line e = printed letter_B (e.column ∷ e.first ∷ e.second ∷ e.many ∷ [])

abbrev pub entry_lines : List Entry → Bytes
entry_lines [] = []
entry_lines (e ∷ es) = entry_line e ++ entry_lines es

-- by a, then b
abbrev pub Below : Bidegree → Bidegree → Type 0
Below x y = (x.0 < y.0) ⊎ ((x.0 ≡ y.0) × (x.1 < y.1))

-- "by column, then a, then b"
abbrev pub Earlier : Entry → Entry → Type 0
Earlier x y = (x.column < y.column) ⊎ ((x.column ≡ y.column) × Below (x.first, x.second) (y.first, y.second))

-- each is earlier than all that follow it: "ascending", and none twice
abbrev pub Ascending : List Entry → Type 0
Ascending [] = Unit {0}
Ascending (e ∷ es) = All (Earlier e) es × Ascending es

-- the sum of the counts
abbrev pub amount : List Entry → ℕ
amount es = sum (map (λ e. e.many) es)

-- .. of column c with first number a: "Summed over b"
abbrev pub summed : List Entry → ℕ → ℕ → ℕ
summed es c a = amount (those (λ e. eqb e.column c and eqb e.first a) es)

-- .. of all lines of column c
abbrev pub summed_all : List Entry → ℕ → ℕ
summed_all es c = amount (those (λ e. eqb e.column c) es)

-- ## Files alike but for a G line

abbrev pub begins_with_G? : Bytes → Bool
begins_with_G? [] = false
begins_with_G? (b ∷ bytes) = eqb b letter_G

-- the lines without the first, where that begins with G
abbrev pub behind_G : List Line → List Line
behind_G [] = []
behind_G (line ∷ later) = choose (begins_with_G? line.0) later (line ∷ later)

-- "may stand after R or, where there is one, D": a D line stays
abbrev pub behind_R : List Line → List Line
behind_R [] = []
behind_R (line ∷ later) = choose (begins_with_D? line.0) (line ∷ behind_G later) (behind_G (line ∷ later))

-- the lines without line 2, or without line 3 where line 2 begins with D, if it begins with G
abbrev pub without_G : List Line → List Line
without_G [] = []
without_G (first ∷ later) = first ∷ behind_R later

abbrev pub AlikeFiles : Bytes → Bytes → Type 0
AlikeFiles bytes bytes' = without_G (lines bytes) ≡ without_G (lines bytes')

-- both files are read
pub record BothRead (lim : Limits) (bytes bytes' : Bytes) : Type 0 where
  pub parameters : Parameters
  pub elements : Level
  pub well : WellFormedFile lim bytes parameters elements
  pub parameters' : Parameters
  pub elements' : Level
  pub well' : WellFormedFile lim bytes' parameters' elements'

-- the same call, or the reading of two files alike but for G, both of which are read
pub data AlikeCalls (lim : Limits) : Call → Call → Type 0 where
  same_call : {c : Call} → AlikeCalls lim c c
  read_alike : {long : Bool} {bytes bytes' : Bytes} → AlikeFiles bytes bytes' → BothRead lim bytes bytes'
      → AlikeCalls lim (reading long bytes) (reading long bytes')

-- the same on buffers
pub data AlikeLent (lim : Limits) : Lent → Lent → Type 0 where
  same_lent : {c : Lent} → AlikeLent lim c c
  read_lent : {work : Words} {bytes bytes' : Bytes} → AlikeFiles bytes bytes' → BothRead lim bytes bytes'
      → AlikeLent lim (read_with bytes work) (read_with bytes' work)

-- ## The line behind R, or behind R and D

-- behind a well-formed R line, and D where it is given, the line at the place is G with 2 n numbers, of which one is above 15
pub record WeightTooLarge (lim : Limits) (bytes : Bytes) (place : ℕ) : Type 0 where
  pub degrees : Bool
  pub at : place ≡ behind_degrees degrees
  pub parameters : Parameters
  pub well : WellFormedParameters lim parameters
  pub said : DegreesSaid degrees parameters
  pub tail : Bytes
  pub text : bytes ≡ first_line_of parameters ++ (degrees_line degrees parameters ++ tail)
  pub line : Line
  pub later : List Line
  pub follow : lines tail ≡ line ∷ later
  pub numbers : List ℕ
  pub says : Says lim letter_G (2 * parameters.n) line numbers
  pub large : ℕ
  pub one_of : Member large numbers
  pub above : most_weight < large

-- the line at the place, behind a well-formed G line, begins with D
pub record DBehindG (lim : Limits) (bytes : Bytes) (place : ℕ) : Type 0 where
  pub degrees : Bool
  pub weights : List ℕ
  pub at : place ≡ suc (behind_degrees degrees)
  pub parameters : Parameters
  pub well : WellFormedParameters lim parameters
  pub said : DegreesSaid degrees parameters
  pub weighed : WellFormedWeights parameters weights
  pub tail : Bytes
  pub text : bytes ≡ first_line_of parameters ++ (degrees_line degrees parameters ++ (printed letter_G weights ++ tail))
  pub line : Line
  pub later : List Line
  pub follow : lines tail ≡ line ∷ later
  pub begins : T (begins_with_D? line.0)
