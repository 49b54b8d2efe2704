-- "Which idle engines are shut out?": the engines of document 01's list, and what it is to print, or to leave in the buffers, what the definitions say.
use Rattle.std.specs.Prelude.{◌≡◌, List, [], ◌∷◌, ◌++◌, ℕ, ◌-◌, ◌<◌, length, get_or}
use Rattle.std.proofs.Math.Option.{some}
use Rattle.definitions.specs.Limits.{Limits}
use Rattle.definitions.specs.Monomial.{Vector, Level}
use Rattle.definitions.specs.Result.{done}
use Rattle.definitions.specs.Stage.{highest}
use Rattle.definitions.specs.Lifting.{by_hybrid, by_tree}
use Rattle.definitions.specs.Problem.{Bytes, Parameters, problem}
use Rattle.definitions.specs.State.{State}
use Rattle.definitions.specs.Calls.{Reply, settled, read, lift}
use Rattle.definitions.specs.Sheet.{sheet, printed, letter_Z, vector_lines, level_lines, x_lines}
use Rattle.definitions.specs.Layout.{Words, Read, read_call}
use Rattle.demands.specs.Exact.{LevelRight}

-- what an engine prints for a file
abbrev pub Engine : Type 0
Engine = Bytes → Bytes

-- it prints the definitions' sheet
abbrev pub Right : Limits → Engine → Type 0
Right lim E = (n : ℕ) (file out : Bytes) → sheet lim n file ≡ some out → E file ≡ out

-- "Empty levels always (`Z,1,0`)"
abbrev pub EmptyAlways : Limits → Engine → Type 0
EmptyAlways lim E = (file : Bytes) (f : Parameters × Level) → problem lim file ≡ done f → E file ≡ printed letter_Z (1 ∷ 0 ∷ [])

-- "Level 1 right, then `Z,2,0` regardless"
abbrev pub Level2Empty : Limits → Engine → Type 0
Level2Empty lim E = (n : ℕ) (file : Bytes) (X Y : State) → read lim n file ≡ done X → lift lim n X 1 (by_hybrid 2 lim.working) ≡ done Y
    → E file ≡ level_lines X.parameters.n 1 (highest Y.levels) ++ printed letter_Z (2 ∷ 0 ∷ [])

-- "Refusing all files"
abbrev pub RefusesAll : Engine → Type 0
RefusesAll E = (file : Bytes) → (n number place : ℕ) × ((value : Vector) × (E file ≡ x_lines n number place value))

-- "A Z count invented": whatever the file
abbrev pub CountInvented : Limits → ℕ → Engine → Type 0
CountInvented lim count E = (n : ℕ) (file : Bytes) (X Y : State) → read lim n file ≡ done X → lift lim n X 1 (by_hybrid 2 lim.working) ≡ done Y
    → (later : Bytes) × (E file ≡ vector_lines X.parameters.n 1 1 (highest Y.levels) ++ printed letter_Z (1 ∷ count ∷ []) ++ later)

-- document 01's limits on what 14 counts, changed: the terms of a working value, of a vector, of the tree's area
abbrev pub with_room : Limits → ℕ → ℕ → ℕ → Limits
with_room lim working vector tree = record {
  prime_bound = lim.prime_bound;
  variables = lim.variables;
  components = lim.components;
  elements = lim.elements;
  exponent = lim.exponent;
  t_lines = lim.t_lines;
  file = lim.file;
  field = lim.field;
  vectors = lim.vectors;
  level_terms = lim.level_terms;
  levels = lim.levels;
  working = working;
  vector = vector;
  tree = tree;
  numbering = lim.numbering;
}

-- "14 before a 513th term exists": a term too early in a working value
abbrev pub Early14 : Limits → Engine → Type 0
Early14 lim E = Right (with_room lim (lim.working - 1) lim.vector lim.tree) E

-- .. in a vector
abbrev pub Early14Vector : Limits → Engine → Type 0
Early14Vector lim E = Right (with_room lim lim.working (lim.vector - 1) lim.tree) E

-- what lifting level k of a state by the tree answers, with a cache of so many terms
abbrev pub TreeEngine : Type 0
TreeEngine = State → ℕ → ℕ → Reply

abbrev pub LiftsRight : Limits → TreeEngine → Type 0
LiftsRight lim E = (n : ℕ) (X : State) (k room : ℕ) (a : Reply) → settled (lift lim n X k (by_tree room)) ≡ some a → E X k room ≡ a

-- .. in the unfinished subtrees together
abbrev pub Early14Tree : Limits → TreeEngine → Type 0
Early14Tree lim E = LiftsRight (with_room lim lim.working lim.vector (lim.tree - 1)) E

-- what reading leaves
abbrev pub ReadsRight : Limits → (Bytes → Words → Words → Read) → Type 0
ReadsRight lim R = (n : ℕ) (file : Bytes) (state work : Words) (r : Read) → read_call lim n file state work ≡ some r → R file state work ≡ r

-- "Buffers untouched"
abbrev pub Untouched : (Bytes → Words → Words → Read) → Type 0
Untouched R = (file : Bytes) (state work : Words) → (R file state work).2 ≡ state

-- "Three ways that agree on zero": a level with a vector that is zero
pub record ZeroVector (f : Level) : Type 0 where
  pub k : ℕ
  pub inside : k < length f
  pub zero : get_or f k [] ≡ []

pub record IdleShutOut (lim working vector tree : Limits) : Type 0 where
  pub empty_always : (E : Engine) → Right lim E → EmptyAlways lim E → ⊥
  pub level_2_empty : (E : Engine) → Right lim E → Level2Empty lim E → ⊥
  pub refuses_all : (E : Engine) → Right lim E → RefusesAll E → ⊥
  pub count_invented : (E : Engine) (count : ℕ) → Right lim E → CountInvented lim count E → ⊥
  pub untouched : (R : Bytes → Words → Words → Read) → ReadsRight lim R → Untouched R → ⊥
  -- with limits that are small, so that the term can be seen
  pub early_14 : (E : Engine) → Right working E → Early14 working E → ⊥
  pub early_14_vector : (E : Engine) → Right vector E → Early14Vector vector E → ⊥
  pub early_14_tree : (E : TreeEngine) → LiftsRight tree E → Early14Tree tree E → ⊥
  -- by its frame term in front
  pub zero_vectors : (q : Parameters) (code : ℕ) (below : List Level) (f : Level) → LevelRight q code below f → ZeroVector f → ⊥
