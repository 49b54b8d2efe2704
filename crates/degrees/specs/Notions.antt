-- Plain notions for request A5: the degree of a vector of a level, the word that holds it, and files, states and replies alike but for degrees.
use Rattle.std.specs.Prelude.{◌≡◌, Bool, false, List, [], ◌∷◌, ◌++◌, ℕ, suc, ◌+◌, ◌-◌, ◌<◌, ◌≤◌, eqb, length, get_or, drop}
use Rattle.std.proofs.Math.Option.{Option, none, some}
use Rattle.definitions.specs.Limits.{Limits}
use Rattle.definitions.specs.Lists.{choose}
use Rattle.definitions.specs.Monomial.{Vector, Level, vector_of}
use Rattle.definitions.specs.Result.{Result, done, refused, unfinished}
use Rattle.definitions.specs.Problem.{Bytes, Line, Parameters, letter_D, lines}
use Rattle.definitions.specs.State.{State, degrees_sound?}
use Rattle.definitions.specs.Degrees.{degree_of}
use Rattle.definitions.specs.Calls.{Call, reading, Reply}
use Rattle.definitions.specs.Layout.{Words, carried_place, meant, Lent, read_with, Left}
use Rattle.definitions.specs.Places.{most_degree}
use Rattle.files.specs.Files.{first_line_of, WellFormedParameters, WellFormedFile}
use Rattle.files.specs.Reasons.{Says}
use Rattle.demands.specs.Notions.{Member}
use Rattle.demands.specs.Demands.{level_of}

-- ## Degrees

-- the levels below level k, of levels held highest first
abbrev pub levels_below : List Level → ℕ → List Level
levels_below levels k = drop (suc (length levels - suc k)) levels

-- "the degree of its leading term's image", of vector v of level k: its image in level 0's free module, the component's degree included
abbrev pub degree_at : List ℕ → List Level → ℕ → ℕ → ℕ
degree_at d levels k v = degree_of d (levels_below levels k) (vector_of (level_of levels k) v)

-- there is a vector v of level k
pub record HasVector (levels : List Level) (k v : ℕ) : Type 0 where
  pub level : k < length levels
  pub from : 1 ≤ v
  pub to : v ≤ length (level_of levels k)

-- the word that holds its degree
abbrev pub carried_word : Limits → Words → ℕ → ℕ → ℕ
carried_word lim words k v = get_or words (carried_place lim k + (v - 1)) 0

-- ## Files alike but for a D line

abbrev pub begins_with_D? : Bytes → Bool
begins_with_D? [] = false
begins_with_D? (b ∷ bytes) = eqb b letter_D

abbrev pub behind_D : List Line → List Line
behind_D [] = []
behind_D (line ∷ later) = choose (begins_with_D? line.0) later (line ∷ later)

-- the lines without line 2, where that begins with D
abbrev pub without_D : List Line → List Line
without_D [] = []
without_D (first ∷ later) = first ∷ behind_D later

abbrev pub AlikeFiles : Bytes → Bytes → Type 0
AlikeFiles bytes bytes' = without_D (lines bytes) ≡ without_D (lines bytes')

-- ## What differs in degrees alone

abbrev pub without_degrees : Parameters → Parameters
without_degrees q = record { p = q.p; n = q.n; code = q.code; s = q.s; degrees = [] }

-- the same levels; the same parameters but for the degrees, which are in their ranges in both or in neither
pub record AlikeStates (X Y : State) : Type 0 where
  pub parameters : without_degrees X.parameters ≡ without_degrees Y.parameters
  pub ranges : degrees_sound? X.parameters ≡ degrees_sound? Y.parameters
  pub levels : X.levels ≡ Y.levels

-- accepted or refused alike: the same number, place and value
pub data AlikeResults : Result State → Result State → Type 0 where
  both_done : {X Y : State} → AlikeStates X Y → AlikeResults (done X) (done Y)
  both_refused : {number place : ℕ} {value : Vector} → AlikeResults (refused number place value) (refused number place value)
  both_open : AlikeResults unfinished unfinished

-- the same number and place, the same value in the work area, the same vector fetched
pub record AlikeReplies (a b : Reply) : Type 0 where
  pub number : a.number ≡ b.number
  pub place : a.place ≡ b.place
  pub work : a.work ≡ b.work
  pub fetched : a.fetched ≡ b.fetched
  pub state : AlikeStates a.state b.state

-- of an optional list, one by one
pub data AllAlike {A : Type 0} (R : A → A → Type 0) : List A → List A → Type 0 where
  no_more : AllAlike R [] []
  one_more : {a b : A} {l m : List A} → R a b → AllAlike R l m → AllAlike R (a ∷ l) (b ∷ m)

pub data Both {A : Type 0} (R : A → A → Type 0) : Option A → Option A → Type 0 where
  both_none : Both R none none
  both_some : {a b : A} → R a b → Both R (some a) (some b)

-- the same call, or the reading of two files alike but for D, "if both files are read"
pub data AlikeCalls (lim : Limits) : Call → Call → Type 0 where
  same_call : {c : Call} → AlikeCalls lim c c
  read_alike : {long : Bool} {bytes bytes' : Bytes} {q q' : Parameters} {f f' : Level} → AlikeFiles bytes bytes'
      → WellFormedFile lim bytes q f → WellFormedFile lim bytes' q' f' → AlikeCalls lim (reading long bytes) (reading long bytes')

-- the same on buffers
pub data AlikeLent (lim : Limits) : Lent → Lent → Type 0 where
  same_lent : {c : Lent} → AlikeLent lim c c
  read_lent : {work : Words} {bytes bytes' : Bytes} {q q' : Parameters} {f f' : Level} → AlikeFiles bytes bytes'
      → WellFormedFile lim bytes q f → WellFormedFile lim bytes' q' f' → AlikeLent lim (read_with bytes work) (read_with bytes' work)

-- the same number and place, the same words fetched; states' words that mean the same but for degrees
pub record AlikeLeft (lim : Limits) (a b : Left) : Type 0 where
  pub number : a.number ≡ b.number
  pub place : a.place ≡ b.place
  pub out : a.out ≡ b.out
  pub size : length a.state ≡ length b.state
  pub state : AlikeStates (meant lim a.state) (meant lim b.state)

-- ## Line 2

-- line 1 is a well-formed R line, and line 2 is D with s numbers, of which one is above 255
pub record DegreeTooLarge (lim : Limits) (bytes : Bytes) : Type 0 where
  pub parameters : Parameters
  pub well : WellFormedParameters lim parameters
  pub tail : Bytes
  pub text : bytes ≡ first_line_of parameters ++ tail
  pub second : Line
  pub later : List Line
  pub follow : lines tail ≡ second ∷ later
  pub numbers : List ℕ
  pub says : Says lim letter_D parameters.s second numbers
  pub large : ℕ
  pub one_of : Member large numbers
  pub above : most_degree < large
