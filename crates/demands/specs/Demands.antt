-- Demands 1, 2 and 3, as far as they are about the definitions: each a record, proved in proofs/.
use Rattle.std.specs.Prelude.{◌≡◌, ◌⊎◌, ◌↔◌, Bool, true, false, not, List, [], ◌∷◌, ◌++◌, ℕ, suc, ◌-◌, ◌<◌, ◌≤◌, T, leb, ltb, eqb, length, drop}
use Rattle.std.proofs.Math.Option.{Option, none, some}
use Rattle.definitions.specs.Limits.{Limits}
use Rattle.definitions.specs.Lists.{◌and◌, every, empty?, between}
use Rattle.definitions.specs.Monomial.{Monomial, Vector, Level, leading_monomials, vector_of}
use Rattle.definitions.specs.Frame.{frame}
use Rattle.definitions.specs.Result.{Result, done, refused, unfinished}
use Rattle.definitions.specs.Stage.{highest, stage_over}
use Rattle.definitions.specs.Run.{Strategy}
use Rattle.definitions.specs.Lifting.{Lifting, by_hybrid}
use Rattle.definitions.specs.Problem.{Bytes, Parameters}
use Rattle.definitions.specs.State.{State, empty, up_to, sound?}
use Rattle.definitions.specs.Calls.{Call, reading, lifting, fetching, read, lift, eleven?, lifts?, fetches?}
use Rattle.definitions.specs.Reckoning.{Reckoning, nothing, reckon, reckon_all, reckoned_vector, reckoned_level}
use Rattle.definitions.specs.Sheet.{sheet, printed, letter_X, level_lines, x_lines}
use Rattle.definitions.specs.Layout.{Words, rows_of, padded, zeros, state_words, encode, meant, out_words, Way, division, lifting_by, long_enough?}
use Rattle.definitions.specs.Layout.{Read, read_call, Lift, lift_call, Fetch, fetch_call, Lent, read_with, lift_with, fetch_with, Left, lent_call, lent_calls}
use Rattle.files.specs.Files.{WellFormedFile}
use Rattle.files.specs.Answers.{RefusedRight, ReaderRight}
use Rattle.demands.specs.Notions.{GröbnerBasis, LeadingGenerated, Member}
use Rattle.demands.specs.Frames.{IsFrame}
use Rattle.demands.specs.Picks.{AllPick, run_by}
use Rattle.demands.specs.Exact.{ShowsWhy, Exact, Reckons}

-- each at most the one beside it: the numbers of a well-formed file are within a field, and there is a file of one term
abbrev pub readable : Limits → List (ℕ × ℕ)
readable lim =
    (255, lim.field) ∷ (lim.prime_bound, lim.field) ∷ (lim.components, lim.field) ∷ (lim.elements, lim.field) ∷ (lim.t_lines, lim.field)
    ∷ (2, lim.prime_bound) ∷ (1, lim.variables) ∷ (1, lim.components) ∷ (1, lim.elements) ∷ (1, lim.t_lines) ∷ []

abbrev pub readable? : Limits → Bool
readable? lim = every (λ (x : ℕ × ℕ). leb x.0 x.1) (readable lim)

-- The limits may be any with eight exponents, exponents of 8 bits, room for a vector's first term, and files that can be read: document 01's, and those
-- of later requests
abbrev pub sensible? : Limits → Bool
sensible? lim = leb lim.variables 8 and leb lim.exponent 255 and leb 1 lim.vector and readable? lim

-- "13 to 15 where the run meets them"
abbrev pub limit? : ℕ → Bool
limit? number = between 13 number 15

-- level k of levels held highest first
abbrev pub level_of : List Level → ℕ → Level
level_of levels k = highest (drop (length levels - suc k) levels)

-- 16 for a fetch
abbrev pub out_long_enough? : Limits → Words → Words → Bool
out_long_enough? lim state out = leb (state_words lim) (length state) and leb (out_words lim) (length out)

-- ## Demand 1: every file and every call has an answer, of the form that document 01 names

-- a well-formed file refused all the same, where the run ends so: "for 9 the frame term's number, for 13 to 15 .. 0 while accepting"
pub data NotAccepted (lim : Limits) (bytes : Bytes) (q : Parameters) : ℕ → ℕ → Vector → Type 0 where
  no_basis : {f : Level} {place : ℕ} {value : Vector} (bound : ℕ) → WellFormedFile lim bytes q f → read lim bound bytes ≡ refused 9 place value
      → T (between 1 place (length (frame (lim.numbering q.code) (leading_monomials f)))) → ShowsWhy lim q f value
      → NotAccepted lim bytes q 9 place value
  limit_met : {f : Level} {number : ℕ} (bound : ℕ) → WellFormedFile lim bytes q f → read lim bound bytes ≡ refused number 0 [] → T (limit? number)
      → NotAccepted lim bytes q number 0 []

-- the number, the place and the value with which reading is refused: 1 to 8, 18 or 24, at the first bad line, for its reason, or as above
pub data RefusedReading (lim : Limits) (bytes : Bytes) : ℕ → ℕ → Vector → Type 0 where
  ill_formed : {number place : ℕ} → RefusedRight lim bytes number place → RefusedReading lim bytes number place []
  not_accepted : {q : Parameters} {number place : ℕ} {value : Vector} → NotAccepted lim bytes q number place value
      → RefusedReading lim bytes number place value

-- the lines of levels 1 to h, of levels held highest first
abbrev pub printed_levels : ℕ → List Level → Bytes
printed_levels n [] = []
printed_levels n (f ∷ []) = []
printed_levels n (g ∷ f ∷ below) = printed_levels n (f ∷ below) ++ level_lines n (length (f ∷ below)) g

-- the reckoning's levels of the file, the highest first; none of those below has count 0
pub record Listed (lim : Limits) (bytes : Bytes) (q : Parameters) (g : Level) (below : List Level) : Type 0 where
  pub basis : Level
  pub well_formed : WellFormedFile lim bytes q basis
  pub reckoned : Reckons lim (record { basis = some (q, basis); h = length below }) (g ∷ below)
  pub exact : Exact lim q (g ∷ below)
  pub filled : T (every (λ f. not (empty? f)) below)

-- "until a count is 0 or level 9 is printed. A refusal prints, after finished levels, `X,number,place` and stops": with its W lines after 9
pub data SheetForm (lim : Limits) (bytes : Bytes) : Bytes → Type 0 where
  listing : {q : Parameters} {g : Level} {below : List Level} → Listed lim bytes q g below → (g ≡ []) ⊎ (length below ≡ lim.levels)
      → SheetForm lim bytes (printed_levels q.n (g ∷ below))
  cut_off : {q : Parameters} {g : Level} {below : List Level} (number bound : ℕ) → Listed lim bytes q g below → ¬ (g ≡ []) → length below < lim.levels
      → lift lim bound (record { parameters = q; levels = g ∷ below }) (suc (length below)) (by_hybrid 2 lim.working)
      ≡ refused number (suc (length below)) []
      → T (limit? number)
      → SheetForm lim bytes (printed_levels q.n (g ∷ below) ++ x_lines q.n number (suc (length below)) [])
  not_read : {number place : ℕ} → RefusedRight lim bytes number place → SheetForm lim bytes (printed letter_X (number ∷ place ∷ []))
  not_taken : {q : Parameters} {number place : ℕ} {value : Vector} → NotAccepted lim bytes q number place value
      → SheetForm lim bytes (x_lines q.n number place value)

-- Number, place and the buffers after reading: "After 1 to 9 and 13 to 15 the state is empty and each buffer lent for writing is zeroed; 9 leaves
-- in the work area the value where division stopped, descending, zeros after it."
pub data ReadForm (lim : Limits) (file : Bytes) (state work : Words) : Read → Type 0 where
  accepted_as : {q : Parameters} {f : Level} → T (long_enough? lim division state work) → WellFormedFile lim file q f
      → ReadForm lim file state work (0, 0, encode lim (length state) (record { parameters = q; levels = f ∷ [] }), zeros work)
  refused_as : {number place : ℕ} {value : Vector} → T (long_enough? lim division state work) → RefusedReading lim file number place value
      → length (rows_of value) ≤ length work → ReadForm lim file state work (number, place, zeros state, padded (length work) (rows_of value))
  too_short : T (not (long_enough? lim division state work)) → ReadForm lim file state work (16, 0, state, work)

-- .. after lifting, in whatever state: "A call that succeeds leaves zeros in the work area, the cache and the unused places of the state",
-- "Lifting a complete level again drops the levels above it", "11, 12, 16 change no buffer and no state".
pub data LiftForm (lim : Limits) (k : ℕ) (way : Way) (state work cache : Words) : Lift → Type 0 where
  lifted_as : (X : State) (g : Level) (bound : ℕ) → T (long_enough? lim way state work) → meant lim state ≡ X
      → T (not (eleven? lim X k (k - 1))) → T (lifts? lim k (lifting_by lim way work cache))
      → reckoned_level lim bound X.parameters.p X.parameters.code (up_to X (k - 1)) ≡ some g
      → T (sound? lim (record { parameters = X.parameters; levels = g ∷ up_to X (k - 1) }))
      → LiftForm lim k way state work cache
      (0, 0, encode lim (length state) (record { parameters = X.parameters; levels = g ∷ up_to X (k - 1) }), zeros work, zeros cache)
  refused_as : {number : ℕ} (bound : ℕ) → T (long_enough? lim way state work) → T (not (eleven? lim (meant lim state) k (k - 1)))
      → T (lifts? lim k (lifting_by lim way work cache)) → lift lim bound (meant lim state) k (lifting_by lim way work cache) ≡ refused number k []
      → T (limit? number)
      → LiftForm lim k way state work cache (number, k, zeros state, zeros work, zeros cache)
  no_level : T (long_enough? lim way state work) → T (eleven? lim (meant lim state) k (k - 1))
      → LiftForm lim k way state work cache (11, 0, state, work, cache)
  no_number : T (long_enough? lim way state work) → T (not (eleven? lim (meant lim state) k (k - 1))) → T (not (lifts? lim k (lifting_by lim way work cache)))
      → LiftForm lim k way state work cache (12, 0, state, work, cache)
  too_short : T (not (long_enough? lim way state work)) → LiftForm lim k way state work cache (16, 0, state, work, cache)

-- .. after fetching: "a fetched vector is followed by zeros to its buffer's end"
pub data FetchForm (lim : Limits) (k v : ℕ) (state out : Words) : Fetch → Type 0 where
  fetched_as : {w : Vector} → T (out_long_enough? lim state out) → T (not (eleven? lim (meant lim state) k k)) → T (sound? lim (meant lim state))
      → T (fetches? lim (meant lim state) k v) → w ≡ vector_of (level_of (meant lim state).levels k) v → length (rows_of w) ≤ length out
      → FetchForm lim k v state out (0, 0, padded (length out) (rows_of w))
  no_level : T (out_long_enough? lim state out) → T (eleven? lim (meant lim state) k k) → FetchForm lim k v state out (11, 0, out)
  no_number : T (out_long_enough? lim state out) → T (not (eleven? lim (meant lim state) k k)) → T (not (fetches? lim (meant lim state) k v))
      → FetchForm lim k v state out (12, 0, out)
  too_short : T (not (out_long_enough? lim state out)) → FetchForm lim k v state out (16, 0, out)

pub record Demand1 (lim : Limits) : Type 0 where
  -- for every file some bound on the steps suffices, and no two bounds give two sheets
  pub sheet_ends : (bytes : Bytes) → (n : ℕ) × ((out : Bytes) × (sheet lim n bytes ≡ some out))
  pub one_sheet : (n m : ℕ) (bytes a b : Bytes) → sheet lim n bytes ≡ some a → sheet lim m bytes ≡ some b → a ≡ b
  pub sheets : (n : ℕ) (bytes a : Bytes) → sheet lim n bytes ≡ some a → SheetForm lim bytes a
  -- .. and for every list of calls on any contents of the buffers
  pub calls_end : (state : Words) (cs : List Lent) → (n : ℕ) × ((ls : List Left) × (lent_calls lim n state cs ≡ some ls))
  pub one_answer : (n m : ℕ) (state : Words) (cs : List Lent) (a b : List Left) → lent_calls lim n state cs ≡ some a
      → lent_calls lim m state cs ≡ some b → a ≡ b
  pub reads : (n : ℕ) (file : Bytes) (state work : Words) (r : Read) → read_call lim n file state work ≡ some r → ReadForm lim file state work r
  pub lifts : (n k : ℕ) (way : Way) (state work cache : Words) (r : Lift) → lift_call lim n k way state work cache ≡ some r
      → LiftForm lim k way state work cache r
  pub fetches : (k v : ℕ) (state out : Words) → FetchForm lim k v state out (fetch_call lim k v state out)
  -- the state's buffer keeps its length
  pub lengths : (n : ℕ) (state : Words) (c : Lent) (a : Left) → lent_call lim n state c ≡ some a → length a.state ≡ length state

-- ## Demand 2: acceptance, and the frame

-- what reading a well-formed file with the parameters q and the elements f gives: accepted, a limit met, or 9 at a frame term's number
pub data ReadRight (lim : Limits) (q : Parameters) (f : Level) : Result State → Type 0 where
  accepts : GröbnerBasis q [] f → ReadRight lim q f (done (record { parameters = q; levels = f ∷ [] }))
  limited : {number : ℕ} → T (limit? number) → ReadRight lim q f (refused number 0 [])
  stopped : {place : ℕ} {value : Vector} → T (between 1 place (length (frame (lim.numbering q.code) (leading_monomials f))))
      → ShowsWhy lim q f value
      → ReadRight lim q f (refused 9 place value)
  open_yet : ReadRight lim q f unfinished

abbrev pub accepted? : Result State → Bool
accepted? (done X) = true
accepted? (refused number place value) = false
accepted? unfinished = false

-- the bound sufficed, and no limit was met
abbrev pub decided? : Result State → Bool
decided? (done X) = true
decided? (refused number place value) = eqb number 9
decided? unfinished = false

pub record Demand2 (lim : Limits) : Type 0 where
  -- each file is well-formed and read as the one thing that it says, or refused for its reason
  pub files : ReaderRight lim
  pub reading : (n : ℕ) (bytes : Bytes) (q : Parameters) (f : Level) → WellFormedFile lim bytes q f → ReadRight lim q f (read lim n bytes)
  -- accepted exactly if a Gröbner basis
  pub exactly : (n : ℕ) (bytes : Bytes) (q : Parameters) (f : Level) → WellFormedFile lim bytes q f → T (decided? (read lim n bytes))
      → T (accepted? (read lim n bytes)) ↔ GröbnerBasis q [] f
  -- what 9 shows is no Gröbner basis
  pub shows : (q : Parameters) (f : Level) (value : Vector) → ShowsWhy lim q f value → GröbnerBasis q [] f → ⊥
  -- a well-formed file is a sound state with level 0 alone
  pub well_formed : (bytes : Bytes) (q : Parameters) (f : Level) → WellFormedFile lim bytes q f
      → T (sound? lim (record { parameters = q; levels = f ∷ [] }))
  -- document 01's Gröbner bases are those whose leading monomials generate the leading module, on every level of a sound state
  pub generated : (q : Parameters) (f : Level) (below : List Level) → T (sound? lim (record { parameters = q; levels = f ∷ below }))
      → GröbnerBasis q below f ↔ LeadingGenerated q below f
  -- a file that is not well-formed is refused for its reason
  pub ill_formed : (n : ℕ) (bytes : Bytes) (number place : ℕ) → RefusedRight lim bytes number place → read lim n bytes ≡ refused number place []
  -- the frame of each level of a sound state, in each order that numbers it, is the minimal one, and the only one
  pub framed : (q : Parameters) (f : Level) (below : List Level) → T (sound? lim (record { parameters = q; levels = f ∷ below })) → (code : ℕ)
      → IsFrame code f (frame code (leading_monomials f)) × ((ts : List Monomial) → IsFrame code f ts → ts ≡ frame code (leading_monomials f))

-- ## Demand 3: a whole list of calls

-- the call that the reckoning is fed
abbrev pub as_call : Limits → Lent → Call
as_call lim (read_with file work) = reading true file
as_call lim (lift_with k way work cache) = lifting true k (lifting_by lim way work cache)
as_call lim (fetch_with k v out) = fetching true k v

-- ".. and, of the answers, whether and by which number they refuse"
abbrev pub numbered : Limits → List Lent → List Left → List (Call × ℕ)
numbered lim [] ls = []
numbered lim (c ∷ cs) [] = []
numbered lim (c ∷ cs) (a ∷ ls) = (as_call lim c, a.number) ∷ numbered lim cs ls

-- the state's words after the calls
abbrev pub left_by : Words → List Left → Words
left_by state [] = state
left_by state (a ∷ ls) = left_by a.state ls

-- "from the empty state, or from any contents if a reading not refused with 16 comes first"
abbrev pub Reads : Lent → Left → Type 0
Reads (read_with file work) a = ¬ (a.number ≡ 16)
Reads (lift_with k way work cache) a = ⊥
Reads (fetch_with k v out) a = ⊥

abbrev pub FirstReads : List Lent → List Left → Type 0
FirstReads [] ls = ⊥
FirstReads (c ∷ cs) [] = ⊥
FirstReads (c ∷ cs) (a ∷ ls) = Reads c a

abbrev pub Starts : Words → List Lent → List Left → Type 0
Starts state cs ls = (state ≡ zeros state) ⊎ FirstReads cs ls

-- "fetching gives its vector v of level k": of the moment of the call, where k ≤ h and v is a number of level k's
abbrev pub FetchRight : Limits → Reckoning → Lent → Left → Type 0
FetchRight lim R (read_with file work) a = Unit {0}
FetchRight lim R (lift_with k way work cache) a = Unit {0}
FetchRight lim R (fetch_with k v out) a =
    a.number ≡ 0 → (levels : List Level) × Reckons lim R levels × T (ltb k (length levels) and between 1 v (length (level_of levels k)))
    × (a.out ≡ padded (length out) (rows_of (vector_of (level_of levels k) v)))

abbrev pub FetchesRight : Limits → Reckoning → List Lent → List Left → Type 0
FetchesRight lim R [] ls = Unit {0}
FetchesRight lim R (c ∷ cs) [] = Unit {0}
FetchesRight lim R (c ∷ cs) (a ∷ ls) = FetchRight lim R c a × FetchesRight lim (reckon lim R (as_call lim c) a.number) cs ls

-- the state holds the basis' parameters; "without a basis, as at the start, none"
abbrev pub OfBasis : State → Option (Parameters × Level) → Type 0
OfBasis X none = X ≡ empty
OfBasis X (some f) = X.parameters ≡ f.0

-- what a list of calls leaves in the state's words: R is the reckoning after the list
pub record Leaves (lim : Limits) (R : Reckoning) (words : Words) : Type 0 where
  -- "After the list exactly levels 0 to h are complete and hold its vectors"
  pub levels : Reckons lim R (meant lim words).levels
  pub parameters : OfBasis (meant lim words) R.basis
  -- the empty state or a sound one, and zeros in all unused places
  pub sound : (meant lim words ≡ empty) ⊎ T (sound? lim (meant lim words))
  pub spelled : state_words lim ≤ length words → words ≡ encode lim (length words) (meant lim words)
  -- what the levels are in the plain notions
  pub exact : Exact lim (meant lim words).parameters (meant lim words).levels

pub record Demand3 (lim : Limits) : Type 0 where
  pub calls : (n : ℕ) (state : Words) (cs : List Lent) (ls : List Left) → lent_calls lim n state cs ≡ some ls → Starts state cs ls
      → Leaves lim (reckon_all lim nothing (numbered lim cs ls)) (left_by state ls) × FetchesRight lim nothing cs ls
  -- the depth bound of the reckoning changes nothing
  pub one_reckoning : (R : Reckoning) (f g : List Level) → Reckons lim R f → Reckons lim R g → f ≡ g
  -- "Whichever term each hybrid step picks, codes or not, a run that comes to zero gives its vector": in every sound state, accepted or not
  pub any_picks : (q : Parameters) (f : Level) (below : List Level) (W : Strategy) (Ws : List Strategy) (m : Monomial) (v : Vector)
      → T (sound? lim (record { parameters = q; levels = f ∷ below })) → Member m (frame (lim.numbering q.code) (leading_monomials f)) → AllPick Ws
      → run_by (stage_over lim q.p q.code (f ∷ below)) W Ws m ≡ done v
      → (bound : ℕ) × (reckoned_vector bound q.p q.code (f ∷ below) m ≡ some v)
  -- division, hybrid by every code, and the tree with every cache leave the same wherever they are not refused, in every sound state
  pub ways_agree : (n m : ℕ) (X : State) (k : ℕ) (way way' : Lifting) (Y Y' : State) → T (sound? lim X)
      → lift lim n X k way ≡ done Y → lift lim m X k way' ≡ done Y' → Y ≡ Y'
