-- Request A9: what is claimed of a log of picks, of the L line before it, and of the program.
use Rattle.std.specs.Prelude.{◌≡◌, ◌↔◌, ◌⊎◌, true, false, List, [], ◌∷◌, ◌++◌, ℕ, zero, suc, ◌+◌, ◌-◌, ◌<◌, ◌≤◌, T, length, get_or}
use Rattle.std.proofs.Math.Option.{Option, none, some}
use Rattle.definitions.specs.Limits.{Limits}
use Rattle.definitions.specs.Lists.{map, between}
use Rattle.definitions.specs.Monomial.{Monomial, Vector, Level, no_term, vector_of, leading_monomials}
use Rattle.definitions.specs.Frame.{frame}
use Rattle.definitions.specs.Result.{Result, done, refused, unfinished, ◌>>=◌}
use Rattle.definitions.specs.Stage.{Stage, highest, stage_over}
use Rattle.definitions.specs.Run.{Run, Strategy, Step, on, end, start, run, runs, hybrid_strategy, by_pick}
use Rattle.definitions.specs.Lifting.{Lifting, by_hybrid}
use Rattle.definitions.specs.Problem.{Bytes, Line, Parameters, shaped, problem}
use Rattle.definitions.specs.State.{State, sound?}
use Rattle.definitions.specs.Calls.{lift}
use Rattle.definitions.specs.Reckoning.{reckoned_vector}
use Rattle.definitions.specs.Sheet.{s_lines, x_lines, variables_of}
use Rattle.definitions.specs.After.{file_of, lines_after, first_after}
use Rattle.definitions.specs.Replay.{letter_L, letter_P, pick_of, place_from, p_lines, lifted_below, replayed_vector, l_first, replay}
use Rattle.definitions.specs.Places.{most_picks}
use Rattle.files.specs.Files.{WellFormedFile}
use Rattle.demands.specs.Notions.{GröbnerBasis, Member}
use Rattle.demands.specs.Demands.{RefusedReading}
use Rattle.demands.specs.Exact.{Reckons}
use Rattle.demands.specs.Picks.{Picks}

-- the numbers that P lines say
abbrev pub Says : ℕ → ℕ → List (List ℕ) → List Line → Type 0
Says field n [] [] = Unit {0}
Says field n [] (l ∷ ls) = ⊥
Says field n (v ∷ vs) [] = ⊥
Says field n (v ∷ vs) (l ∷ ls) = (shaped field letter_P (suc n) l ≡ some v) × Says field n vs ls

-- each of these picks is then a term of the working value, and the steps at them lead from r to r'
abbrev pub Carries : Stage → Run → List Monomial → Run → Type 0
Carries S r [] r' = r ≡ r'
Carries S r (m ∷ ms) r' =
    (i : ℕ) × (place_from m 0 r.value ≡ some i) × ((r'' : Run) × (by_pick S (hybrid_strategy S 2) r (some i) ≡ done (on r'')) × Carries S r'' ms r')

-- "each pick is then a term of the working value and the value is zero after the last"
abbrev pub Taken : Stage → Run → List Monomial → Type 0
Taken S r [] = r.value ≡ []
Taken S r (m ∷ ms) =
    (i : ℕ) × (place_from m 0 r.value ≡ some i) × ((r' : Run) × (by_pick S (hybrid_strategy S 2) r (some i) ≡ done (on r')) × Taken S r' ms)

-- ## The log that a run of our own writes

abbrev pub picks_after : (Run → List Monomial) → Result Step → List Monomial
picks_after go (done (on r)) = go r
picks_after go (done (end v)) = []
picks_after go (refused number place value) = []
picks_after go unfinished = []

-- the monomial at the place picked, then those picked later
abbrev pub picks_from : Stage → Strategy → (Run → List Monomial) → Run → Option ℕ → List Monomial
picks_from S W go r none = []
picks_from S W go r (some i) = (get_or r.value i no_term).1 ∷ picks_after go (by_pick S W r (some i))

-- the picks of at most n steps
abbrev pub picks_of : Stage → Strategy → ℕ → Run → List Monomial
picks_of S W zero r = []
picks_of S W (suc n) r = picks_from S W (λ r'. picks_of S W n r') r (W.pick r.value)

-- ## What is claimed

-- of the P lines behind an L line, over levels that are sound, at most so many; place is the first one's
pub record LogRight (lim : Limits) (q : Parameters) (f : Level) (below : List Level) (k place most : ℕ) : Type 0 where
  -- "a log is taken exactly if each pick is then a term of the working value and the value is zero after the last": of lines of P's shape
  pub exactly : (r : Run) (ls : List Line) (vs : List (List ℕ)) → Says lim.field q.n vs ls → length ls ≤ most
      → ((w : Vector) × (p_lines most (stage_over lim q.p q.code (f ∷ below)) lim.field q.n k place 0 r ls ≡ done w))
      ↔ Taken (stage_over lim q.p q.code (f ∷ below)) r (map (pick_of q.n) vs)
  -- "The vector it prints in S lines equals the plain reckoning's, whoever wrote the log"
  pub reckoned : (m : Monomial) (r : Run) (ls : List Line) (w : Vector) → T (sound? lim (record { parameters = q; levels = f ∷ below }))
      → Member m (frame (lim.numbering q.code) (leading_monomials f))
      → start (stage_over lim q.p q.code (f ∷ below)) (hybrid_strategy (stage_over lim q.p q.code (f ∷ below)) 2) m ≡ done r
      → p_lines most (stage_over lim q.p q.code (f ∷ below)) lim.field q.n k place 0 r ls ≡ done w
      → (bound : ℕ) × (reckoned_vector bound q.p q.code (f ∷ below) m ≡ some w)
  -- two logs of one frame term give the same vector
  pub agree : (m : Monomial) (r : Run) (ls ls' : List Line) (w w' : Vector) → T (sound? lim (record { parameters = q; levels = f ∷ below }))
      → Member m (frame (lim.numbering q.code) (leading_monomials f))
      → start (stage_over lim q.p q.code (f ∷ below)) (hybrid_strategy (stage_over lim q.p q.code (f ∷ below)) 2) m ≡ done r
      → p_lines most (stage_over lim q.p q.code (f ∷ below)) lim.field q.n k place 0 r ls ≡ done w
      → p_lines most (stage_over lim q.p q.code (f ∷ below)) lim.field q.n k place 0 r ls' ≡ done w' → w ≡ w'
  -- the log of a run of our own, by whatever picks, pick codes 1, 2 and 3 among them, is taken and gives that run's vector
  pub own_logs : (W : Strategy) → Picks W → W.drops ≡ true → W.stops ≡ false → (n : ℕ) (m : Monomial) (r : Run) (ls : List Line) (vs : List (List ℕ))
      (w : Vector)
      → T (sound? lim (record { parameters = q; levels = f ∷ below })) → Member m (frame (lim.numbering q.code) (leading_monomials f))
      → start (stage_over lim q.p q.code (f ∷ below)) W m ≡ done r → run (stage_over lim q.p q.code (f ∷ below)) W n m ≡ done w
      → Says lim.field q.n vs ls → length ls ≤ most
      → map (pick_of q.n) vs ≡ picks_of (stage_over lim q.p q.code (f ∷ below)) W n r
      → p_lines most (stage_over lim q.p q.code (f ∷ below)) lim.field q.n k place 0 r ls ≡ done w
  -- so are those of pick codes 1, 2 and 3
  pub codes : (code n : ℕ) (m : Monomial) (r : Run) (ls : List Line) (vs : List (List ℕ)) (w : Vector) → T (between 1 code 3)
      → T (sound? lim (record { parameters = q; levels = f ∷ below })) → Member m (frame (lim.numbering q.code) (leading_monomials f))
      → start (stage_over lim q.p q.code (f ∷ below)) (hybrid_strategy (stage_over lim q.p q.code (f ∷ below)) code) m ≡ done r
      → run (stage_over lim q.p q.code (f ∷ below)) (hybrid_strategy (stage_over lim q.p q.code (f ∷ below)) code) n m ≡ done w
      → Says lim.field q.n vs ls → length ls ≤ most
      → map (pick_of q.n) vs
      ≡ picks_of (stage_over lim q.p q.code (f ∷ below)) (hybrid_strategy (stage_over lim q.p q.code (f ∷ below)) code) n r
      → p_lines most (stage_over lim q.p q.code (f ∷ below)) lim.field q.n k place 0 r ls ≡ done w
  -- "Lines are tested in turn": after picks that were terms, the lines behind them
  pub in_turn : (r r' : Run) (before later : List Line) (vs : List (List ℕ)) → Says lim.field q.n vs before → length before ≤ most
      → Carries (stage_over lim q.p q.code (f ∷ below)) r (map (pick_of q.n) vs) r'
      → p_lines most (stage_over lim q.p q.code (f ∷ below)) lim.field q.n k place 0 r (before ++ later)
      ≡ p_lines most (stage_over lim q.p q.code (f ∷ below)) lim.field q.n k (place + length before) (length before) r' later
  -- 21: "when .. a line .. lacks its shape, or at a 4,097th P line", "21 first on each"
  pub twenty_one : (picks : ℕ) (r : Run) (line : Line) (later : List Line) → (shaped lim.field letter_P (suc q.n) line ≡ none) ⊎ (most ≤ picks)
      → p_lines most (stage_over lim q.p q.code (f ∷ below)) lim.field q.n k place picks r (line ∷ later) ≡ refused 21 place []
  -- 22: "when a pick is not in the working value .. or go on after it": of a value that is zero no pick is a term
  pub twenty_two : (picks : ℕ) (r : Run) (line : Line) (later : List Line) (v : List ℕ) → shaped lim.field letter_P (suc q.n) line ≡ some v
      → picks < most → place_from (pick_of q.n v) 0 r.value ≡ none
      → p_lines most (stage_over lim q.p q.code (f ∷ below)) lim.field q.n k place picks r (line ∷ later) ≡ refused 22 place []
  -- 22: "or lines end before zero"; the place is that of the absent line
  pub ends_early : (picks : ℕ) (r : Run) → ¬ (r.value ≡ [])
      → p_lines most (stage_over lim q.p q.code (f ∷ below)) lim.field q.n k place picks r [] ≡ refused 22 place []
  -- otherwise lines of P's shape are refused 22 at one of them or behind them, or 13 to 15 with the level as place
  pub otherwise : (number at : ℕ) (value : Vector) (r : Run) (ls : List Line) (vs : List (List ℕ)) → Says lim.field q.n vs ls → length ls ≤ most
      → p_lines most (stage_over lim q.p q.code (f ∷ below)) lim.field q.n k place 0 r ls ≡ refused number at value
      → ((number ≡ 22) × T (between place at (place + length ls))) ⊎ (T (between 13 number 15) × (at ≡ k))

-- of the L line of an accepted state, first after E, at the place; the lines behind it are later
pub record LLineRight (lim : Limits) (n most place : ℕ) (X : State) : Type 0 where
  -- 21: "when L is absent"
  pub absent : l_first lim n most place [] X ≡ refused 21 place []
  -- 21: "or a line after E, L first .., lacks its shape"
  pub misshapen : (line : Line) (later : List Line) → shaped lim.field letter_L 2 line ≡ none → l_first lim n most place (line ∷ later) X ≡ refused 21 place
      []
  -- 12: "a level outside 1..9 before any lifting", whatever lifting would meet
  pub no_level : (line : Line) (later : List Line) (v : List ℕ) → shaped lim.field letter_L 2 line ≡ some v → ¬ (T (between 1 (get_or v 0 0) lim.levels))
      → l_first lim n most place (line ∷ later) X ≡ refused 12 place []
  -- 13 to 15 of a level below end the work, with that level as place: those below it were lifted
  pub below_refused : (line : Line) (later : List Line) (v : List ℕ) (number at : ℕ) (value : Vector) → shaped lim.field letter_L 2 line ≡ some v
      → T (between 1 (get_or v 0 0) lim.levels) → lifted_below lim n (get_or v 0 0 - 1) 1 X ≡ refused number at value
      → (l_first lim n most place (line ∷ later) X ≡ refused number at []) × T (between 13 number 15) × T (between 1 at (get_or v 0 0 - 1))
      × ((Y : State) × (lifted_below lim n (at - 1) 1 X ≡ done Y) × (lift lim n Y at (by_hybrid 2 lim.working) ≡ refused number at []))
  -- 15: the frame of the level itself, "before any .. lifting" of it
  pub frame_refused : (line : Line) (later : List Line) (v : List ℕ) (Y : State) → shaped lim.field letter_L 2 line ≡ some v
      → T (between 1 (get_or v 0 0) lim.levels) → lifted_below lim n (get_or v 0 0 - 1) 1 X ≡ done Y
      → lim.vectors < length (frame (lim.numbering Y.parameters.code) (leading_monomials (highest Y.levels)))
      → l_first lim n most place (line ∷ later) X ≡ refused 15 (get_or v 0 0) []
  -- 12: "vector number outside 1..count", "12's place being the L line"
  pub no_vector : (line : Line) (later : List Line) (v : List ℕ) (Y : State) → shaped lim.field letter_L 2 line ≡ some v
      → T (between 1 (get_or v 0 0) lim.levels) → lifted_below lim n (get_or v 0 0 - 1) 1 X ≡ done Y
      → length (frame (lim.numbering Y.parameters.code) (leading_monomials (highest Y.levels))) ≤ lim.vectors
      → ¬ (T (between 1 (get_or v 1 0) (length (frame (lim.numbering Y.parameters.code) (leading_monomials (highest Y.levels))))))
      → l_first lim n most place (line ∷ later) X ≡ refused 12 place []
  -- 13 and 14 of the products of the frame term's own element, with the level as place
  pub start_refused : (line : Line) (later : List Line) (v : List ℕ) (Y : State) (number at : ℕ) (value : Vector) → shaped lim.field letter_L 2 line ≡ some v
      → T (between 1 (get_or v 0 0) lim.levels) → lifted_below lim n (get_or v 0 0 - 1) 1 X ≡ done Y
      → length (frame (lim.numbering Y.parameters.code) (leading_monomials (highest Y.levels))) ≤ lim.vectors
      → T (between 1 (get_or v 1 0) (length (frame (lim.numbering Y.parameters.code) (leading_monomials (highest Y.levels)))))
      → start (stage_over lim Y.parameters.p Y.parameters.code Y.levels)
      (hybrid_strategy (stage_over lim Y.parameters.p Y.parameters.code Y.levels) 2)
      (get_or (frame (lim.numbering Y.parameters.code) (leading_monomials (highest Y.levels))) (get_or v 1 0 - 1) no_term.1) ≡ refused number at value
      → (l_first lim n most place (line ∷ later) X ≡ refused number (get_or v 0 0) []) × T (between 13 number 14)
  -- then the lines behind it, the first at the next place: their vector "in S lines", or their refusal
  pub then_lines : (line : Line) (later : List Line) (v : List ℕ) (Y : State) (r : Run) → shaped lim.field letter_L 2 line ≡ some v
      → T (between 1 (get_or v 0 0) lim.levels) → lifted_below lim n (get_or v 0 0 - 1) 1 X ≡ done Y
      → length (frame (lim.numbering Y.parameters.code) (leading_monomials (highest Y.levels))) ≤ lim.vectors
      → T (between 1 (get_or v 1 0) (length (frame (lim.numbering Y.parameters.code) (leading_monomials (highest Y.levels)))))
      → start (stage_over lim Y.parameters.p Y.parameters.code Y.levels)
      (hybrid_strategy (stage_over lim Y.parameters.p Y.parameters.code Y.levels) 2)
      (get_or (frame (lim.numbering Y.parameters.code) (leading_monomials (highest Y.levels))) (get_or v 1 0 - 1) no_term.1) ≡ done r
      → l_first lim n most place (line ∷ later) X
      ≡ (p_lines most (stage_over lim Y.parameters.p Y.parameters.code Y.levels) lim.field Y.parameters.n (get_or v 0 0) (suc place) 0 r later
      >>= λ w. done (s_lines Y.parameters.n (get_or v 0 0) (get_or v 1 0) w))
  -- else the vector that the lines behind it give, "in S lines"
  pub printed : (line : Line) (later : List Line) (v : List ℕ) (out : Bytes) → shaped lim.field letter_L 2 line ≡ some v
      → l_first lim n most place (line ∷ later) X ≡ done out
      → (Y : State) × (lifted_below lim n (get_or v 0 0 - 1) 1 X ≡ done Y)
      × ((w : Vector) × (replayed_vector lim most place (get_or v 0 0) (get_or v 1 0) later Y ≡ done w)
      × (out ≡ s_lines Y.parameters.n (get_or v 0 0) (get_or v 1 0) w))

-- a vector that a log gave is that of a frame term of the level: the reckoning's
pub record VectorRight (lim : Limits) (v : ℕ) (Y : State) (w : Vector) : Type 0 where
  pub in_frame : T (between 1 v (length (frame (lim.numbering Y.parameters.code) (leading_monomials (highest Y.levels)))))
  pub reckons : (bound : ℕ) × (reckoned_vector bound Y.parameters.p Y.parameters.code Y.levels
      (get_or (frame (lim.numbering Y.parameters.code) (leading_monomials (highest Y.levels))) (v - 1) no_term.1) ≡ some w)

-- ## The program

-- by which numbers the lines after E are refused, and at which places; the first has place first, there are count
pub data RefusedAt (lim : Limits) (first count : ℕ) : ℕ → ℕ → Type 0 where
  -- "12's place being the L line"
  no_number : RefusedAt lim first count 12 first
  -- the level
  limit_met : {number at : ℕ} → T (between 13 number 15) → T (between 1 at lim.levels) → RefusedAt lim first count number at
  -- a line, or the first where there is none
  misshapen : {at : ℕ} → T (between first at (first + (count - 1))) → RefusedAt lim first count 21 at
  -- a line behind the first, or the absent one behind the last
  no_pick : {at : ℕ} → T (between (suc first) at (first + count)) → RefusedAt lim first count 22 at

-- what is printed for a file and the lines after it
pub data Page (lim : Limits) (bytes : Bytes) : Bytes → Type 0 where
  -- the S lines of the reckoning's vector v of level k, over the reckoning's levels 0 to k − 1 of the file
  given : {q : Parameters} {f : Level} {Y : State} {w : Vector} (n : ℕ) (line : Line) (later : List Line) (v : List ℕ)
      → WellFormedFile lim (file_of bytes) q f → GröbnerBasis q [] f → lines_after bytes ≡ line ∷ later → shaped lim.field letter_L 2 line ≡ some v
      → T (between 1 (get_or v 0 0) lim.levels)
      → lifted_below lim n (get_or v 0 0 - 1) 1 (record { parameters = q; levels = f ∷ [] }) ≡ done Y → T (sound? lim Y) → length Y.levels ≡ get_or v 0 0
      → Y.parameters ≡ q → Reckons lim (record { basis = some (q, f); h = get_or v 0 0 - 1 }) Y.levels
      → replayed_vector lim most_picks (first_after bytes) (get_or v 0 0) (get_or v 1 0) later Y ≡ done w
      → VectorRight lim (get_or v 1 0) Y w
      → Page lim bytes (s_lines Y.parameters.n (get_or v 0 0) (get_or v 1 0) w)
  -- a file that is not read or not accepted
  not_read : {number place : ℕ} {value : Vector} → RefusedReading lim (file_of bytes) number place value
      → Page lim bytes (x_lines (variables_of (problem lim (file_of bytes))) number place value)
  -- 12 to 15, 21 or 22 in their places, "tested in turn after acceptance"
  not_taken : {q : Parameters} {f : Level} (n number place : ℕ) → WellFormedFile lim (file_of bytes) q f → GröbnerBasis q [] f
      → l_first lim n most_picks (first_after bytes) (lines_after bytes) (record { parameters = q; levels = f ∷ [] }) ≡ refused number place []
      → RefusedAt lim (first_after bytes) (length (lines_after bytes)) number place → Page lim bytes (x_lines q.n number place [])

pub record A9 (lim : Limits) : Type 0 where
  pub logs : (q : Parameters) (f : Level) (below : List Level) (k place most : ℕ) → LogRight lim q f below k place most
  pub l_lines : (n most place : ℕ) (X : State) → LLineRight lim n most place X
  -- a vector that a log gave, over any sound state
  pub vectors : (most place k v : ℕ) (later : List Line) (X : State) (w : Vector) → T (sound? lim X)
      → replayed_vector lim most place k v later X ≡ done w → VectorRight lim v X w
  -- "so the agreement voted for covers such logs too": over levels 0 to k − 1 it is vector v of the level k that any way lifts
  pub ways : (n most place k v : ℕ) (way : Lifting) (later : List Line) (X Z : State) (w : Vector) → T (sound? lim X) → length X.levels ≡ k
      → lift lim n X k way ≡ done Z → replayed_vector lim most place k v later X ≡ done w → vector_of (highest Z.levels) v ≡ w
  pub pages : (n : ℕ) (bytes out : Bytes) → replay lim n bytes ≡ some out → Page lim bytes out
  -- for every input some bound suffices, and no two bounds give two pages
  pub ends : (bytes : Bytes) → (n : ℕ) × ((out : Bytes) × (replay lim n bytes ≡ some out))
  pub one_page : (n m : ℕ) (bytes a b : Bytes) → replay lim n bytes ≡ some a → replay lim m bytes ≡ some b → a ≡ b
