-- "A9. Picks recorded in another session."
use Rattle.std.specs.Prelude.{Bool, true, false, List, [], ◌∷◌, ◌++◌, ℕ, zero, suc, ◌-◌, ltb, length, get_or, take, replicate}
use Rattle.std.proofs.Math.Option.{Option, none, some}
use Rattle.definitions.specs.Limits.{Limits}
use Rattle.definitions.specs.Lists.{between, empty?}
use Rattle.definitions.specs.Monomial.{Monomial, Vector, no_term, same_monomial?}
use Rattle.definitions.specs.Result.{Result, done, refused, unless_refused, at_level, ◌>>=◌}
use Rattle.definitions.specs.Vectors.{descending}
use Rattle.definitions.specs.Stage.{Stage, highest, stage_over}
use Rattle.definitions.specs.Run.{Run, Step, on, end, start, hybrid_strategy, by_pick}
use Rattle.definitions.specs.Lifting.{by_hybrid, limited_frame}
use Rattle.definitions.specs.Problem.{Bytes, Line, shaped}
use Rattle.definitions.specs.State.{State}
use Rattle.definitions.specs.Calls.{lift}
use Rattle.definitions.specs.Sheet.{s_lines}
use Rattle.definitions.specs.After.{file_of, lines_after, first_after}
use Rattle.definitions.specs.Program.{program}
use Rattle.definitions.specs.Places.{most_picks}

-- ## A pick

abbrev pub letter_P : ℕ
letter_P = 80

-- the monomial of a P line, by its numbers: "`P,e1,..,en,component`"
abbrev pub pick_of : ℕ → List ℕ → Monomial
pick_of n v = (take n v ++ replicate (8 - n) 0, get_or v n 0)

-- the place of the term with this monomial; the first term has place i
abbrev pub place_from : Monomial → ℕ → Vector → Option ℕ
place_from m i [] = none
place_from m i (t ∷ v) = elim (same_monomial? m t.1) [ true ↦ some i | false ↦ place_from m (suc i) v ]

-- a step at a term goes on
abbrev pub run_after : Step → Run
run_after (on r) = r
run_after (end v) = record { value = []; vector = v }

-- "replays them in place of a pick code": a hybrid step of level k at the place given; which pick code the strategy names does not matter.
-- 22: "when a pick is not in the working value"
abbrev pub replayed : Stage → ℕ → ℕ → Run → Option ℕ → Result Run
replayed S k place r none = refused 22 place []
replayed S k place r (some i) = at_level k (by_pick S (hybrid_strategy S 2) r (some i)) >>= λ s. done (run_after s)

-- ## The P lines

-- 21: "when .. a line after E, L first and then P, lacks its shape, or at a 4,097th P line"; "21 first on each". The line's numbers, after so many picks
abbrev pub p_line : ℕ → Stage → ℕ → ℕ → ℕ → ℕ → Run → Option (List ℕ) → Result Run
p_line most S n k place picks r none = refused 21 place []
p_line most S n k place picks r (some v) =
    unless_refused (ltb picks most) 21 place >>= λ u. replayed S k place r (place_from (pick_of n v) 0 r.value)

-- 22: ".. or lines end before zero"; "Finished vectors are kept descending in the induced order."
abbrev pub if_zero : Bool → Stage → ℕ → Run → Result Vector
if_zero true S place r = done (descending S.above S.reduction.p r.vector)
if_zero false S place r = refused 22 place []

-- the lines from the place on, after so many picks: "Lines are tested in turn". 22: ".. or go on after it": no pick is a term of zero
abbrev pub p_lines : ℕ → Stage → ℕ → ℕ → ℕ → ℕ → ℕ → Run → List Line → Result Vector
p_lines most S field n k place picks r [] = if_zero (empty? r.value) S place r
p_lines most S field n k place picks r (line ∷ later) =
    p_line most S n k place picks r (shaped field letter_P (suc n) line) >>= λ r'. p_lines most S field n k (suc place) (suc picks) r' later

-- ## The L line

abbrev pub letter_L : ℕ
letter_L = 76

-- "Levels below, empty ones too, are lifted as for the sheet": so many levels from level k on; n bounds the steps of each run
abbrev pub lifted_below : Limits → ℕ → ℕ → ℕ → State → Result State
lifted_below lim n zero k X = done X
lifted_below lim n (suc left) k X = lift lim n X k (by_hybrid 2 lim.working) >>= λ Y. lifted_below lim n left (suc k) Y

-- vector v of level k over a state with the levels below, by the lines behind the L line, which stands at the place.
-- 12: "vector number outside 1..count"; "12's place being the L line"
abbrev pub replayed_vector : Limits → ℕ → ℕ → ℕ → ℕ → List Line → State → Result Vector
replayed_vector lim most place k v later X =
    let S = stage_over lim X.parameters.p X.parameters.code X.levels in
    at_level k (limited_frame lim X.parameters.code (highest X.levels)) >>= λ ms.
    unless_refused (between 1 v (length ms)) 12 place >>= λ u.
    at_level k (start S (hybrid_strategy S 2) (get_or ms (v - 1) no_term.1)) >>= λ r.
    p_lines most S lim.field X.parameters.n k (suc place) 0 r later

-- "The vector it prints in S lines"
abbrev pub replay_over : Limits → ℕ → ℕ → ℕ → ℕ → List Line → State → Result Bytes
replay_over lim most place k v later X = replayed_vector lim most place k v later X >>= λ w. done (s_lines X.parameters.n k v w)

-- 12: "a level outside 1..9 before any lifting"
abbrev pub replay_level : Limits → ℕ → ℕ → ℕ → ℕ → ℕ → List Line → State → Result Bytes
replay_level lim n most place k v later X =
    unless_refused (between 1 k lim.levels) 12 place >>= λ u. lifted_below lim n (k - 1) 1 X >>= replay_over lim most place k v later

-- "`L,level,vector`", by its numbers
abbrev pub l_line : Limits → ℕ → ℕ → ℕ → List Line → State → Option (List ℕ) → Result Bytes
l_line lim n most place later X none = refused 21 place []
l_line lim n most place later X (some v) = replay_level lim n most place (get_or v 0 0) (get_or v 1 0) later X

-- 21: "when L is absent"
abbrev pub l_first : Limits → ℕ → ℕ → ℕ → List Line → State → Result Bytes
l_first lim n most place [] X = refused 21 place []
l_first lim n most place (line ∷ later) X = l_line lim n most place later X (shaped lim.field letter_L 2 line)

-- ## The program

-- "Lines are tested in turn after acceptance"; with so many picks at the most
abbrev pub replay_of : Limits → ℕ → ℕ → Bytes → State → Result Bytes
replay_of lim n most bytes X = l_first lim n most (first_after bytes) (lines_after bytes) X

-- what is printed for an input's bytes: a problem file, an L line and P lines, "a line each, up to 4,096"
abbrev pub replay : Limits → ℕ → Bytes → Option Bytes
replay lim n bytes = program (replay_of lim n most_picks bytes) lim n (file_of bytes)
