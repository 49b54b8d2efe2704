-- The words of each lent buffer (docs/BUFFERS.md), and the three calls from the buffers' contents before to their contents after.
use Rattle.std.specs.Prelude.{Bool, true, false, not, List, [], ◌∷◌, ◌++◌, reverse, ℕ, zero, suc, ◌+◌, ◌-◌, ◌*◌, ◌/◌, ◌%◌, max, min, leb, ltb, length, get_or, take, drop, replicate}
use Rattle.std.proofs.Math.Option.{Option, none, some}
use Rattle.definitions.specs.Limits.{Limits}
use Rattle.definitions.specs.Lists.{◌and◌, ◌then◌, choose}
use Rattle.definitions.specs.Monomial.{Term, Vector, Level, same_exponents?}
use Rattle.definitions.specs.Packed.{four, unpack, pack}
use Rattle.definitions.specs.Result.{Result, done, refused, unfinished}
use Rattle.definitions.specs.Lifting.{Lifting, by_division, by_hybrid, by_tree}
use Rattle.definitions.specs.Problem.{Bytes}
use Rattle.definitions.specs.State.{State, empty, sound?}
use Rattle.definitions.specs.Degrees.{carried}
use Rattle.definitions.specs.Calls.{Reply, read_reply, lift_reply, fetch_reply}
use Rattle.definitions.specs.Membership.{Parts, lent_divided}
use Rattle.definitions.specs.Places.{row_length, component_offset, exponents_offset, header_length, least_terms}

-- the contents of a lent buffer: numbers of 16 bits
abbrev pub Words : Type 0
Words = List ℕ

-- ## Rows

-- a number of 64 bits in four words, the lowest first
abbrev pub words_of : ℕ → Words
words_of x = x % 65536 ∷ x / 65536 % 65536 ∷ x / 4294967296 % 65536 ∷ x / 281474976710656 ∷ []

-- .. as it stands from word a on
abbrev pub long_at : Words → ℕ → ℕ
long_at s a = four (get_or s (a + 3) 0) (get_or s (a + 2) 0) (get_or s (a + 1) 0) (get_or s a 0)

-- a term: coefficient, component, the exponents packed into one number
abbrev pub row_of : Term → Words
row_of t = t.0 ∷ t.1.1 ∷ words_of (pack t.1.0)

abbrev pub rows_of : Vector → Words
rows_of [] = []
rows_of (t ∷ v) = row_of t ++ rows_of v

-- row i, counted from 0: every row is a term with exponents of 8 bits
unfoldable pub row_at : Words → ℕ → Term
row_at s i = (get_or s (i * row_length) 0, (unpack (long_at s (i * row_length + exponents_offset)), get_or s (i * row_length + component_offset) 0))

-- n rows from row a on
unfoldable pub rows : Words → ℕ → ℕ → Vector
rows s a zero = []
rows s a (suc n) = rows s a n ++ row_at s (a + n) ∷ []

-- "followed by zeros to its buffer's end"
abbrev pub padded : ℕ → Words → Words
padded size s = s ++ replicate (size - length s) 0

-- "zeroed"
abbrev pub zeros : Words → Words
zeros s = replicate (length s) 0

-- ## The state

-- room for so many vectors of a level, and for so many terms
abbrev pub level_vectors : Limits → ℕ
level_vectors lim = max lim.elements lim.vectors

abbrev pub level_rows : Limits → ℕ
level_rows lim = max lim.t_lines lim.level_terms

-- where level k's count of vectors stands; the ends of its vectors follow
abbrev pub count_place : Limits → ℕ → ℕ
count_place lim k = header_length + k * suc (level_vectors lim)

-- where level k's rows begin
abbrev pub rows_place : Limits → ℕ → ℕ
rows_place lim k = count_place lim (suc lim.levels) + k * (level_rows lim * row_length)

-- where the components' degrees stand, behind all rows
abbrev pub degrees_place : Limits → ℕ
degrees_place lim = rows_place lim (suc lim.levels)

-- where the degrees stand that level k's vectors carry
abbrev pub carried_place : Limits → ℕ → ℕ
carried_place lim k = degrees_place lim + lim.components + k * level_vectors lim

-- the state's words
abbrev pub state_words : Limits → ℕ
state_words lim = carried_place lim (suc lim.levels)

-- the end of each vector's rows, after so many rows
abbrev pub ends_from : ℕ → Level → Words
ends_from a [] = []
ends_from a (v ∷ f) = (a + length v) ∷ ends_from (a + length v) f

abbrev pub counts_of : Limits → Level → Words
counts_of lim f = length f ∷ padded (level_vectors lim) (ends_from 0 f)

abbrev pub joined : Level → Vector
joined [] = []
joined (v ∷ f) = v ++ joined f

-- of levels 0, 1, ..
abbrev pub all_counts : Limits → List Level → Words
all_counts lim [] = []
all_counts lim (f ∷ fs) = counts_of lim f ++ all_counts lim fs

abbrev pub all_rows : Limits → List Level → Words
all_rows lim [] = []
all_rows lim (f ∷ fs) = padded (level_rows lim * row_length) (rows_of (joined f)) ++ all_rows lim fs

-- p, n, the order code, s, how many levels are complete; the counts and ends of each level
abbrev pub header_of : Limits → State → Words
header_of lim X = X.parameters.p ∷ X.parameters.n ∷ X.parameters.code ∷ X.parameters.s ∷ length X.levels
    ∷ all_counts lim (reverse X.levels)

-- .. and their rows
abbrev pub levels_of : Limits → State → Words
levels_of lim X = padded (rows_place lim 0) (header_of lim X) ++ all_rows lim (reverse X.levels)

abbrev pub all_carried : Limits → List Words → Words
all_carried lim [] = []
all_carried lim (ds ∷ others) = padded (level_vectors lim) ds ++ all_carried lim others

-- the components' degrees, then those that the vectors of each level carry
abbrev pub degree_words : Limits → State → Words
degree_words lim X = padded lim.components X.parameters.degrees ++ all_carried lim (reverse (carried X.parameters.degrees X.levels))

-- a state in a buffer of this size: "zeros in .. the unused places of the state"
abbrev pub encode : Limits → ℕ → State → Words
encode lim size X = padded size (padded (degrees_place lim) (levels_of lim X) ++ degree_words lim X)

-- the vectors with these ends among the rows, after so many rows
abbrev pub vectors_at : Words → ℕ → Words → Level
vectors_at s a [] = []
vectors_at s a (e ∷ ends) = rows s a (e - a) ∷ vectors_at s e ends

abbrev pub ends_at : Limits → Words → ℕ → Words
ends_at lim s k = take (get_or s (count_place lim k) 0) (drop (suc (count_place lim k)) s)

abbrev pub level_at : Limits → Words → ℕ → Level
level_at lim s k = vectors_at (drop (rows_place lim k) s) 0 (ends_at lim s k)

-- levels 0 to k − 1, the highest first
abbrev pub levels_at : Limits → Words → ℕ → List Level
levels_at lim s zero = []
levels_at lim s (suc k) = level_at lim s k ∷ levels_at lim s k

abbrev pub degrees_at : Limits → Words → Words
degrees_at lim s = take (get_or s 3 0) (drop (degrees_place lim) s)

-- what any contents say
abbrev pub decode : Limits → Words → State
decode lim s = record {
  parameters = record { p = get_or s 0 0; n = get_or s 1 0; code = get_or s 2 0; s = get_or s 3 0; degrees = degrees_at lim s };
  levels = levels_at lim s (get_or s 4 0);
}

-- the ends ascend strictly from the one before, up to the limit
abbrev pub ascending? : ℕ → ℕ → Words → Bool
ascending? limit a [] = true
ascending? limit a (e ∷ ends) = ltb a e and leb e limit and ascending? limit e ends

-- what must hold of level k's words before its vectors can be cut out
abbrev pub words_sound? : Limits → Words → ℕ → Bool
words_sound? lim s k = leb (get_or s (count_place lim k) 0) (level_vectors lim) and ascending? (level_rows lim) 0 (ends_at lim s k)

-- levels 0 to k − 1
abbrev pub all_words_sound? : Limits → Words → ℕ → Bool
all_words_sound? lim s zero = true
all_words_sound? lim s (suc k) = words_sound? lim s k and all_words_sound? lim s k

-- the degrees that stand with each level are those that its vectors carry, the highest level first: "a state where it is not counts as no accepted basis
-- (11)" (A5)
abbrev pub carries? : Limits → Words → List Words → Bool
carries? lim s [] = true
carries? lim s (ds ∷ below) = same_exponents? (take (length ds) (drop (carried_place lim (length below)) s)) ds and carries? lim s below

-- "A state with a number out of its range, or with an element or vector that is empty or not strictly descending, counts as no accepted basis (11)"
abbrev pub holds_state? : Limits → Words → Bool
holds_state? lim s =
    leb (get_or s 4 0) (suc lim.levels) and all_words_sound? lim s (get_or s 4 0) and sound? lim (decode lim s) and
    carries? lim s (carried (degrees_at lim s) (levels_at lim s (get_or s 4 0)))

-- the state that a buffer's contents mean
abbrev pub meant : Limits → Words → State
meant lim s = elim (holds_state? lim s) [ true ↦ decode lim s | false ↦ empty ]

-- ## The calls

-- the way, and for hybrid the pick code
pub data Way : Type 0 where
  division : Way
  hybrid : ℕ → Way
  tree : Way

-- "the cache may have any length": as many terms as it has whole rows. "refusal 14 then comes at term w + 1 of the working value", "one for more is used
-- up to 512" (A11): as many as the work area has whole rows
abbrev pub lifting_by : Limits → Way → Words → Words → Lifting
lifting_by lim division work cache = by_division
lifting_by lim (hybrid pick) work cache = by_hybrid pick (min lim.working (length work / row_length))
lifting_by lim tree work cache = by_tree (length cache / row_length)

-- the work area is that of the working value, or the tree's; for hybrid "a buffer for fewer than 32 is refusal 16" (A11)
abbrev pub work_words : Limits → Way → ℕ
work_words lim division = lim.working * row_length
work_words lim (hybrid pick) = min least_terms lim.working * row_length
work_words lim tree = lim.tree * row_length

abbrev pub out_words : Limits → ℕ
out_words lim = lim.vector * row_length

-- 16: "a lent buffer is shorter than its limit above (the file and the cache may have any length)"
abbrev pub long_enough? : Limits → Way → Words → Words → Bool
long_enough? lim way state work = leb (state_words lim) (length state) and leb (work_words lim way) (length work)

-- what a reply leaves in the state's buffer, which held s
abbrev pub state_after : Limits → Words → State → Option Vector → Words
state_after lim s X none = s
state_after lim s X (some v) = encode lim (length s) X

-- .. in the work area, or in a fetched vector's buffer
abbrev pub rows_after : Words → Option Vector → Words
rows_after s none = s
rows_after s (some v) = padded (length s) (rows_of v)

-- .. in the cache: "A call that succeeds leaves zeros in the work area, the cache ..", "each buffer lent for writing is zeroed"
abbrev pub cache_after : Words → Option Vector → Words
cache_after s none = s
cache_after s (some v) = zeros s

-- number, place; the words of the state, the work area
abbrev pub Read : Type 0
Read = ℕ × ℕ × Words × Words

abbrev pub read_left : Limits → Words → Words → Reply → Read
read_left lim state work a = (a.number, a.place, state_after lim state a.state a.work, rows_after work a.work)

-- reading a file, with these contents of the buffers; n bounds the steps of each run, none where it does not suffice
abbrev pub read_call : Limits → ℕ → Bytes → Words → Words → Option Read
read_call lim n file state work =
    read_reply lim n (meant lim state) (long_enough? lim division state work) file then λ a.
    some (read_left lim state work a)

-- number, place; the words of the state, the work area, the cache
abbrev pub Lift : Type 0
Lift = ℕ × ℕ × Words × Words × Words

abbrev pub lift_left : Limits → Words → Words → Words → Reply → Lift
lift_left lim state work cache a = (
  a.number,
  a.place,
  state_after lim state a.state a.work,
  rows_after work a.work,
  cache_after cache a.work,
)

-- lifting level k
abbrev pub lift_call : Limits → ℕ → ℕ → Way → Words → Words → Words → Option Lift
lift_call lim n k way state work cache =
    lift_reply lim n (meant lim state) (long_enough? lim way state work) k (lifting_by lim way work cache) then λ a.
    some (lift_left lim state work cache a)

-- number, place; the words of the fetched vector's buffer
abbrev pub Fetch : Type 0
Fetch = ℕ × ℕ × Words

abbrev pub fetch_left : Words → Reply → Fetch
fetch_left out a = (a.number, a.place, rows_after out a.fetched)

-- fetching vector v of level k, which writes nothing but its own buffer
abbrev pub fetch_call : Limits → ℕ → ℕ → Words → Words → Fetch
fetch_call lim k v state out =
    fetch_left out (fetch_reply lim (meant lim state) (leb (state_words lim) (length state) and leb (out_words lim) (length out)) k v)

-- number, place; the words of the quotients' buffer, of the remainder's
abbrev pub Divide : Type 0
Divide = ℕ × ℕ × Words × Words

-- each is "followed by zeros to its buffer's end"; "each buffer lent for writing is zeroed" where it is refused
abbrev pub divide_left : Words → Words → Result Parts → Option Divide
divide_left quotients remainder (done d) = some (0, 0, padded (length quotients) (rows_of d.0), padded (length remainder) (rows_of d.1))
divide_left quotients remainder (refused number place value) = some (number, place, zeros quotients, zeros remainder)
divide_left quotients remainder unfinished = none

-- 16
abbrev pub divide_long? : Limits → Words → Words → Words → Bool
divide_long? lim state quotients remainder =
    leb (state_words lim) (length state) and leb (out_words lim) (length quotients) and leb (work_words lim division) (length remainder)

-- dividing a lent vector, as many terms as its buffer has whole rows, by the elements of a state (A12): it writes nothing but quotients and remainder.
-- "Order 16 .., 11", then 23 with the row as its place, then 13 and 14
abbrev pub divide_call : Limits → ℕ → Words → Words → Words → Words → Option Divide
divide_call lim n state vector quotients remainder =
    choose (not (divide_long? lim state quotients remainder)) (some (16, 0, quotients, remainder))
    (choose (not (sound? lim (meant lim state))) (some (11, 0, quotients, remainder))
    (divide_left quotients remainder (lent_divided lim n (meant lim state) (rows vector 0 (length vector / row_length)))))

-- ## Lists of calls

-- a call, with the contents of the buffers that are lent beside the state
pub data Lent : Type 0 where
  read_with : Bytes → Words → Lent
  lift_with : ℕ → Way → Words → Words → Lent
  fetch_with : ℕ → ℕ → Words → Lent

-- number, place; the state's words; those of the fetched vector's buffer, for a fetch
pub record Left : Type 0 where
  pub number : ℕ
  pub place : ℕ
  pub state : Words
  pub out : Words

-- the state's words go from call to call, and nobody else writes them
abbrev pub lent_call : Limits → ℕ → Words → Lent → Option Left
lent_call lim n state (read_with file work) =
    read_call lim n file state work then λ a. some (record { number = a.0; place = a.1; state = a.2; out = [] })
lent_call lim n state (lift_with k way work cache) =
    lift_call lim n k way state work cache then λ a. some (record { number = a.0; place = a.1; state = a.2; out = [] })
lent_call lim n state (fetch_with k v out) =
    let a = fetch_call lim k v state out in some (record { number = a.0; place = a.1; state = state; out = a.2 })

abbrev pub lent_calls : Limits → ℕ → Words → List Lent → Option (List Left)
lent_calls lim n state [] = some []
lent_calls lim n state (c ∷ cs) = lent_call lim n state c then λ a. lent_calls lim n a.state cs then λ lefts. some (a ∷ lefts)
