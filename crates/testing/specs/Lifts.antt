-- Levels lifted within limits that may be smaller, and what the call answers.
use Rattle.std.specs.Prelude.{◌≡◌, Bool, [], ℕ, suc, ◌-◌, leb, eqb, length, get_or, Result as CodeResult, Ok, Err}
use Rattle.definitions.specs.Limits.{document_01}
use Rattle.definitions.specs.Lists.{◌and◌, choose}
use Rattle.definitions.specs.Monomial.{Vector, Level}
use Rattle.definitions.specs.Result.{Result, done, refused}
use Rattle.definitions.specs.Lifting.{lift_level}
use Rattle.definitions.specs.Layout.{Words, Way, lifting_by, work_words, levels_at}
use Rattle.definitions.specs.Places.{most_rows, most_terms, most_tree_terms, state_length, grown_length}
use Rattle.runs.specs.frame_terms.Vectors.{lifted_vectors, Kept}
use Rattle.level.specs.by_runs.Stages.{limits_with}
use Rattle.level.specs.declared.by_runs.Bounds.{Bounds}
use Rattle.level.specs.declared.by_runs.Leveled.{Leveled}
use Rattle.level.specs.declared.by_runs.Leveled.TheVariants.{Vectors, Stopped}
use Rattle.words.specs.declared.refusals.Refusal.{Refusal}
use Rattle.words.specs.refusals.Numbers.{number_of as number_of_refusal}
use Rattle.lift_call.specs.Lifts.{complete_number}

abbrev pub bounds_by : ℕ → ℕ → ℕ → ℕ → Bounds
bounds_by working vector tree room = record { working = working; vector = vector; tree = tree; room = room }

-- at most document 01's limits; a vector has room for its frame term
abbrev pub within? : Bounds → Bool
within? b = leb b.working most_terms and leb b.vector most_terms and leb 1 b.vector and leb b.tree most_tree_terms
    and leb b.room most_rows

abbrev pub fits? : Words → Words → Words → Way → Bounds → Bool
fits? s work out way b = leb state_length (length s) and leb (work_words document_01 way) (length work) and leb grown_length (length out) and within? b

-- level k over the levels below it in the state that the words hold
abbrev pub lifted_within : Bounds → Words → ℕ → Way → Words → Words → ℕ → Result Level
lifted_within b s k way work cache n =
    lift_level (limits_with b) (get_or s 0 0) (get_or s 2 0) (levels_at document_01 s (suc (k - 1))) (lifting_by (limits_with b) way work cache) n

abbrev pub number_of : CodeResult Leveled Refusal → ℕ
number_of (Ok (Vectors n used)) = 0
number_of (Ok (Stopped n)) = 9
number_of (Err e) = number_of_refusal e

abbrev pub count_of : CodeResult Leveled Refusal → ℕ
count_of (Ok (Vectors n used)) = n
count_of (Ok (Stopped n)) = 0
count_of (Err e) = 0

abbrev pub used_of : CodeResult Leveled Refusal → ℕ
used_of (Ok (Vectors n used)) = used
used_of (Ok (Stopped n)) = 0
used_of (Err e) = 0

-- what is answered: so many vectors in the slice, or a refusal
abbrev pub told : ℕ → ℕ → Words → Vector → Result Level
told number count out v = choose (eqb number 0) (done (lifted_vectors out count)) (refused number 0 v)

-- how many vectors and rows there are; none where the call is refused
abbrev pub Counted : ℕ → ℕ → ℕ → Words → Type 0
Counted number count used out = (number ≡ 0 → Kept count used out) × ((number ≡ 0 → ⊥) → (count ≡ 0) × (used ≡ 0))

-- 16, then 11 and 12, then the level
abbrev pub called : Bounds → Words → Words → Words → Words → ℕ → Way → ℕ → Result Level
called b s work out cache k way n =
    choose (fits? s work out way b) (choose (eqb (complete_number s k way) 0) (lifted_within b s k way work cache n)
    (refused (complete_number s k way) 0 [])) (refused 16 0 [])
