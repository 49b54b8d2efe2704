-- The vectors of a level as they are lifted, and the code's answers as the definitions' ones.
use Rattle.std.specs.Prelude.{◌≡◌, List, [], map, ℕ, zero, suc, ◌+◌, ◌*◌, ◌<◌, ◌≤◌, length, get_or, take, drop, Result as CodeResult, Ok, Err}
use Rattle.definitions.specs.Monomial.{Monomial, Level}
use Rattle.definitions.specs.Result.{Result, done, refused, refusal, ◌>>=◌}
use Rattle.definitions.specs.Stage.{Stage}
use Rattle.definitions.specs.Run as definition
use Rattle.definitions.specs.Run.{run}
use Rattle.definitions.specs.Tree.{Cache, Sum}
use Rattle.definitions.specs.Lifting as lifting
use Rattle.definitions.specs.Lifting.{with_vector}
use Rattle.definitions.specs.Layout.{Words, rows, vectors_at}
use Rattle.definitions.specs.Places.{most_vectors, row_length, component_offset, ends_length}
use Rattle.runs.specs.declared.reduction.Ground.{Ground}
use Rattle.runs.specs.declared.frame_terms.One.{One}
use Rattle.runs.specs.declared.frame_terms.One.TheVariants.{Used, Stopped as OneStopped}
use Rattle.runs.specs.declared.frame_terms.Lifted.{Lifted}
use Rattle.runs.specs.declared.frame_terms.Lifted.TheVariants.{Rows, Stopped}
use Rattle.runs.specs.declared.frame_terms.Accepted.{Accepted}
use Rattle.runs.specs.declared.frame_terms.Accepted.TheVariants.{Yes, Stopped as AcceptedStopped}
use Rattle.words.specs.declared.refusals.Refusal.{Refusal}
use Rattle.words.specs.declared.refusals.Refused.{Refused}
use Rattle.words.specs.refusals.Numbers.{number_of}

-- the first n vectors: their ends first, their rows from word 128 on
abbrev pub lifted_vectors : Words → ℕ → Level
lifted_vectors out n = vectors_at (drop ends_length out) 0 (take n out)

-- where the rows of the first n vectors end
abbrev pub end_of : ℕ → Words → ℕ
end_of zero out = 0
end_of (suc n) out = get_or out n 0

-- the first n vectors have so many rows, none of them more
pub record Kept (n used : ℕ) (out : Words) : Type 0 where
  pub few : n ≤ most_vectors
  pub last : end_of n out ≡ used
  pub inside : (j : ℕ) → j < n → get_or out j 0 ≤ used

-- ## The frame's rows

abbrev pub frame_terms : Words → ℕ → List Monomial
frame_terms s n = map (λ t. t.1) (rows s 0 n)

pub record Framed (g : Ground) (count : ℕ) (frame : Words) : Type 0 where
  pub few : count ≤ most_vectors
  pub fits : count * row_length ≤ length frame
  pub components : (i : ℕ) → i < count → (1 ≤ get_or frame (i * row_length + component_offset) 0)
      × (get_or frame (i * row_length + component_offset) 0 ≤ g.r)

-- ## Answers

-- one frame term by a run
abbrev pub lifts : Stage → definition.Strategy → ℕ → Cache → Monomial → Result Sum
lifts S W n cache m = run S W n m >>= λ v. done (v, cache)

-- its vector beside those before it
abbrev pub lifted_one : Stage → definition.Strategy → ℕ → lifting.Lifted → Monomial → Result lifting.Lifted
lifted_one S W n l m = run S W n m >>= λ v. with_vector S l (v, [])

abbrev pub one_of : CodeResult One Refusal → ℕ → Words → Words → Result lifting.Lifted
one_of (Ok (Used u)) i out vector = done (lifted_vectors out (i + 1), u)
one_of (Ok (OneStopped n)) i out vector = refused 9 0 (rows vector 0 n)
one_of (Err e) i out vector = refusal (number_of e)

abbrev pub After : Ground → ℕ → CodeResult One Refusal → Words → Type 0
After g i (Ok (Used u)) out = (u ≤ g.room) × Kept (i + 1) u out
After g i (Ok (OneStopped n)) out = n ≤ g.working
After g i (Err e) out = Unit {0}

abbrev pub lifted_of : CodeResult Lifted Refusal → ℕ → Words → Words → Result Level
lifted_of (Ok (Rows used)) n out vector = done (lifted_vectors out n)
lifted_of (Ok (Stopped rows_left)) n out vector = refused 9 0 (rows vector 0 rows_left)
lifted_of (Err e) n out vector = refusal (number_of e)

abbrev pub Whole : Ground → ℕ → CodeResult Lifted Refusal → Words → Type 0
Whole g n (Ok (Rows used)) out = (used ≤ g.room) × Kept n used out
Whole g n (Ok (Stopped rows_left)) out = rows_left ≤ g.working
Whole g n (Err e) out = Unit {0}

abbrev pub accepted_of : CodeResult Accepted Refused → Words → Result (Unit {0})
accepted_of (Ok Yes) vector = done tt
accepted_of (Ok (AcceptedStopped i n)) vector = refused 9 i (rows vector 0 n)
accepted_of (Err e) vector = refused (number_of e.refusal) e.place []

abbrev pub Left : Ground → CodeResult Accepted Refused → Type 0
Left g (Ok Yes) = Unit {0}
Left g (Ok (AcceptedStopped i n)) = n ≤ g.working
Left g (Err e) = Unit {0}
