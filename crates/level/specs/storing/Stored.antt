-- Vectors in a slice of their own, and the state with them as its highest level.
use Rattle.std.specs.Prelude.{◌≡◌, ◌∷◌, ℕ, ◌+◌, ◌<◌, ◌≤◌, T, length, get_or}
use Rattle.definitions.specs.Limits.{document_01}
use Rattle.definitions.specs.State.{State}
use Rattle.definitions.specs.Layout.{Words, decode, levels_at, all_words_sound?}
use Rattle.definitions.specs.Places.{most_vectors, most_rows, lifted_length}
use Rattle.reducers.specs.tables.Cuts.{start_of}
use Rattle.state.specs.soundness.Places.{parameters_at}
use Rattle.state.specs.degrees.Carrying.{carried_right?}
use Rattle.runs.specs.frame_terms.Vectors.{lifted_vectors}
use Rattle.state.specs.writing.AppendLoop.{Grown}

-- none of the vectors is empty, and all of them have room in a level
pub record KeptApart (count : ℕ) (out : Words) : Type 0 where
  pub few : count ≤ most_vectors
  pub long : lifted_length ≤ length out
  pub filled : (j : ℕ) → j < count → start_of out j < get_or out j 0
  pub room : (j : ℕ) → j < count → get_or out j 0 ≤ most_rows

abbrev pub with_level : Words → ℕ → ℕ → Words → State
with_level s k count out = record { parameters = parameters_at s; levels = lifted_vectors out count ∷ levels_at document_01 s k }

-- z has these vectors as level k's so far, and else what s has
abbrev pub Appended : Words → Words → ℕ → ℕ → Words → Type 0
Appended s z k count out = (used : ℕ) × Grown s z k count used (lifted_vectors out count)

-- t holds the state with them as its highest level; nothing is said of unused places
pub record Added (s t : Words) (k count : ℕ) (out : Words) : Type 0 where
  pub long : length t ≡ length s
  pub height : get_or t 4 0 ≡ k + 1
  pub words : T (all_words_sound? document_01 t (k + 1))
  pub state : decode document_01 t ≡ with_level s k count out
  pub carries : T (carried_right? t (k + 1))
