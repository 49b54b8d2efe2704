-- A level that grows over a state, from call to call of append.
use Rattle.std.specs.Prelude.{◌≡◌, ℕ, T, length}
use Rattle.definitions.specs.Limits.{document_01}
use Rattle.definitions.specs.Monomial.{Level}
use Rattle.definitions.specs.Layout.{Words, levels_at, all_words_sound?}
use Rattle.definitions.specs.Places.{header_length, degrees_start}
use Rattle.reducers.specs.tables.Cuts.{start_of}
use Rattle.state.specs.soundness.Places.{ends_from}
use Rattle.state.specs.writing.LevelSoFar.{level_so_far, words_so_far?}
use Rattle.state.specs.writing.Zeroed.{Same}

-- z has the parameters and the levels below level k of s, and of level k so far the vectors f, which use so many rows
pub record Grown (s z : Words) (k count used : ℕ) (f : Level) : Type 0 where
  pub long : length z ≡ length s
  pub front : Same z s 0 header_length
  pub degrees : Same z s degrees_start (length s)
  pub below : levels_at document_01 z k ≡ levels_at document_01 s k
  pub words_below : T (all_words_sound? document_01 z k)
  pub words : T (words_so_far? z k count)
  pub level : level_so_far z k count ≡ f
  pub used_is : start_of (ends_from z k) count ≡ used
