-- What reading leaves in the state's words, and what it answers.
use Rattle.std.specs.Prelude.{[], ◌∷◌, ◌++◌, ℕ, ◌+◌, ◌-◌, ◌*◌, ◌≤◌, ⊤, Result as CodeResult, Ok, Err, length, get_or, set, drop, replicate}
use Rattle.std.proofs.Math.Seq.{paste}
use Rattle.definitions.specs.Limits.{document_01}
use Rattle.definitions.specs.Monomial.{Level}
use Rattle.definitions.specs.Result.{Result, done, refused, unfinished, ◌>>=◌}
use Rattle.definitions.specs.Problem as definition
use Rattle.definitions.specs.Problem.{Bytes, Head, lines}
use Rattle.definitions.specs.State.{State}
use Rattle.definitions.specs.Layout.{Words, row_of, rows_of, padded, ends_from, joined, level_at, degrees_at, encode}
use Rattle.definitions.specs.Degrees.{degrees_of}
use Rattle.definitions.specs.Places.{most_components, most_vectors, row_length, header_length, ends_start, rows_start}
use Rattle.definitions.specs.Places.{degrees_start, carried_start, state_length, weights_length}
use Rattle.reducers.specs.tables.Cuts.{Cut, Light}
use Rattle.reader.specs.lines.Tests.{term_in}
use Rattle.reader.specs.lines.Steps.{weights_words}
use Rattle.words.specs.declared.refusals.Refused.{Refused}
use Rattle.words.specs.refusals.Numbers.{number_of}

-- The state with the file's elements as level 0, read and not accepted: what the definitions' acceptance starts from.
abbrev pub state_read : definition.Parameters × Level → State
state_read f = record { parameters = f.0; levels = f.1 ∷ [] }

-- .. in a buffer of this size
abbrev pub words_read : ℕ → definition.Parameters × Level → Words
words_read size f = encode document_01 size (state_read f)

-- number, place, the state's words: "After 1 to 9 .. the state is empty and each buffer lent for writing is zeroed"
abbrev pub read_as : ℕ → Result (definition.Parameters × Level) → ℕ × ℕ × Words
read_as size (done f) = (0, 0, words_read size f)
read_as size (refused number place value) = (number, place, replicate size 0)
read_as size unfinished = (0, 0, replicate size 0)

-- ## The words while the lines are read

-- the words of a state whose level 0 has r elements with these ends and these rows; room for so many words of rows, and what stands behind it
unfoldable pub laid : definition.Parameters → ℕ → Words → Words → ℕ → Words → Words
laid q r ends rows room behind =
    q.p ∷ q.n ∷ q.code ∷ q.s ∷ 1 ∷ r
    ∷ ((ends ++ replicate (rows_start - ends_start - length ends) 0) ++ (rows ++ (replicate (room - length rows) 0 ++ behind)))

-- .. with the elements of a level: the degrees' words stand behind all rows
abbrev pub laid_level : definition.Parameters → Level → Words → Words
laid_level q f behind = laid q (length f) (ends_from 0 f) (rows_of (joined f)) (degrees_start - rows_start) behind

-- the degrees' words of a buffer of this size before any element carries one
abbrev pub degrees_alone : ℕ → Words → Words
degrees_alone size d = d ++ replicate (size - carried_start) 0

-- the words of a file's elements, which do not carry their degrees yet
abbrev pub words_laid : ℕ → definition.Parameters × Level → Words
words_laid size f = laid_level f.0 f.1 (degrees_alone size (padded most_components f.0.degrees))

-- .. where the lines from this number on say no refusal
abbrev pub body_words : Words → definition.Parameters → ℕ → Bytes → Result Words
body_words behind q place bytes = definition.body document_01 q place 0 [] (lines bytes) >>= λ f. done (laid_level q f behind)

abbrev pub problem_words : ℕ → Bytes → Result Words
problem_words size file = definition.problem document_01 file >>= λ f. done (words_laid size f)

-- the words after a term was stored behind so many: its row, the end of its element, the count of elements
abbrev pub stored : Words → ℕ → Words → Words
stored s count w =
    set (set (paste s (rows_start + count * row_length) (row_of (term_in w)) row_length) (header_length + get_or w 0 0) (count + 1)) header_length
    (get_or w 0 0)

-- the words of a state with no element yet, from zeros: the header, the components' degrees
abbrev pub begun : Words → definition.Parameters → Words → Words
begun s q d = paste (set (set (set (set (set s 0 q.p) 1 q.n) 2 q.code) 3 q.s) 4 1) degrees_start d most_components

-- ## The degrees that the elements carry

-- r elements, s components: elements that are not empty, components' degrees in range
pub record Weighable (s : Words) : Type 0 where
  pub long : state_length ≤ length s
  pub few : get_or s header_length 0 ≤ most_vectors
  pub cut : Cut (get_or s header_length 0) (drop rows_start s) (drop ends_start s)
  pub components : get_or s 3 0 ≤ most_components
  pub light : Light (get_or s 3 0) (drop degrees_start s)

-- what the elements in these words carry
abbrev pub carried : Words → Words
carried s = degrees_of (degrees_at document_01 s) [] (level_at document_01 s 0)

-- .. in its place: "Each element and vector carries its degree in its record from the reading on" (A5)
abbrev pub carrying : Words → Words
carrying s = paste s carried_start (carried s) (get_or s header_length 0)

-- ## The weights

-- a1,b1,..,an,bn of a head that is read, zeros behind them; zeros of one that is refused
abbrev pub head_weights : Result Head → Words
head_weights (done h) = weights_words h.weights
head_weights (refused number place value) = replicate weights_length 0
head_weights unfinished = replicate weights_length 0

-- ## What the code says

abbrev pub outcome_as : {A : Type 0} → CodeResult ⊤ Refused → A → Result A
outcome_as (Ok u) a = done a
outcome_as (Err e) a = refused (number_of e.refusal) e.place []

abbrev pub answer_as : CodeResult ⊤ Refused → Words → ℕ × ℕ × Words
answer_as (Ok u) s = (0, 0, s)
answer_as (Err e) s = (number_of e.refusal, e.place, s)
