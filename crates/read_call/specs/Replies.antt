-- What a call returns and leaves, as the definitions' calls say it.
use Rattle.std.specs.Prelude.{[], ℕ, ⊤, Result as CodeResult, Ok, Err, length}
use Rattle.definitions.specs.Limits.{document_01}
use Rattle.definitions.specs.Result.{Result, done, refused, unfinished, ◌>>=◌}
use Rattle.definitions.specs.State.{State, empty}
use Rattle.definitions.specs.Layout.{Words, Read, rows_of, padded, encode, decode}
use Rattle.level.specs.by_runs.Stages.{accepted_over}
use Rattle.words.specs.declared.refusals.Refused.{Refused}
use Rattle.words.specs.refusals.Numbers.{number_of}
use Rattle.fetch_call.specs.declared.Reply.{Reply}

abbrev pub read_reply : Reply → Words → Words → Read
read_reply r state work = (r.number, r.place, state, work)

abbrev pub read_said : CodeResult ⊤ Refused → Words → Words → Read
read_said (Ok u) state work = (0, 0, state, work)
read_said (Err e) state work = (number_of e.refusal, e.place, state, work)

-- a settled result in buffers of these sizes: "the state is empty and each buffer lent for writing is zeroed", 9's value in front
abbrev pub settled_words : ℕ → ℕ → Result State → Read
settled_words size area (done X) = (0, 0, encode document_01 size X, padded area (rows_of []))
settled_words size area (refused number place value) = (number, place, encode document_01 size empty, padded area (rows_of value))
settled_words size area unfinished = (0, 0, [], [])

-- the state that the words hold, if it is accepted
abbrev pub accepted_words : ℕ → Words → ℕ → Read
accepted_words n s area = settled_words (length s) area (accepted_over s n >>= λ u. done (decode document_01 s))
