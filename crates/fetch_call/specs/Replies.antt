-- What a call returns and leaves, as the definitions' calls say it.
use Rattle.std.specs.Prelude.{ℕ, ⊤, Result as CodeResult, Ok, Err}
use Rattle.definitions.specs.Layout.{Words, Fetch}
use Rattle.words.specs.declared.refusals.Refusal.{Refusal}
use Rattle.words.specs.declared.refusals.Refused.{Refused}
use Rattle.words.specs.refusals.Numbers.{number_of}
use Rattle.fetch_call.specs.declared.Reply.{Reply}

-- the number and the place that are answered
abbrev pub settled_of : CodeResult ⊤ Refused → ℕ × ℕ
settled_of (Ok u) = (0, 0)
settled_of (Err e) = (number_of e.refusal, e.place)

abbrev pub fetch_reply : Reply → Words → Fetch
fetch_reply r out = (r.number, r.place, out)

abbrev pub fetch_said : CodeResult ⊤ Refusal → Words → Fetch
fetch_said (Ok u) out = (0, 0, out)
fetch_said (Err e) out = (number_of e, 0, out)
