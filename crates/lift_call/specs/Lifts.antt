-- What a lifting call returns and leaves, as the definitions' call says it.
use Rattle.std.specs.Prelude.{Bool, true, ℕ, leb, eqb, get_or, Result, Ok, Err}
use Rattle.definitions.specs.Limits.{document_01}
use Rattle.definitions.specs.Lists.{choose, between}
use Rattle.definitions.specs.Layout.{Words, Way, division, hybrid, tree, Lift, holds_state?}
use Rattle.definitions.specs.Places.{most_levels}
use Rattle.vectors.specs.terms.Rows.{cleared}
use Rattle.words.specs.declared.refusals.Refusal.{Refusal}
use Rattle.words.specs.refusals.Numbers.{number_of}
use Rattle.fetch_call.specs.declared.Reply.{Reply}

-- not 12: "for the hybrid way pick code outside 1..3"
abbrev pub own_pick? : Way → Bool
own_pick? division = true
own_pick? (hybrid pick) = between 1 pick 3
own_pick? tree = true

-- 11, 12, or 0 where neither comes
abbrev pub complete_number : Words → ℕ → Way → ℕ
complete_number s k way =
    choose (holds_state? document_01 s) (choose (between 1 k most_levels) (choose (leb k (get_or s 4 0)) (choose (own_pick? way) 0 12) 11) 12) 11

-- the number that a caller outside is told
abbrev pub number_in : Result (Unit {0}) Refusal → ℕ
number_in (Ok u) = 0
number_in (Err e) = number_of e

abbrev pub lift_reply : Reply → Words → Words → Words → Lift
lift_reply r state work cache = (r.number, r.place, state, work, cache)

-- "the state is empty and each buffer lent for writing is zeroed"; where nothing was refused the state stays
abbrev pub left_by : ℕ → ℕ → Words → Words → Words → Lift
left_by number k s w z = choose (eqb number 0) (0, 0, s, cleared w 0, cleared z 0) (number, k, cleared s 0, cleared w 0, cleared z 0)
