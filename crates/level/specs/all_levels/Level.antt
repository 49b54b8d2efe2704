-- One level over those of a sound state, lifted and stored.
use Rattle.std.specs.Prelude.{◌≡◌, true, false, [], ◌∷◌, ℕ, ◌-◌, ◌≤◌, T, length, Result as CodeResult, Ok, Err}
use Rattle.std.proofs.Math.Option.{some}
use Rattle.definitions.specs.Limits.{document_01}
use Rattle.definitions.specs.Lists.{choose}
use Rattle.definitions.specs.Monomial.{Level}
use Rattle.definitions.specs.Result.{Result, done, refused, unfinished, finished?, at_level, ◌>>=◌}
use Rattle.definitions.specs.Lifting.{Lifting, by_division, by_hybrid}
use Rattle.definitions.specs.State.{State, sound?}
use Rattle.definitions.specs.Calls.{lift}
use Rattle.definitions.specs.Layout.{Words, encode, decode, levels_at}
use Rattle.definitions.specs.Places.{most_terms, most_levels}
use Rattle.state.specs.soundness.Places.{parameters_at}
use Rattle.runs.specs.declared.run.Strategy.{Strategy}
use Rattle.level.specs.by_runs.Stages.{Base}
use Rattle.level.specs.declared.by_runs.Leveled.{Leveled}
use Rattle.level.specs.declared.by_runs.Leveled.TheVariants.{Vectors, Stopped}
use Rattle.level.specs.storing.Stored.{KeptApart, with_level, Added}
use Rattle.level.specs.all_levels.Levels.{Levels, reached}
use Rattle.words.specs.declared.refusals.Refusal.{Refusal}
use Rattle.words.specs.declared.refusals.Refused.{Refused}
use Rattle.words.specs.refusals.Numbers.{number_of}

-- level k can be lifted: level k − 1 of a sound state is complete
pub record Liftable (s : Words) (k : ℕ) : Type 0 where
  pub low : 1 ≤ k
  pub high : k ≤ most_levels
  pub base : Base s (k - 1)

-- hybrid with any pick and room for any number of terms up to the limit, or division, which has the limit's
pub data Chosen (w : Strategy) (working : ℕ) : Type 0 where
  by_picks : w.drops ≡ true → w.stops ≡ false → working ≤ most_terms → Chosen w working
  by_leading : w.drops ≡ false → w.pick ≡ 1 → w.stops ≡ false → working ≡ most_terms → Chosen w working

abbrev pub way_by : Strategy → ℕ → Lifting
way_by w working = choose w.drops (by_hybrid w.pick working) by_division

-- vectors that can be stored as level k and leave the state sound, or a refusal
abbrev pub Settles : Words → ℕ → CodeResult Leveled Refusal → Words → Type 0
Settles s k (Ok (Vectors n used)) out = KeptApart n out × T (sound? document_01 (with_level s k n out))
Settles s k (Ok (Stopped n)) out = ⊥
Settles s k (Err e) out = Unit {0}

-- this as level k, over the levels below it, in the state that the words hold
abbrev pub state_over : Words → ℕ → Result Level → Result State
state_over s k x = at_level k x >>= λ f. done (record { parameters = parameters_at s; levels = f ∷ levels_at document_01 s k })

-- 0 and the words of the new state; or a refusal's number, and the words as they were
abbrev pub stored : Words → Result State → ℕ × Words
stored s (done X) = (0, encode document_01 (length s) X)
stored s (refused number place value) = (number, s)
stored s unfinished = (0, [])

abbrev pub told : CodeResult (Unit {0}) Refusal → Words → ℕ × Words
told (Ok u) t = (0, t)
told (Err e) t = (number_of e, t)

-- level k of the state that the words hold, lifted this way and stored
abbrev pub LiftedBy : Words → ℕ → Lifting → CodeResult (Unit {0}) Refusal → Words → Type 0
LiftedBy s k way r t =
    (n : ℕ) × (told r t ≡ stored s (lift document_01 n (decode document_01 s) k way))
    × T (finished? (lift document_01 n (decode document_01 s) k way))

-- the same of the state that the words hold: 0 and the new state, or a refusal's number and the state as it was
abbrev pub kept : State → Result State → ℕ × State
kept X (done Y) = (0, Y)
kept X (refused number place value) = (number, X)
kept X unfinished = (0, X)

abbrev pub told_of : CodeResult (Unit {0}) Refusal → Words → ℕ × State
told_of (Ok u) t = (0, decode document_01 t)
told_of (Err e) t = (number_of e, decode document_01 t)

-- what lifting gave, kept in the state; nothing is said of unused places
abbrev pub KeptAs : Words → ℕ → Leveled → Words → CodeResult (Unit {0}) Refusal → Words → Type 0
KeptAs s k (Vectors n used) out (Ok u) t = Added s t k n out
KeptAs s k (Vectors n used) out (Err e) t = ⊥
KeptAs s k (Stopped n) out r t = ⊥

-- hybrid, pick code 2, with all the room that a working value can have: as the sheet and other programs lift
abbrev pub usual_way : Lifting
usual_way = by_hybrid 2 most_terms

-- level k of the state that the words hold, lifted as for the sheet; the words are sound again
pub record LiftedNext (s : Words) (k : ℕ) (r : CodeResult (Unit {0}) Refusal) (t : Words) : Type 0 where
  pub bound : ℕ
  pub gives : told_of r t ≡ kept (decode document_01 s) (lift document_01 bound (decode document_01 s) k usual_way)
  pub finishes : T (finished? (lift document_01 bound (decode document_01 s) k usual_way))
  pub base : Base t 0

-- the refusal that ended the levels and its place, 0 and 0 where there was none
abbrev pub levels_of : CodeResult (Unit {0}) Refused → State → Levels
levels_of (Ok u) X = (0, 0, X)
levels_of (Err e) X = (number_of e.refusal, e.place, X)

-- all levels as for the sheet, in the words that a sound state is left in
abbrev pub Reached : Words → CodeResult (Unit {0}) Refused → Words → Type 0
Reached s r t = (n : ℕ) × (some (levels_of r (decode document_01 t)) ≡ reached document_01 n (decode document_01 s))
