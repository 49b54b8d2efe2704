-- Request A11: what is to hold of lifting in less work space.
use Rattle.std.specs.Prelude.{◌≡◌, ◌⊎◌, ◌↔◌, Bool, not, List, [], ◌∷◌, ℕ, ◌*◌, ◌/◌, ◌<◌, ◌≤◌, min, T, length}
use Rattle.std.proofs.Math.Option.{none, some}
use Rattle.definitions.specs.Limits.{Limits, with_working}
use Rattle.definitions.specs.Monomial.{Monomial, Term, Vector, Level, fits?, leading_monomials}
use Rattle.definitions.specs.Frame.{frame}
use Rattle.definitions.specs.Result.{done, refused}
use Rattle.definitions.specs.Vectors.{combined}
use Rattle.definitions.specs.Stage.{Stage, stage_over, narrowed}
use Rattle.definitions.specs.Run.{Strategy, dropped?, add_term, run}
use Rattle.definitions.specs.Lifting.{by_hybrid}
use Rattle.definitions.specs.Problem.{Parameters}
use Rattle.definitions.specs.State.{State, sound?}
use Rattle.definitions.specs.Calls.{lift}
use Rattle.definitions.specs.Reckoning.{reckoned_vector}
use Rattle.definitions.specs.Places.{row_length, least_terms}
use Rattle.definitions.specs.Layout.{Words, state_words, hybrid, Lift, lift_call, Lent, Left, lent_calls}
use Rattle.demands.specs.Notions.{Member}
use Rattle.demands.specs.Picks.{AllPick, run_by}
use Rattle.demands.specs.Demands.{Demand3}
use Rattle.narrow_lifts.specs.Rooms.{Until14, room, Lends, SameAnswer, AllRoomier}

pub record SpaceRight (lim : Limits) : Type 0 where
  -- "refusal 14 then comes at term w + 1 of the working value": for a product that is kept, has no equal monomial there, and finds w terms or more
  pub at_term : (S : Stage) (w : ℕ) (drops : Bool) (t : Term) (v : Vector)
      → (add_term (narrowed w S).reduction drops t v ≡ refused 14 0 [])
      ↔ (T (fits? S.reduction.limits.exponent t.1.0) × T (not (dropped? (narrowed w S).reduction drops t.1))
      × (combined S.reduction.p t v ≡ none) × (w ≤ length v))
  -- ".. while the vector keeps its 512", as all other limits
  pub others_stay : (w : ℕ) (S : Stage) → with_working S.reduction.limits.working (narrowed w S).reduction.limits ≡ S.reduction.limits
  -- the run of every frame term over any levels, whatever is picked: the same in less room until 14 comes
  pub terms : (S : Stage) (W : Strategy) (n w w' : ℕ) (m : Monomial) → w ≤ w' → Until14 0 (run (narrowed w S) W n m) (run (narrowed w' S) W n m)
  -- .. and so the lifting of every level of every state
  pub levels : (n : ℕ) (X : State) (k pick w w' : ℕ) → w ≤ w'
      → Until14 k (lift lim n X k (by_hybrid pick w)) (lift lim n X k (by_hybrid pick w'))
  -- "In the same call any w that finishes gives the same vector as 512 does, and a larger w never refuses where a smaller one finished."
  pub larger : (n : ℕ) (X Y : State) (k pick w w' : ℕ) → w ≤ w' → lift lim n X k (by_hybrid pick w) ≡ done Y
      → lift lim n X k (by_hybrid pick w') ≡ done Y
  -- a refusal that more room takes away was 14: 13 and 15 stay
  pub only_fourteen : (n : ℕ) (X : State) (k pick w w' number place : ℕ) (value : Vector) → w ≤ w' → ¬ (number ≡ 14)
      → lift lim n X k (by_hybrid pick w) ≡ refused number place value → lift lim n X k (by_hybrid pick w') ≡ refused number place value
  -- demand 3's "Whichever term each hybrid step picks .. a run that comes to zero gives its vector" in any room
  pub any_picks : (w : ℕ) (q : Parameters) (f : Level) (below : List Level) (W : Strategy) (Ws : List Strategy) (m : Monomial) (v : Vector)
      → T (sound? lim (record { parameters = q; levels = f ∷ below })) → Member m (frame (lim.numbering q.code) (leading_monomials f)) → AllPick Ws
      → run_by (narrowed w (stage_over lim q.p q.code (f ∷ below))) W Ws m ≡ done v
      → (bound : ℕ) × (reckoned_vector bound q.p q.code (f ∷ below) m ≡ some v)
  -- whole calls on words: with no less room the answer is the same, but where it was 14
  pub called : (n k pick : ℕ) (state work work' cache cache' : Words) (a : Lift) → Lends lim work → room lim work ≤ room lim work'
      → lift_call lim n k (hybrid pick) state work cache ≡ some a → (a.0 ≡ 14 → room lim work ≡ room lim work')
      → (b : Lift) × (lift_call lim n k (hybrid pick) state work' cache' ≡ some b) × SameAnswer a b
  -- .. so what finished finishes in every longer area, with the same words of the state
  pub finished : (n k pick : ℕ) (state work work' cache cache' : Words) (a : Lift) → length work ≤ length work'
      → lift_call lim n k (hybrid pick) state work cache ≡ some a → a.0 ≡ 0
      → (b : Lift) × (lift_call lim n k (hybrid pick) state work' cache' ≡ some b) × SameAnswer a b
  -- "one for more is used up to 512": areas for all terms of a working value, shorter and longer, give the same answer
  pub used : (n k pick : ℕ) (state work work' cache cache' : Words) (a : Lift) → lim.working * row_length ≤ length work
      → lim.working * row_length ≤ length work' → lift_call lim n k (hybrid pick) state work cache ≡ some a
      → (b : Lift) × (lift_call lim n k (hybrid pick) state work' cache' ≡ some b) × SameAnswer a b
  -- "A buffer for fewer than 32 is refusal 16": then, and where the state's buffer is too short, and never else
  pub sixteen : (n k pick : ℕ) (state work cache : Words) (a : Lift) → lift_call lim n k (hybrid pick) state work cache ≡ some a
      → (a.0 ≡ 16) ↔ ((length state < state_words lim) ⊎ (length work / row_length < min least_terms lim.working))
  -- a list of calls with no less room lent in each answers the same, and leaves the same words of the state after each
  pub lists : (n : ℕ) (state : Words) (cs cs' : List Lent) (ls : List Left) → lent_calls lim n state cs ≡ some ls → AllRoomier lim cs cs' ls
      → lent_calls lim n state cs' ≡ some ls
  -- the reckoning speaks of lists whose calls lend any work areas, and every two ways that finish agree, whatever room they had
  pub reckoned : Demand3 lim
