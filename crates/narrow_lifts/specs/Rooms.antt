-- Request A11, "Lifting in less work space": two rooms for the terms of a working value.
use Rattle.std.specs.Prelude.{◌≡◌, List, [], ◌∷◌, ℕ, ◌/◌, ◌≤◌, min, length}
use Rattle.definitions.specs.Limits.{Limits}
use Rattle.definitions.specs.Result.{Result, refused}
use Rattle.definitions.specs.Places.{row_length, least_terms}
use Rattle.definitions.specs.Layout.{Words, hybrid, Lift, Lent, lift_with, Left}

-- a run in less room is the same until it is refused 14: of two results the first is 14 at this place, or they are the same
pub data Until14 {A : Type 0} (place : ℕ) : Result A → Result A → Type 0 where
  same : {x : Result A} → Until14 place x x
  fourteen : {y : Result A} → Until14 place (refused 14 place []) y

-- for how many terms a work area has room: "one for more is used up to 512"
abbrev pub room : Limits → Words → ℕ
room lim work = min lim.working (length work / row_length)

-- "a work buffer for w terms, w from 32 to 512"
abbrev pub Lends : Limits → Words → Type 0
Lends lim work = min least_terms lim.working ≤ room lim work

-- number, place and the state's words
pub record SameAnswer (a b : Lift) : Type 0 where
  pub number : b.0 ≡ a.0
  pub place : b.1 ≡ a.1
  pub state : b.2 ≡ a.2

-- a call, the same call with no less room lent to hybrid, and what the first answers: not 14, unless the room is the same
pub data Roomier (lim : Limits) : Lent → Lent → Left → Type 0 where
  as_it_was : {c : Lent} {a : Left} → Roomier lim c c a
  wider : {k pick : ℕ} {work work' cache cache' : Words} {a : Left} → Lends lim work → room lim work ≤ room lim work'
      → (a.number ≡ 14 → room lim work ≡ room lim work')
      → Roomier lim (lift_with k (hybrid pick) work cache) (lift_with k (hybrid pick) work' cache') a

-- .. for each call of a list
abbrev pub AllRoomier : Limits → List Lent → List Lent → List Left → Type 0
AllRoomier lim [] [] [] = Unit {0}
AllRoomier lim [] [] (a ∷ ls) = ⊥
AllRoomier lim [] (c' ∷ cs') ls = ⊥
AllRoomier lim (c ∷ cs) [] ls = ⊥
AllRoomier lim (c ∷ cs) (c' ∷ cs') [] = ⊥
AllRoomier lim (c ∷ cs) (c' ∷ cs') (a ∷ ls) = Roomier lim c c' a × AllRoomier lim cs cs' ls
