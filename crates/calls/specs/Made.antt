-- A list of calls that a program makes, as the contracts tell it: each call within a bound of its own, its state the next one's.
use Rattle.std.specs.Prelude.{◌≡◌, List, [], ◌∷◌, ℕ, T}
use Rattle.definitions.specs.Monomial.{Level}
use Rattle.definitions.specs.Problem.{Parameters}
use Rattle.definitions.specs.Layout.{Words, Lent, read_with, lift_with, fetch_with, Left}
use Rattle.demands.specs.Notions.{GröbnerBasis}
use Rattle.demands.specs.Demands.{limit?}
use Rattle.calls.specs.Coded.{ReadSays, LiftSays, FetchSays}

-- what the contract of a call says of its answer, with what it left in the buffers that are not handed on
abbrev pub Told : Words → Lent → Left → Type 0
Told state (read_with file work) a =
    (work' : Words) × ReadSays a.number a.place a.state work' file state work × (a.out ≡ [])
Told state (lift_with k way work cache) a =
    (work' cache' : Words) × LiftSays a.number a.place a.state work' cache' k way state work cache × (a.out ≡ [])
Told state (fetch_with k v out) a = FetchSays a.number a.place a.out k v state out × (a.state ≡ state)

-- nobody else writes the state between the calls
abbrev pub Made : Words → List Lent → List Left → Type 0
Made state [] [] = Unit {0}
Made state [] (a ∷ ls) = ⊥
Made state (c ∷ cs) [] = ⊥
Made state (c ∷ cs) (a ∷ ls) = Told state c a × Made a.state cs ls

-- the number that reading a well-formed file returns, and what it says of the file's elements
pub data Decides (q : Parameters) (f : Level) : ℕ → Type 0 where
  accepted : GröbnerBasis q [] f → Decides q f 0
  no_basis : (GröbnerBasis q [] f → ⊥) → Decides q f 9
  limited : {number : ℕ} → T (limit? number) → Decides q f number
  too_short : Decides q f 16
