-- The hypotheses can be met: by document 01's limits, its printed file, and the levels over it.
use mathlib.Core.Path.{◌≡◌, refl, sym, ap}
use mathlib.Core.Logic.{inl}
use mathlib.Core.Bool.{Bool, true}
use mathlib.Core.Option.{some}
use mathlib.Core.List.{List, [], ◌∷◌}
use Prim.Native.Nat.{ℕ, zero, suc}
use lib.Dec.{T}
use lib.ListN.{length, replicate, length-replicate}
use Rattle.definitions.specs.Limits.{document_01}
use Rattle.definitions.specs.Lists.{◌then◌}
use Rattle.definitions.specs.Monomial.{leading_monomials, vector_of}
use Rattle.definitions.specs.Frame.{frame}
use Rattle.definitions.specs.Result.{done}
use Rattle.definitions.specs.Stage.{stage_over}
use Rattle.definitions.specs.Run.{Strategy, hybrid_strategy}
use Rattle.definitions.specs.Lifting.{by_division, lift_level}
use Rattle.definitions.specs.Problem.{Bytes, Parameters}
use Rattle.definitions.specs.State.{State, sound?}
use Rattle.definitions.specs.Calls.{read, read_reply}
use Rattle.definitions.specs.Layout.{Words, padded, encode, meant, division, long_enough?, read_left, read_call, Lent, Left, lent_calls}
use Rattle.definitions.proofs.Text.{text}
use Rattle.definitions.proofs.Instances.{xy, f₁, g₁}
use Rattle.files.specs.Files.{WellFormedFile}
use Rattle.demands.specs.Notions.{GröbnerBasis, Member}
use Rattle.demands.specs.Picks.{AllPick, run_by}
use Rattle.demands.specs.Exact.{LevelRight, Exact}
use Rattle.demands.specs.Demands.{sensible?, Starts}
use Rattle.demands.proofs.Results.{ends_at}
use Rattle.demands.proofs.Picking.{hybrid_picks}
use Rattle.demands.proofs.Ways.{copies}
use Rattle.demands.proofs.Demand1.{demand_1_of_document_01}
use Rattle.demands.proofs.Demand2.{demand_2_of_document_01, over_sound}

pub sensible : T (sensible? document_01)
sensible = tt

-- ## The file

abbrev pub printed_file : Bytes
printed_file = text ("R,7,2,1,1" ∷ "T,1,1,1,1,0" ∷ "T,1,1,1,0,1" ∷ "T,2,1,1,0,2" ∷ "T,2,1,1,0,0" ∷ "E,4" ∷ [])

abbrev pub q₁ : Parameters
q₁ = record { p = 7; n = 2; code = 1; s = 1; degrees = 0 ∷ [] }

abbrev pub X₁ : State
X₁ = record { parameters = q₁; levels = f₁ ∷ [] }

pub well_formed : WellFormedFile document_01 printed_file q₁ f₁
well_formed = demand_2_of_document_01.files.answered printed_file

pub sound : T (sound? document_01 X₁)
sound = tt

pub is_read : read document_01 99 printed_file ≡ done X₁
is_read = refl

-- ## Its elements are a Gröbner basis, and the printed vector is the level over them

pub gröbner : GröbnerBasis q₁ [] f₁
gröbner = (demand_2_of_document_01.exactly 99 printed_file q₁ f₁ well_formed tt).0 tt

pub level_1 : LevelRight q₁ 1 (f₁ ∷ []) g₁
level_1 = (ends_at lifted ((over_sound document_01 tt q₁ (f₁ ∷ []) sound).lifts by_division 99)).exact gröbner
  where
    lifted : lift_level document_01 7 1 (f₁ ∷ []) by_division 99 ≡ done g₁
    lifted = refl

pub exact : Exact document_01 q₁ (g₁ ∷ f₁ ∷ [])
exact = (level_1, gröbner)

-- ## Runs

abbrev by_newest : Strategy
by_newest = hybrid_strategy (stage_over document_01 7 1 (f₁ ∷ [])) 2

all_newest : (n : ℕ) → AllPick (copies n by_newest)
all_newest zero = tt
all_newest (suc n) = (hybrid_picks (stage_over document_01 7 1 (f₁ ∷ [])) 2, all_newest n)

-- nine steps by pick code 2, of the frame term x·e_2, come to zero
pub member : Member (xy 1 0 2) (frame 1 (leading_monomials f₁))
member = inl refl

pub picks : AllPick (copies 9 by_newest)
picks = all_newest 9

pub comes_to_zero : run_by (stage_over document_01 7 1 (f₁ ∷ [])) by_newest (copies 9 by_newest) (xy 1 0 2) ≡ done (vector_of g₁ 1)
comes_to_zero = refl

-- ## Calls

-- a state of any size that is all zeros
pub starts : (size : ℕ) (cs : List Lent) (ls : List Left) → Starts (replicate size 0) cs ls
starts size cs ls = inl (ap (λ n. replicate n 0) (sym (length-replicate size 0)))

pub answers : (size : ℕ) (cs : List Lent) → (n : ℕ) × ((ls : List Left) × (lent_calls document_01 n (replicate size 0) cs ≡ some ls))
answers size cs = demand_1_of_document_01.calls_end (replicate size 0) cs

-- reading the printed file in buffers that are long enough is not refused
pub reads : (state work : Words) → T (long_enough? document_01 division state work)
    → read_call document_01 99 printed_file state work ≡ some (0, 0, encode document_01 (length state) X₁, padded (length work) [])
reads state work t = go (long_enough? document_01 division state work) t
  where
    go : (b : Bool) → T b → (read_reply document_01 99 (meant document_01 state) b printed_file then λ a. some (read_left document_01 state work a))
        ≡ some (0, 0, encode document_01 (length state) X₁, padded (length work) [])
    go mathlib.Core.Bool.false t = elim t [ ]
    go true t = refl
