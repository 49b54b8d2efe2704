-- How far the frame terms of a level are lifted.
use Rattle.std.specs.Prelude.{◌≡◌, Result, Ok, Err, Bool, false, [], ℕ, ◌≤◌}
use Rattle.definitions.specs.Stage.{Stage}
use Rattle.definitions.specs.Run.{Strategy}
use Rattle.definitions.specs.Lifting.{lift_all}
use Rattle.definitions.specs.Layout.{Words}
use Rattle.runs.specs.declared.reduction.Ground.{Ground}
use Rattle.runs.specs.declared.frame_terms.Lifted.{Lifted}
use Rattle.runs.specs.declared.frame_terms.Lifted.TheVariants.{Stopped as LiftedStopped}
use Rattle.runs.specs.frame_terms.Vectors.{lifted_vectors, Kept, frame_terms, lifts, lifted_of, Whole}
use Rattle.runs.proofs.frame_terms.LoopsOverFrame.{Going}
use Rattle.sweeping.specs.declared.lifting.Gone.{Gone}
use Rattle.sweeping.specs.declared.lifting.Gone.TheVariants.{At, Stopped}
use Rattle.words.specs.declared.refusals.Refusal.{Refusal}

-- a whole level, or why there is none
abbrev pub LiftedAs : Ground → Stage → Strategy → Words → ℕ → Result Lifted Refusal → Words → Words → Type 0
LiftedAs g S W frame count x out vector =
    ((k : ℕ) × (lifted_of x count out vector ≡ lift_all S (lifts S W k) ([], 0) [] (frame_terms frame count))) × Whole g count x out

-- the frame terms before frame term i are lifted; it is left only where that is allowed
pub record LiftedTo (g : Ground) (S : Stage) (W : Strategy) (frame : Words) (count : ℕ) (leaves : Bool) (i used : ℕ) (out : Words) : Type 0 where
  pub going : Going S W frame count (lifted_vectors out i, used) i
  pub inside : i ≤ count
  pub room : used ≤ g.room
  pub kept : Kept i used out
  pub all : leaves ≡ false → count ≤ i

abbrev pub GoneAs : Ground → Stage → Strategy → Words → ℕ → Bool → Result Gone Refusal → Words → Words → Type 0
GoneAs g S W frame count leaves (Ok (At i used)) out vector = LiftedTo g S W frame count leaves i used out
GoneAs g S W frame count leaves (Err refusal) out vector = LiftedAs g S W frame count (Err refusal) out vector
GoneAs g S W frame count leaves (Ok (Stopped rows)) out vector = LiftedAs g S W frame count (Ok (LiftedStopped rows)) out vector
