-- The hypotheses can be met: document 01's first instance, x + y and y² + 1 modulo 7, is well, and a cost there is what one expects.
use mathlib.Core.Path.{◌≡◌, refl}
use mathlib.Core.List.{[], ◌∷◌}
use lib.Dec.{T, lit≤}
use Rattle.definitions.specs.Limits.{document_01}
use Rattle.definitions.specs.Reducer.{heads}
use Rattle.definitions.specs.Stage.{stage_over}
use Rattle.definitions.specs.Problem.{Parameters}
use Rattle.definitions.proofs.Instances.{xy, f₁}
use Rattle.ending.specs.Good.{good?}
use Rattle.ending.specs.Spent.{cost}
use Rattle.ending.specs.Well.{Well}
use Rattle.ending.proofs.Soundness.{sound_well}

abbrev q₁ : Parameters
q₁ = record { p = 7; n = 2; code = 1; s = 1; degrees = 0 ∷ [] }

pub instance_well : Well (stage_over document_01 7 1 (f₁ ∷ []))
instance_well = sound_well document_01 q₁ (f₁ ∷ []) tt (lit≤ tt) tt

-- the products of the frame term x·e_2: xy² + x
pub start_is_good : T (good? ((1, xy 1 2 1) ∷ (1, xy 1 0 1) ∷ []))
unfolding good?
start_is_good = tt

-- xy² costs three steps: itself, then y³, then y, which has no reducer
pub cost_of : cost 3 7 (heads 7 f₁) f₁ (xy 1 2 1) ≡ 3
unfolding cost
cost_of = refl
