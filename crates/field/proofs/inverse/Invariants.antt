use mathlib.Core.Path.{◌≡◌}
use Prim.Native.Nat.{◌<◌}
use Rattle.definitions.specs.Field.{times, inverse_by, inverse}
use Rattle.field.proofs.inverse.Given as goal

abbrev pub invariant-loop-x : goal.invariant-loop-x
invariant-loop-x l = (l.r < l.p) × (times l.p l.r (inverse_by l.x l.p l.x) ≡ inverse l.p l.a)

abbrev pub decreases-loop-x : goal.decreases-loop-x
decreases-loop-x l = l.x
