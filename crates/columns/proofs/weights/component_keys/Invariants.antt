use mathlib.Core.Path.{◌≡◌}
use Prim.Native.Nat.{◌≤◌}
use lib.ListN.{length, get_or}
use Rattle.definitions.specs.Limits.{document_01}
use Rattle.definitions.specs.Layout.{degrees_at}
use Rattle.lists.specs.Filling.{Filled}
use Rattle.columns.specs.weights.Keys.{key_degrees}
use Rattle.columns.proofs.weights.component_keys.Given as goal

abbrev pub invariant-loop-j : goal.invariant-loop-j
invariant-loop-j l = (l.j ≤ l.s) × (length l.keys ≡ length l.initial.keys) × Filled (λ k. get_or (key_degrees (degrees_at document_01 l.state)) k 0) l.j l.keys
