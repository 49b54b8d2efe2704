use mathlib.Core.Path.{◌≡◌}
use Prim.Native.Nat.{◌≤◌}
use lib.ListN.{length}
use Rattle.runs.specs.frame_terms.Vectors.{lifted_vectors}
use Rattle.state.specs.writing.AppendLoop.{Grown}
use Rattle.reducers.specs.tables.Cuts.{start_of}
use Rattle.definitions.specs.Places.{most_rows}
use Rattle.level.proofs.storing.append_all.Given as goal

abbrev pub invariant-loop-i : goal.invariant-loop-i
invariant-loop-i l = ((l.i ≤ l.count) × (l.used ≡ start_of l.out l.i) × Grown l.initial.state l.state l.k l.i l.used (lifted_vectors l.out l.i)) × (l.used ≤ most_rows) × (length l.state ≡ length l.initial.state)
