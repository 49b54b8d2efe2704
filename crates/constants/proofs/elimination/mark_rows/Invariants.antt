use mathlib.Core.Path.{◌≡◌}
use Prim.Native.Nat.{◌-◌, ◌*◌, ◌≤◌}
use lib.ListN.{length, drop}
use lib.Seq.{paste}
use Rattle.definitions.specs.Places.{most_vectors}
use Rattle.ranks.specs.Elimination.{marks_of, marks}
use Rattle.constants.specs.elimination.Rows.{rows_at}
use Rattle.constants.proofs.elimination.mark_rows.Given as goal

abbrev pub invariant-loop-i : goal.invariant-loop-i
invariant-loop-i l =
    (l.i ≤ l.rows) × (length l.m ≡ length l.initial.m) × (length l.marks ≡ length l.initial.marks)
    × (l.marks ≡ paste l.initial.marks l.at (Rattle.ranks.specs.Elimination.marks l.p (rows_at l.n l.rows l.initial.m)) l.i)
    × (drop l.i (Rattle.ranks.specs.Elimination.marks l.p (rows_at l.n l.rows l.initial.m))
    ≡ marks_of l.p (l.rows - l.i) (rows_at l.n (l.rows - l.i) (drop (l.i * most_vectors) l.m)))
