use mathlib.Core.Path.{◌≡◌}
use Prim.Native.Nat.{◌≤◌}
use lib.ListN.{length}
use lib.Seq.{paste}
use Rattle.ranks.specs.Elimination.{add_multiple}
use Rattle.constants.specs.elimination.Rows.{row_words}
use Rattle.constants.proofs.elimination.add_multiple.Given as goal

abbrev pub invariant-loop-j : goal.invariant-loop-j
invariant-loop-j l = (l.j ≤ l.n) × (length l.s ≡ length l.initial.s)
    × (l.s ≡ paste l.initial.s l.b (add_multiple l.p l.t (row_words l.initial.s l.a l.n) (row_words l.initial.s l.b l.n)) l.j)
