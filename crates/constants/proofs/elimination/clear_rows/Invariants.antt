use mathlib.Core.Path.{◌≡◌}
use Prim.Native.Nat.{◌≤◌}
use lib.ListN.{length}
use Rattle.ranks.specs.Elimination.{cleared}
use Rattle.constants.specs.elimination.Rows.{row_words}
use Rattle.constants.proofs.elimination.Rowwise.{Kept}
use Rattle.constants.proofs.elimination.clear_rows.Given as goal

abbrev pub invariant-loop-k : goal.invariant-loop-k
invariant-loop-k l = (l.k ≤ l.rows) × (length l.s ≡ length l.initial.s) × Kept l.n l.b (cleared l.p l.c (row_words l.initial.s l.a l.n)) l.initial.s l.k l.s
