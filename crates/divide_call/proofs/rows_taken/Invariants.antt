use mathlib.Core.Path.{◌≡◌}
use Prim.Native.Nat.{◌-◌, ◌≤◌}
use Rattle.divide_call.specs.Rows.{first_bad}
use Rattle.divide_call.proofs.rows_taken.Given as goal

abbrev pub invariant-loop-i : goal.invariant-loop-i
invariant-loop-i l = (l.i ≤ l.n) × (first_bad l.b l.code l.vector 0 l.n ≡ first_bad l.b l.code l.vector l.i (l.n - l.i))
