use mathlib.Core.Path.{◌≡◌}
use lib.ListN.{drop}
use Rattle.ranks.specs.Elimination.{pivot_from, pivot}
use Rattle.constants.specs.elimination.Rows.{row_words}
use Rattle.constants.proofs.elimination.pivot.Given as goal

abbrev pub invariant-loop-j : goal.invariant-loop-j
invariant-loop-j l = pivot l.p (row_words l.s l.at l.n) ≡ pivot_from l.p l.j (drop l.j (row_words l.s l.at l.n))
