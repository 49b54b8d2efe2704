use native.Mathlib.Omega.{arith}
use mathlib.Core.Path.{◌≡◌, refl, subst}
use Prim.Native.Nat.{ℕ, ◌+◌, ◌-◌, ◌≤◌}
use lib.ListN.{length, get_or, length-set}
use Rattle.lists.specs.Filling.{Filled, filled_more}
use native.Mathlib.Nat.{not-suc-le-zero}
use Rattle.minimal_page.proofs.numbers.added.Given as goal

abbrev pub invariant-loop-c : goal.invariant-loop-c
invariant-loop-c l = (l.c ≤ 11) × (length l.sums ≡ 11) × Filled (λ k. get_or l.totals k 0 + get_or l.row k 0) l.c l.sums
