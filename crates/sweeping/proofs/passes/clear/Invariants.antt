use Rattle.std.proofs.Common.{◌≡◌, ℕ, ◌<◌, get_or}
use Rattle.sweeping.proofs.passes.clear.Given as goal

abbrev pub invariant-loop-sum : goal.invariant-loop-sum
invariant-loop-sum l = (j : ℕ) → j < l.sum-index → get_or l.sums j 0 ≡ 0
