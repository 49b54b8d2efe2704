use Rattle.sweeping.proofs.passes.four_zeros.Goals.{then-sums-x-eq0, else-sums-x-eq0, then-sums-x-eq0-2, else-sums-x-eq0-2}
use lib.Dec.{eqb, eqb→eq}
use mathlib.Core.Bool.{true}
use Rattle.sweeping.proofs.Tests.{untrue, truth}
use Rattle.sweeping.proofs.Visits.{skips_four}
use mathlib.Core.Path.{◌≡◌, sym, ◌∙◌}
use Prim.Native.Nat.{ℕ, ◌+◌}
use lib.ListN.{get_or}
use Rattle.sweeping.proofs.passes.four_zeros.Goals as goal

pub returns-then-sums-x-eq0-3 : goal.returns-then-sums-x-eq0-3
returns-then-sums-x-eq0-3 c =
    λ h. let a = c.args in
    let e = λ (k : ℕ) (p : eqb (get_or a.sums.now k 0) 0 ≡ true). eqb→eq (get_or a.sums.now k 0) 0 (truth p) in
    elim c.if-sums-x-eq0-2.branch [
      | then-sums-x-eq0-2 w ↦ elim c.if-sums-x-eq0.branch [
        | then-sums-x-eq0 v ↦ skips_four a.x a.sums.now v.if-sums-x-eq0.true (e (a.x + 1) (sym v.value-is ∙ w.if-sums-x-eq0-2.true))
            (e (a.x + 2) (sym w.value-is ∙ c.if-sums-x-eq0-3.true)) (e (a.x + 3) h)
        | else-sums-x-eq0 v ↦ absurd (v.if-sums-x-eq0.false (e a.x (sym v.value-is ∙ w.if-sums-x-eq0-2.true)))
      ]
      | else-sums-x-eq0-2 w ↦ untrue (sym w.if-sums-x-eq0-2.false ∙ sym w.value-is ∙ c.if-sums-x-eq0-3.true)
    ]
