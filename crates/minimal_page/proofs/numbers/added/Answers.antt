use native.Mathlib.Omega.{arith}
use mathlib.Core.Path.{◌≡◌, refl, subst}
use Prim.Native.Nat.{ℕ, ◌+◌, ◌-◌, ◌≤◌}
use lib.ListN.{length, get_or, length-set}
use Rattle.lists.specs.Filling.{Filled, filled_more}
use native.Mathlib.Nat.{not-suc-le-zero}
use Rattle.minimal_page.proofs.numbers.added.Goals as goal

pub loop-c-init : goal.loop-c-init
loop-c-init c = (omega arith, refl, λ k h. absurd (not-suc-le-zero h))

pub loop-c-preserved : goal.loop-c-preserved
loop-c-preserved c =
    let a = c.args in
    let l = c.loop-c in
    let f : ℕ → ℕ = λ k. get_or a.totals k 0 + get_or a.row k 0 in
    (omega arith, simp length-set l.invariant.1, filled_more f l.c (f l.c) l.sums (omega arith) refl l.invariant.2)

pub returns : goal.returns
returns c =
    let a = c.args in
    let l = c.loop-c in
    let e : l.c ≡ 11 = omega arith in
    (l.invariant.1, subst (λ i. Filled (λ k. get_or a.totals k 0 + get_or a.row k 0) i l.sums) e l.invariant.2)
