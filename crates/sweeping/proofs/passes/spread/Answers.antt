use Rattle.sweeps.specs.Places.{add_at}
use native.Mathlib.Nat.{mul-le-mul}
use Rattle.sweeps.specs.Places.{spread_at}
use Rattle.sweeping.specs.Nodes.{edges_in}
use Rattle.sweeping.specs.Sums.{Holds}
use Rattle.sweeping.proofs.Sums.{holds_more, holds_less, spread_next, spread_end}
use native.Mathlib.Omega.{arith}
use mathlib.Core.Path.{◌≡◌, refl, sym, ◌∙◌, subst}
use Prim.Native.Nat.{suc, ◌+◌, ◌-◌, ◌*◌, ◌≤◌}
use lib.ListN.{get_or, length-set}
use Rattle.sweeping.proofs.passes.spread.Goals as goal

pub loop-k-init : goal.loop-k-init
loop-k-init c = (omega arith, c.requires.0.ordered, refl, refl, c.requires.2, λ r h. h)

pub bounds-sums-i : goal.bounds-sums-i
bounds-sums-i c = let l = c.loop-k in let t = (c.requires.0.targets l.k (omega arith) (omega arith)).1 in omega (arith, t, c.place-i.ensures.0, l.invariant.2)

pub overflow_add-sums : goal.overflow_add-sums
overflow_add-sums c =
    let l = c.loop-k in
    let x = c.requires.1 in let y : c.from.result ≤ 65535 = omega (arith, c.from.ensures, c.type_inv.words (c.loop-k.k * 2 + 1)) in
    let h = l.invariant.4 in
    omega (arith, mul-le-mul x y, h.fits, h.below c.place-i.result)

pub bounds-sums-i-in-loop-k : goal.bounds-sums-i-in-loop-k
bounds-sums-i-in-loop-k c = let l = c.loop-k in let t = (c.requires.0.targets l.k (omega arith) (omega arith)).1 in omega (arith, t, c.place-i.ensures.0, l.invariant.2)

pub loop-k-preserved : goal.loop-k-preserved
loop-k-preserved c =
    let l = c.loop-k in
    let a = c.args in
    let x = c.requires.1 in let y : c.from.result ≤ 65535 = omega (arith, c.from.ensures, c.type_inv.words (c.loop-k.k * 2 + 1)) in
    let i = c.place-i.ensures.0 in
    let w = c.from.ensures in
    let n : a.b - l.k ≡ suc (a.b - (l.k + 1)) = omega arith in (
      omega arith,
      omega arith,
      omega (
        arith,
        length-set l.sums c.place-i.result (get_or l.sums c.place-i.result 0 + a.c *
            c.from.result),
        l.invariant.2,
      ),
      l.invariant.3 ∙ spread_next a.c a.words.now l.k a.b l.sums (omega arith)
          ∙ (λ j. spread_at a.c (edges_in a.words.now (l.k + 1) (a.b - (l.k + 1))) (add_at (sym i j) (a.c * sym w j) l.sums)),
      holds_more (a.b - (l.k + 1)) c.place-i.result (a.c * c.from.result) l.sums (omega (arith, mul-le-mul x y))
          (subst (λ m. Holds m l.sums) n l.invariant.4),
      λ r h. holds_more ((a.b - (l.k + 1)) + r) c.place-i.result (a.c * c.from.result) l.sums (omega (
        arith,
        mul-le-mul x y,
      ))
          (let m : (a.b - l.k) + r ≡ suc ((a.b - (l.k + 1)) + r) = omega arith in subst (λ m. Holds m l.sums) m (l.invariant.5 r h)),
    )

pub returns : goal.returns
returns c =
    let l = c.loop-k in let a = c.args in (
      sym (l.invariant.3 ∙ spread_end a.c a.words.now l.k a.b l.sums (omega arith)),
      λ r h. holds_less r ((a.b - l.k) + r) l.sums (omega arith) (l.invariant.5 r h),
    )

pub overflow_mul-sums : goal.overflow_mul-sums
overflow_mul-sums c = let x = c.requires.1 in let y : c.from.result ≤ 65535 = omega (arith, c.from.ensures, c.type_inv.words (c.loop-k.k * 2 + 1)) in omega (arith, mul-le-mul x y)
