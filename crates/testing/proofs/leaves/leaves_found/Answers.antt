use native.Mathlib.Omega.{arith}
use borrow.Author.Tests.{lt-ltb, le-ltb}
use mathlib.Core.Path.{◌≡◌, sym, ap, ◌∙◌}
use Prim.Native.Nat.{ℕ, ◌/◌}
use mathlib.Core.Bool.{Bool, true, false}
use lib.Dec.{ltb}
use lib.ListN.{length}
use Rattle.definitions.specs.Lists.{choose}
use Rattle.definitions.specs.Layout.{Words, rows, row_at}
use Rattle.definitions.specs.Places.{row_length}
use Rattle.vectors.specs.sums.Places.{seek}
use Rattle.testing.specs.Leaves.{counted, place_mark}
use Rattle.testing.proofs.LeavesCalls.{counted_none, counted_step}
use Rattle.testing.proofs.leaves.leaves_found.Goals.{then-d-r-via-then-d-r, then-d-r-via-else-d-r+then-s-n}
use Rattle.testing.proofs.leaves.leaves_found.Goals as goal

abbrev all : Words → ℕ → Words → ℕ → ℕ
all d r s n = counted (λ j. place_mark (seek (row_at s j).1 (rows d 0 r) 0)) n

two-tests : (b d t : Bool) (x : ℕ) → b ≡ false → d ≡ t → choose b 0 (choose d 0 x) ≡ choose t 0 x
two-tests b d t x e f = λ i. choose (e i) 0 (choose (f i) 0 x)

pub returns-then-d-r : goal.returns-then-d-r
returns-then-d-r c =
    let a = c.args in
    elim c.then-d-r.branch [
      | then-d-r-via-then-d-r w ↦ sym (ap (λ b. choose b 0 (choose (ltb (length a.s.now / row_length) a.n) 0 (all a.d.now a.r a.s.now a.n)))
          (lt-ltb (length a.d.now / row_length) a.r w.if-d-r.true))
      | then-d-r-via-else-d-r+then-s-n w ↦ sym (two-tests (ltb (length a.d.now / row_length) a.r) (ltb (length a.s.now / row_length) a.n) true
          (all a.d.now a.r a.s.now a.n) (le-ltb (length a.d.now / row_length) a.r w.if-d-r.false)
          (lt-ltb (length a.s.now / row_length) a.n w.if-s-n.true))
    ]

pub loop-i-init : goal.loop-i-init
loop-i-init c =
    let a = c.args in
    (omega arith, omega arith, counted_none (λ j. place_mark (seek (row_at a.s.now j).1 (rows a.d.now 0 a.r) 0)))

pub overflow_add-k : goal.overflow_add-k
overflow_add-k c = omega (arith, c.found_mark-k.ensures.1)

pub loop-i-preserved : goal.loop-i-preserved
loop-i-preserved c =
    let a = c.args in
    let l = c.loop-i in
    let v = rows a.d.now 0 a.r in (
      omega (arith, c.found_mark-k.ensures.1),
      omega arith,
      counted_step (λ j. place_mark (seek (row_at a.s.now j).1 v 0)) l.i l.k c.found_mark-k.result l.invariant.2
          (c.found_mark-k.ensures.0 ∙ ap place_mark c.find.ensures
          ∙ ap (λ t. place_mark (seek t.1 v 0)) c.row.ensures),
    )

pub returns : goal.returns
returns c =
    let a = c.args in
    let l = c.loop-i in
    let z : l.i ≡ a.n = omega arith in
    l.invariant.2 ∙ ap (counted (λ j. place_mark (seek (row_at a.s.now j).1 (rows a.d.now 0 a.r) 0))) z
    ∙ sym (two-tests (ltb (length a.d.now / row_length) a.r) (ltb (length a.s.now / row_length) a.n) false
    (all a.d.now a.r a.s.now a.n) (le-ltb (length a.d.now / row_length) a.r c.if-d-r.false)
    (le-ltb (length a.s.now / row_length) a.n c.if-s-n.false))
