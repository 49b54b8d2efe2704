use borrow.Author.Rules.{rules}
use native.Mathlib.Omega.{arith}
use mathlib.Core.Path.{◌≡◌, refl, sym, subst}
use Prim.Native.Nat.{suc, ◌+◌, ◌-◌, ◌≤◌}
use lib.ListN.{length, take}
use Rattle.definitions.specs.Places.{most_elements, file_length}
use Rattle.definitions.specs.Result.{done}
use Rattle.completions.specs.Resuming.{Same}
use Rattle.completing.proofs.whole.Tries.{all_tries, Going, going_start, going_on, going_end, going_accepted, prints_file, going_refused}
use Rattle.completing.proofs.whole.complete.Goals as goal

pub overflow_add-end : goal.overflow_add-end
overflow_add-end c = omega (arith, c.place-end.ensures.0)

pub loop-init : goal.loop-init
loop-init c =
    let a = c.args in
    let P = c.requires in
    (P.1, refl, refl, refl, going_start (take a.given a.out.now) _ (omega arith))

pub attempt-requires : goal.attempt-requires
attempt-requires c =
    let L = c.loop in
    let P = c.requires in
    (omega (arith, P.0, L.invariant.2), L.invariant.0, omega (arith, P.2, L.invariant.3), omega (arith, P.3, L.invariant.1), L.invariant.4.passed)

pub shape_of-out-in-Ok-Accepted : goal.shape_of-out-in-Ok-Accepted
shape_of-out-in-Ok-Accepted c =
    omega
    (arith, c.loop.invariant.1)

pub shape_of-state-in-Ok-Accepted : goal.shape_of-state-in-Ok-Accepted
shape_of-state-in-Ok-Accepted c =
    omega (
      arith,
      c.loop.invariant.2,
    )

pub shape_of-work-in-Ok-Accepted : goal.shape_of-work-in-Ok-Accepted
shape_of-work-in-Ok-Accepted c =
    omega (
      arith,
      c.loop.invariant.3,
    )

pub returns-in-Ok-Accepted : goal.returns-in-Ok-Accepted
returns-in-Ok-Accepted c =
    let a = c.args in
    let L = c.loop in
    let x = c.attempt in
    let T = rw c.in-Ok-Accepted.field-0-is at c.in-Ok-Accepted.ensures in
    let given = take a.given a.out.now in (
      prints_file given a.out.now x.new.out L.size (omega (
        arith,
        c.requires.3,
        L.invariant.0,
        L.invariant.1,
        x.auto.out,
      ))
          (subst (λ o. Same (all_tries given) (λ n. done (take L.size o))) (sym T.1)
          (going_accepted given (take L.size L.out) (suc most_elements - L.counter) L.from L.invariant.4 (omega arith) T.0)),
      L.invariant.0,
    )

pub shape_of-out-in-Err : goal.shape_of-out-in-Err
shape_of-out-in-Err c =
    omega (
      arith,
      c.loop.invariant.1,
    )

pub shape_of-state-in-Err : goal.shape_of-state-in-Err
shape_of-state-in-Err c =
    omega (
      arith,
      c.loop.invariant.2,
    )

pub shape_of-work-in-Err : goal.shape_of-work-in-Err
shape_of-work-in-Err c =
    omega (
      arith,
      c.loop.invariant.3,
    )

pub returns-in-Err : goal.returns-in-Err
returns-in-Err c =
    let a = c.args in
    let L = c.loop in
    let x = c.attempt in
    let T = c.in-Err.ensures in
    let R = going_refused (take a.given a.out.now) (take L.size L.out) a.out.now L.out x.new.out (suc most_elements - L.counter) L.from c.in-Err.length
    L.invariant.4
    (omega arith) T in
    (R.0, omega (arith, R.1))

pub loop-preserved : goal.loop-preserved
loop-preserved c =
    let a = c.args in
    let L = c.loop in
    let x = c.attempt in
    let one : suc most_elements - L.counter - 1 ≡ suc most_elements - (L.counter + 1) = omega arith in
    let T = rw c.in-Ok-Grown.field-0-is at c.in-Ok-Grown.ensures in (
      T.2,
      omega (arith, L.invariant.1, x.auto.out),
      omega (arith, L.invariant.2, x.auto.state),
      omega (arith, L.invariant.3, x.auto.work),
      subst (λ k. Going (take a.given a.out.now) (take c.in-Ok-Grown.r x.new.out) k c.in-Ok-Grown.f) one
          (going_on (take a.given a.out.now) (take L.size L.out) (take c.in-Ok-Grown.r x.new.out) (suc most_elements - L.counter) L.from
          c.in-Ok-Grown.f L.invariant.4 (omega arith) T.0 T.1),
    )

pub shape_of-out : goal.shape_of-out
shape_of-out c = omega (arith, c.loop.invariant.1)

pub shape_of-state : goal.shape_of-state
shape_of-state c = omega (arith, c.loop.invariant.2)

pub shape_of-work : goal.shape_of-work
shape_of-work c = omega (arith, c.loop.invariant.3)

pub returns : goal.returns
returns c =
    let a = c.args in
    let L = c.loop in
    absurd (going_end (take a.given a.out.now) (take L.size L.out) (suc most_elements - L.counter) L.from L.invariant.4 (omega arith))
