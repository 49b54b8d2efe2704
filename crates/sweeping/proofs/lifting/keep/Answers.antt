use Rattle.std.specs.Prelude.{Ok}
use native.Mathlib.Omega.{arith}
use mathlib.Core.Path.{subst}
use Prim.Native.Nat.{◌+◌, ◌*◌, ◌≤◌}
use lib.ListN.{length}
use Rattle.sweeping.proofs.Ones.{keep_full, keep_grown, keep_stopped, after_grown}
use Rattle.runs.specs.run.Stages.{Ended}
use Rattle.definitions.specs.Places.{row_length, ends_length}
use Rattle.sweeping.proofs.lifting.keep.Goals as goal

pub returns-then-g-used : goal.returns-then-g-used
returns-then-g-used c =
    let a = c.args in
    let P = c.requires in
    let v = c.in-Finished.v in
    ((λ S e. keep_full a.g S e a.out.now a.vector.now a.i a.used v (omega (arith, P.3)) a.x c.in-Finished.is), tt)

pub append-requires : goal.append-requires
append-requires c =
    let a = c.args in
    let P = c.requires in
    let h = subst (λ y. Ended a.g (Ok y)) c.in-Finished.is P.5 in
    (P.0, omega (arith, P.2, P.3), omega (arith, P.1, P.3), omega (arith, h, P.6))

pub overflow_add-result : goal.overflow_add-result
overflow_add-result c = let P = c.requires in omega (arith, P.2, P.3)

pub returns-else-g-used : goal.returns-else-g-used
returns-else-g-used c =
    let a = c.args in
    let P = c.requires in
    let v = c.in-Finished.v in
    let o = c.append in
    let h = subst (λ y. Ended a.g (Ok y)) c.in-Finished.is P.5 in
    let room : a.used + v ≤ a.g.room = omega (arith, P.3) in
    let there : (a.used + v) * row_length + ends_length ≤ length a.out.now = omega (arith, P.1) in
    let has : v * row_length ≤ length a.vector.now = omega (arith, h, P.6) in (
      (λ S e. keep_grown a.g S e a.out.now a.vector.now a.i a.used v room P.0 there has P.4 o.new.out o.ensures a.x c.in-Finished.is),
      after_grown a.g a.out.now a.vector.now a.i a.used v room P.0 there has P.4 o.new.out o.ensures,
    )

pub returns-in-Stopped : goal.returns-in-Stopped
returns-in-Stopped c =
    let a = c.args in
    let P = c.requires in (
      (λ S e. keep_stopped a.g S e a.out.now a.vector.now a.i a.used c.in-Stopped.n a.x c.in-Stopped.is),
      subst (λ y. Ended a.g (Ok y)) c.in-Stopped.is P.5,
    )
