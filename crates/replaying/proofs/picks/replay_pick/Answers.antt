use native.Mathlib.Omega.{arith}
use mathlib.Core.Path.{◌≡◌, sym, ap, ◌∙◌}
use Prim.Native.Nat.{◌<◌}
use lib.ListN.{length}
use Rattle.std.specs.Prelude.{Some}
use Rattle.words.specs.refusals.Numbers.{number_of}
use Rattle.definitions.specs.Layout.{rows}
use Rattle.laws.proofs.Rows.{length_rows}
use Rattle.vectors.specs.sums.Places.{seek}
use Rattle.vectors.proofs.sums.Rowwise.{found_inside}
use Rattle.runs.specs.run.Stages.{order_of, stage_of, run_of}
use Rattle.replaying.specs.picks.Named.{named}
use Rattle.replaying.proofs.picks.Naming.{pick_nowhere, pick_on, pick_refused, never_stopped}
use borrow.Author.Rules.{rules}
use Rattle.replaying.proofs.picks.replay_pick.Goals as goal

pub returns-in_default : goal.returns-in_default
returns-in_default c =
    let a = c.args in (
      λ above. pick_nowhere (stage_of a.g a.level.now a.tables.now above) a.k a.place (run_of a.value.now a.m a.vector.now a.u)
          (named a.n a.v) c.in_default.ensures,
      tt,
    )

pub step_at-requires : goal.step_at-requires
step_at-requires c =
    let a = c.args in
    let P = c.requires in
    let i = c.in-Some.i in
    let found : Some i ≡ seek (named a.n a.v) (rows a.value.now 0 a.m) 0 = c.in-Some.ensures in
    let l = found_inside a.g.p (0, named a.n a.v) (rows a.value.now 0 a.m) i found in
    (P.0, P.1, P.2, omega (arith, l, length_rows a.value.now 0 a.m), P.3, P.4)

pub returns-in-Ok-On : goal.returns-in-Ok-On
returns-in-Ok-On c =
    let a = c.args in
    let s = c.step_at in
    let i = c.in-Some.i in
    let found : Some i ≡ seek (named a.n a.v) (rows a.value.now 0 a.m) 0 = c.in-Some.ensures in
    let told = rw c.in-Ok-On.field-0-is at c.in-Ok-On.ensures in (
      λ above. pick_on (stage_of a.g a.level.now a.tables.now above) a.k a.place (run_of a.value.now a.m a.vector.now a.u)
          (named a.n a.v) i found (run_of s.new.value c.in-Ok-On.a s.new.vector c.in-Ok-On.b) (told.0 above),
      told.1,
    )

pub returns-in-Ok-Stopped : goal.returns-in-Ok-Stopped
returns-in-Ok-Stopped c =
    let a = c.args in
    let i = c.in-Some.i in
    let found : Some i ≡ seek (named a.n a.v) (rows a.value.now 0 a.m) 0 = c.in-Some.ensures in
    let above = order_of a.g a.tables.now in
    let told = rw c.in-Ok-Stopped.field-0-is at c.in-Ok-Stopped.ensures in
    absurd (never_stopped (stage_of a.g a.level.now a.tables.now above) a.k a.place (run_of a.value.now a.m a.vector.now a.u)
    (named a.n a.v) i found _ (told.0 above))

pub returns-in-Err : goal.returns-in-Err
returns-in-Err c =
    let a = c.args in
    let i = c.in-Some.i in
    let found : Some i ≡ seek (named a.n a.v) (rows a.value.now 0 a.m) 0 = c.in-Some.ensures in
    let told = c.in-Err.ensures in (
      λ above. pick_refused (stage_of a.g a.level.now a.tables.now above) a.k a.place (run_of a.value.now a.m a.vector.now a.u)
          (named a.n a.v) i found (number_of c.in-Err.refusal) (told.0 above),
      tt,
    )
