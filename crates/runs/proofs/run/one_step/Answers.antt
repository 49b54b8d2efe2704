use native.Mathlib.Omega.{arith}
use mathlib.Core.Path.{ap, ◌∙◌}
use Rattle.definitions.specs.Run.{by_pick}
use Rattle.runs.specs.run.Stages.{order_of, stage_of, strategy_of, run_of}
use Rattle.runs.proofs.run.Stepping.{inside}
use Rattle.runs.proofs.run.one_step.Goals as goal

pub pick-i-requires : goal.pick-i-requires
pick-i-requires c =
    let asked = c.requires in (
      asked.4,
      omega (arith, asked.3.value_fits, asked.5),
      omega (arith, asked.0.long),
      asked.2.fits,
      asked.2.tabled,
    )

pub step_at-requires : goal.step_at-requires
step_at-requires c =
    let a = c.args in
    let asked = c.requires in
    let pick-there = c.pick-i in (
      asked.0,
      asked.1,
      asked.3,
      inside a.value.now a.n (order_of a.g a.tables.now) a.w.pick pick-there.result pick-there.ensures,
      asked.5,
      asked.6,
    )

pub returns : goal.returns
returns c =
    let a =
    c.args in
    let s = c.step_at in
    let pick-there = c.pick-i in (
      λ above. s.ensures.0 above
          ∙ ap (by_pick (stage_of a.g a.level.now a.tables.now above) (strategy_of a.g a.tables.now a.w)
          (run_of a.value.now a.n a.vector.now a.v)) pick-there.ensures,
      s.ensures.1,
    )
