use mathlib.Core.Path.{sym, ap, ◌∙◌}
use Rattle.runs.specs.run.Stages.{without_step, without_words}
use Rattle.runs.proofs.run.without_reducer.Goals as goal

pub returns-then-stops : goal.returns-then-stops
returns-then-stops c = (
  sym (ap (λ b. without_step b c.args.n c.args.v) c.if-stops.true),
  sym (ap (λ b. without_words b c.args.value.now c.args.n c.args.i) c.if-stops.true),
)

pub returns : goal.returns
returns c = (
  sym (ap (λ b. without_step b c.args.n
      c.args.v) c.if-stops.false),
  c.remove.ensures
      ∙ sym (ap (λ b. without_words b c.args.value.now
      c.args.n c.args.i)
      c.if-stops.false),
)
