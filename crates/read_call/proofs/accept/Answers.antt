use native.Mathlib.Omega.{arith}
use mathlib.Core.Path.{sym, ap, ◌∙◌, subst}
use lib.ListN.{length}
use Rattle.std.proofs.Common.{Ok}
use Rattle.words.specs.refusals.Numbers.{number_of}
use Rattle.read_call.proofs.ReadCall.{accept_yes, accept_refused, accept_stopped, accept_over}
use Rattle.level.specs.by_runs.Stages.{accepted_with, Shown}
use Rattle.read_call.proofs.accept.Goals as goal

pub returns-in-Ok-Yes : goal.returns-in-Ok-Yes
returns-in-Ok-Yes c =
    let a = c.args in let P = c.requires in let s = a.state.now in let x = c.accept_level in
    let n = x.ensures.0 in let v = x.ensures.1 in let area = length a.work.now in let w = x.new.work in (
      n,
      ap (λ z. (0, 0, s, z)) c.clear.ensures ∙ accept_yes s P.0.long P.1 area n v w (omega arith)
          (sym (ap (λ y. accepted_with y v) (c.in-Ok-Yes.is ∙ ap Ok c.in-Ok-Yes.field-0-is)) ∙ x.ensures.2),
      accept_over s P.0.long P.1 area n v x.result x.ensures.2,
    )

pub returns-in-Err : goal.returns-in-Err
returns-in-Err c =
    let a = c.args in let P = c.requires in let s = a.state.now in let x = c.accept_level in
    let n = x.ensures.0 in let v = x.ensures.1 in let area = length a.work.now in let w = x.new.work in
    let e = c.in-Err.refused in let number = number_of e.refusal in (
      n,
      (λ i. (number, e.place, c.clear-in-Err.ensures i, c.clear-in-Err-2.ensures i))
          ∙ accept_refused s P.0.long P.1 area n v number e.place w (omega arith)
          (sym (ap (λ y. accepted_with y v) c.in-Err.is) ∙ x.ensures.2),
      accept_over s P.0.long P.1 area n v x.result x.ensures.2,
    )

pub returns-in-Ok-Stopped : goal.returns-in-Ok-Stopped
returns-in-Ok-Stopped c =
    let a = c.args in let P = c.requires in let s = a.state.now in let x = c.accept_level in
    let n = x.ensures.0 in let v = x.ensures.1 in let area = length a.work.now in let w = x.new.work in
    let place = c.in-Ok-Stopped.place in let e = c.in-Ok-Stopped.is ∙ ap Ok c.in-Ok-Stopped.field-0-is in (
      n,
      (λ i. (9, place, c.clear-in-Ok-Stopped.ensures i, w)) ∙ accept_stopped s P.0.long P.1 area n v place w (omega arith)
          (subst (λ y. Shown y v w) e x.ensures.3).0
          (sym (ap (λ y. accepted_with y v) e) ∙ x.ensures.2),
      accept_over s P.0.long P.1 area n v x.result x.ensures.2,
    )
