use native.Mathlib.Omega.{arith}
use mathlib.Core.Path.{sym, ap, ◌∙◌, subst}
use mathlib.Core.Option.{some}
use Rattle.definitions.specs.Layout.{divide_left}
use Rattle.dividing.specs.over.Parts.{parts_as, Few}
use Rattle.divide_call.proofs.DivideCall.{none_kept}
use Rattle.divide_call.proofs.settle.Goals as goal

pub zero_behind-requires : goal.zero_behind-requires
zero_behind-requires c =
    let few = subst Few c.in-Ok.is c.requires.2 in
    omega (arith, few.0, c.requires.0)

pub zero_behind-requires-in-Ok : goal.zero_behind-requires-in-Ok
zero_behind-requires-in-Ok c =
    let few = subst Few c.in-Ok.is c.requires.2 in
    omega (arith, few.1, c.requires.1)

pub returns-in-Ok : goal.returns-in-Ok
returns-in-Ok c =
    let quotients = c.args.quotients.now in
    let remainder = c.args.remainder.now in
    (λ i. some (0, 0, c.zero_behind.ensures i, c.zero_behind-in-Ok.ensures i))
    ∙ sym (ap (λ y. divide_left quotients remainder (parts_as y quotients remainder)) c.in-Ok.is)

pub returns-in-Err : goal.returns-in-Err
returns-in-Err c =
    let quotients = c.args.quotients.now in
    let remainder = c.args.remainder.now in
    (λ i. some (c.number.ensures i, 0, (c.clear.ensures ∙ none_kept quotients) i, (c.clear-in-Err.ensures ∙ none_kept remainder) i))
    ∙ sym (ap (λ y. divide_left quotients remainder (parts_as y quotients remainder)) c.in-Err.is)
