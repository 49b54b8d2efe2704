use native.Mathlib.Omega.{arith}
use native.Mathlib.Nat.{not-suc-le-zero}
use mathlib.Core.Path.{◌≡◌, sym, ap, ◌∙◌}
use Rattle.words.specs.refusals.Numbers.{number_of}
use Rattle.words.proofs.Numbered.{number_positive}
use Rattle.lift_call.specs.Lifts.{number_in}
use Rattle.lift_call.proofs.LiftCall.{kept_reply, emptied_reply}
use Rattle.lift_call.proofs.settle.Goals as goal

pub returns-in_default : goal.returns-in_default
returns-in_default c =
    let a = c.args in
    (λ i. ((c.of.ensures i).0, (c.of.ensures i).1, a.state.now, c.clear.ensures i, c.clear-2.ensures i))
    ∙ kept_reply (number_in a.lifted) a.k a.state.now a.work.now a.cache.now (ap number_in c.in_default.is)

pub returns : goal.returns
returns c =
    let a = c.args in
    let e : number_in a.lifted ≡ number_of c.in-Err.refusal = ap number_in c.in-Err.is in
    (λ i. ((c.refused.ensures.0 ∙ sym e) i, c.refused.ensures.1 i, c.clear-3.ensures i, c.clear.ensures i, c.clear-2.ensures i))
    ∙ emptied_reply (number_in a.lifted) a.k a.state.now a.work.now a.cache.now
    (λ z. not-suc-le-zero {n = 0} (omega (arith, z, e, number_positive c.in-Err.refusal)))
