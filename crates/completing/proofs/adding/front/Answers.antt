use borrow.Author.Rules.{rules}
use native.Mathlib.Omega.{arith}
use mathlib.Core.Path.{sym, ap, ◌∙◌}
use Prim.Native.Nat.{◌+◌, ◌-◌}
use Rattle.pages.proofs.bytes.Spelling.{few_digits}
use Rattle.completing.proofs.adding.Longer.{end_length}
use Rattle.completing.proofs.adding.front.Goals as goal

pub overflow_add-width : goal.overflow_add-width
overflow_add-width c = omega (arith, c.width.ensures, few_digits 4 c.args.count (omega (arith, c.requires)))

pub returns : goal.returns
returns c =
    let a = c.args in
    let l = c.saturating_sub.ensures in
    (l ∙ ap (λ k. a.size - k) (ap (λ k. k + 3) c.width.ensures ∙ sym (end_length a.count)), omega (arith, l))
