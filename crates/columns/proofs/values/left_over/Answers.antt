use native.Mathlib.Omega.{arith}
use mathlib.Core.Path.{sym, ap, ◌∙◌, subst}
use Prim.Native.Nat.{◌-◌, ◌<◌, ◌≤◌}
use Rattle.definitions.specs.Pascal.{monomials}
use Rattle.standard_monomials.specs.Table.{most_monomials}
use Rattle.standard_monomials.proofs.Triangle.{table_right}
use Rattle.columns.proofs.values.Adding.{left_none, left_some}
use Rattle.columns.proofs.values.left_over.Goals as goal

pub returns-then-d-own : goal.returns-then-d-own
returns-then-d-own c =
    let a = c.args in
    let w = c.place-own.ensures.0 in
    let h : a.d < a.g = omega arith in
    (sym (left_none a.n a.d a.g h), omega arith)

pub returns : goal.returns
returns c =
    let a = c.args in
    let P = c.requires in
    let w = c.place-own.ensures.0 in
    let h : a.g ≤ a.d = omega arith in
    let e = c.monomials.ensures ∙ ap (λ x. monomials a.n (a.d - x)) w in
    (e ∙ sym (left_some a.n a.d a.g h), subst (λ x. x ≤ most_monomials) (sym e) (table_right.few a.n (a.d - a.g) P.0 P.1 (omega arith)))
