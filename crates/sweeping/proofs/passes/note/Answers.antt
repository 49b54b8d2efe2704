use Rattle.sweeping.proofs.Visits.{choose_zero, choose_other, not_zero, not_other}
use Rattle.vectors.proofs.terms.Stored.{rows_appended}
use Rattle.vectors.specs.terms.Rows.{term_of}
use Rattle.definitions.specs.Layout.{rows}
use native.Mathlib.Omega.{arith}
use mathlib.Core.Path.{sym, ap, ◌∙◌}
use mathlib.Core.List.{[], ◌∷◌, ◌++◌}
use Prim.Native.Nat.{◌+◌}
use Rattle.sweeping.proofs.passes.note.Goals as goal

pub returns-then-t-eq0 : goal.returns-then-t-eq0
returns-then-t-eq0 c =
    let a = c.args in let z = c.if-t-eq0.true in
    let v = rows a.vector.now 0 a.k in (
      sym (choose_zero a.t.monomial.component v (v ++ term_of a.t ∷ []) z),
      not_zero a.t.monomial.component z,
      omega arith,
    )

pub returns : goal.returns
returns c =
    let a = c.args in let z = c.if-t-eq0.false in
    let v = rows a.vector.now 0 a.k in
    let e = c.put.ensures in (
      ap (λ s. rows s 0 (a.k + 1)) e.0 ∙ rows_appended a.vector.now a.k (term_of a.t) c.requires e.1
          ∙ sym (choose_other a.t.monomial.component v (v ++ term_of a.t ∷ []) z),
      not_other a.t.monomial.component z,
      omega arith,
    )
