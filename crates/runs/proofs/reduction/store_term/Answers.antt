use native.Mathlib.Omega.{arith}
use mathlib.Core.Path.{sym, ◌∙◌, subst, ◌≡◌}
use Rattle.runs.proofs.reduction.Adding.{stored_added, store_within}
use Rattle.definitions.specs.Vectors.{store}
use Rattle.definitions.specs.Layout.{rows}
use Rattle.laws.proofs.Rows.{length_rows}
use Rattle.vectors.specs.terms.Rows.{term_of}
use Rattle.runs.specs.reduction.Grounds.{added_of, Within}
use Rattle.runs.proofs.reduction.store_term.Goals as goal

pub returns : goal.returns
returns c =
    let a = c.args in
    let s = c.store in
    subst (λ x. (added_of x s.new.s ≡ store a.limit a.p (term_of a.t) (rows a.s.now 0 a.n)) × Within a.limit x) (sym c.ok_or.ensures.value) (
      stored_added s.result s.new.s ∙ s.ensures,
      store_within a.limit a.p (term_of a.t) (rows a.s.now 0 a.n) s.result s.new.s (omega (arith, length_rows a.s.now 0 a.n)) s.ensures,
    )
