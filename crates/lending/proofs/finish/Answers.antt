use mathlib.Core.Path.{◌∙◌}
use native.Mathlib.Nat.{sub-zero}
use lib.ListN.{length, replicate}
use Rattle.vectors.specs.terms.Rows.{cleared}
use Rattle.lending.specs.Called.{told_of}
use Rattle.lending.proofs.finish.Goals as goal

pub returns : goal.returns
returns c =
    let a = c.args in
    let page = c.clear in
    (λ i. told_of 0 a.n (c.clear-2.ensures i) (c.clear-3.ensures i) (page.ensures i))
    ∙ (λ i. told_of 0 a.n (replicate (sub-zero (length a.state.now) i) 0) (replicate (sub-zero (length a.work.now) i) 0)
    (cleared a.out.now a.n))
