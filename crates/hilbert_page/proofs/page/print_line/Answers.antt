use borrow.Author.Rules.{rules}
use native.Mathlib.Omega.{arith}
use mathlib.Core.Path.{refl, ap, ◌∙◌}
use Rattle.definitions.specs.Hilbert.{hilbert_value}
use Rattle.pages.proofs.bytes.Spelling.{spelled}
use Rattle.columns.specs.counting.Columns.{columns_of}
use Rattle.columns.proofs.values.Adding.{some_variable, few_variables}
use Rattle.hilbert_page.proofs.page.Lines.{line_is}
use Rattle.hilbert_page.proofs.page.print_line.Goals as goal

pub hilbert_value-value-requires : goal.hilbert_value-value-requires
hilbert_value-value-requires c =
    let s = c.args.state.now in
    let P = c.requires in
    (P.0, P.1, omega (arith, some_variable s P.1, P.2), omega (arith, few_variables s P.1, P.2), omega arith)

pub returns : goal.returns
returns c =
    let a = c.args in
    let P = c.requires in
    let s = a.state.now in
    let H = c.hilbert_value-value in
    let q = c.pair_line.ensures in
    let v = H.ensures.0 ∙ ap (λ n. hilbert_value n (columns_of s) a.d) P.2 in
    (spelled (line_is s a.d H.result a.d refl v) q.0, q.1)
