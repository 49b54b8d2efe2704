use borrow.Author.Rules.{rules}
use native.Mathlib.Omega.{arith}
use mathlib.Core.Path.{◌≡◌, ap, ◌∙◌}
use Prim.Native.Nat.{suc, ◌+◌, ◌-◌}
use Rattle.definitions.specs.Limits.{document_01}
use Rattle.definitions.specs.Layout.{decode}
use Rattle.ranks.specs.Blocks.{marked}
use Rattle.columns.specs.counting.Columns.{columns_of}
use Rattle.minimal_page.proofs.numbers.Marking.{number_is}
use Rattle.minimal_page.proofs.numbers.minimal_number.Goals as goal

pub returns : goal.returns
returns c =
    let a = c.args in
    let s = a.state.now in
    let holds = c.requires.0.holds in
    let count = c.betti_count-count.ensures in
    let leaving = c.marked-leaving.ensures.0 in
    let entering = c.marked-entering.ensures.0 in
    let e : a.c + 1 ≡ suc a.c = omega arith in
    c.saturating_sub.ensures ∙ ap (λ k. k - (c.marked-leaving.result + c.marked-entering.result)) c.place.ensures.0
    ∙ number_is s holds a.r a.c count leaving (entering ∙ ap (marked (decode document_01 s) (columns_of s) (a.r + a.c)) e)
