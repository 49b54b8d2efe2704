use borrow.Author.Rules.{rules}
use native.Mathlib.Omega.{arith}
use Rattle.minimal_page.proofs.whole.Stages.{last_none, last_some}
use Rattle.minimal_page.proofs.whole.print_tested.Goals as goal

pub returns-then-count-eq0 : goal.returns-then-count-eq0
returns-then-count-eq0 c =
    let s = c.args.state.now in
    let n = c.column_length-count in
    let none = c.if-count-eq0.true in
    let q = c.print_page.ensures in
    (last_none s n.result n.ensures none q.0, q.1)

pub returns : goal.returns
returns c =
    let s = c.args.state.now in
    let n = c.column_length-count in
    let some = c.if-count-eq0.false in
    let q = c.x_line.ensures in
    (last_some s n.result n.ensures some q.0, omega (arith, q.1))
