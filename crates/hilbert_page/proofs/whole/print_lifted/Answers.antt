use borrow.Author.Rules.{rules}
use native.Mathlib.Omega.{arith}
use Rattle.definitions.specs.Hilbert.{hilbert_lines}
use Rattle.listing.proofs.whole.Whole.{page_printed, level_refused}
use Rattle.hilbert_page.proofs.whole.print_lifted.Goals as goal

pub returns-in-Ok : goal.returns-in-Ok
returns-in-Ok c =
    let s = c.args.state.now in
    let L = c.lift_levels in
    let t = L.new.state in
    let R = L.ensures.0 in
    let Q = c.print_lines.ensures in
    (page_printed hilbert_lines s t R.0 L.result R.1 c.in-Ok.is Q.0, Q.1)

pub returns-in-Err : goal.returns-in-Err
returns-in-Err c =
    let s = c.args.state.now in
    let L = c.lift_levels in
    let R = L.ensures.0 in
    let q = c.x_line.ensures in
    let e = c.in-Err.refused in
    (level_refused hilbert_lines s L.new.state R.0 L.result R.1 e c.in-Err.is q.0, omega (arith, q.1))
