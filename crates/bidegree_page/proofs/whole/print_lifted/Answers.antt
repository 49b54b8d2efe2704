use borrow.Author.Rules.{rules}
use native.Mathlib.Omega.{arith}
use mathlib.Core.Path.{ap}
use lib.ListN.{get_or}
use Rattle.definitions.specs.Limits.{document_01}
use Rattle.definitions.specs.Layout.{decode}
use Rattle.definitions.specs.Bidegrees.{bidegree_lines}
use Rattle.columns.specs.weights.Keys.{weights_of}
use Rattle.pages.proofs.bytes.Spelling.{spelled}
use Rattle.listing.proofs.whole.Whole.{parameters_stay, page_printed, level_refused}
use Rattle.bidegree_page.proofs.whole.print_lifted.Goals as goal

pub returns-in-Ok : goal.returns-in-Ok
returns-in-Ok c =
    let s = c.args.state.now in
    let ws = c.args.ws in
    let L = c.lift_levels in
    let t = L.new.state in
    let R = L.ensures.0 in
    let Q = c.print_lines.ensures in
    let same = parameters_stay s t R.0 L.result R.1 in (
      page_printed (bidegree_lines (weights_of (get_or s 1 0) ws)) s t R.0 L.result R.1 c.in-Ok.is
          (spelled (ap (λ q. bidegree_lines (weights_of q.n ws) (decode document_01 t)) same) Q.0),
      Q.1,
    )

pub returns-in-Err : goal.returns-in-Err
returns-in-Err c =
    let s = c.args.state.now in
    let ws = c.args.ws in
    let L = c.lift_levels in
    let R = L.ensures.0 in
    let q = c.x_line.ensures in
    let e = c.in-Err.refused in
    let page = bidegree_lines (weights_of (get_or s 1 0) ws) in
    (level_refused page s L.new.state R.0 L.result R.1 e c.in-Err.is q.0, omega (arith, q.1))
