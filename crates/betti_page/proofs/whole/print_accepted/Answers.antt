use borrow.Author.Rules.{rules}
use native.Mathlib.Omega.{arith}
use Rattle.definitions.specs.Limits.{document_01}
use Rattle.definitions.specs.Layout.{degrees_at}
use Rattle.definitions.specs.Betti.{same_degree?, homogeneous, betti_page}
use Rattle.columns.proofs.mixed.Unless.{unmixed_passes, mixed_refuses}
use Rattle.listing.proofs.whole.Whole.{test_passed, test_refused}
use Rattle.betti_page.proofs.whole.print_accepted.Goals as goal

pub returns-in-None : goal.returns-in-None
returns-in-None c =
    let s = c.args.state.now in
    let P = c.requires in
    let R = c.print_lifted.ensures in
    (test_passed homogeneous betti_page s (unmixed_passes (same_degree? (degrees_at document_01 s)) 17 s P.1 c.in-None.ensures) R.0, R.1)

pub returns-in-Some : goal.returns-in-Some
returns-in-Some c =
    let s = c.args.state.now in
    let P = c.requires in
    let q = c.x_line.ensures in
    let place = c.in-Some.place in (
      test_refused homogeneous betti_page s 17 place
          (mixed_refuses (same_degree? (degrees_at document_01 s)) 17 s P.1 place c.in-Some.ensures) q.0,
      omega (arith, q.1),
    )
