use borrow.Author.Rules.{rules}
use native.Mathlib.Omega.{arith}
use mathlib.Core.Bool.{Bool}
use mathlib.Core.List.{List}
use Prim.Native.Nat.{ℕ}
use lib.ListN.{get_or}
use Rattle.definitions.specs.Limits.{document_01}
use Rattle.definitions.specs.Layout.{Words, degrees_at}
use Rattle.definitions.specs.Monomial.{Monomial}
use Rattle.definitions.specs.Bidegrees.{bidegree, same_bidegree?, bihomogeneous, bidegree_lines}
use Rattle.columns.specs.weights.Keys.{weights_of}
use Rattle.columns.proofs.mixed.Unless.{unmixed_passes, mixed_refuses}
use Rattle.listing.proofs.whole.Whole.{test_passed, test_refused}
use Rattle.bidegree_page.proofs.whole.print_accepted.Goals as goal

-- as 25 compares terms
abbrev same? : List (ℕ × ℕ) → Words → Monomial → Monomial → Bool
same? ws s m m' = same_bidegree? (bidegree ws (degrees_at document_01 s) m) (bidegree ws (degrees_at document_01 s) m')

pub returns-in-None : goal.returns-in-None
returns-in-None c =
    let s = c.args.state.now in
    let ws = c.args.ws in
    let P = c.requires in
    let R = c.print_lifted.ensures in
    let W = weights_of (get_or s 1 0) ws in (
      test_passed (bihomogeneous W) (bidegree_lines W) s (unmixed_passes (same? W s) 25 s P.1 c.in-None.ensures) R.0,
      R.1,
    )

pub returns-in-Some : goal.returns-in-Some
returns-in-Some c =
    let s = c.args.state.now in
    let ws = c.args.ws in
    let P = c.requires in
    let q = c.x_line.ensures in
    let place = c.in-Some.place in
    let W = weights_of (get_or s 1 0) ws in (
      test_refused (bihomogeneous W) (bidegree_lines W) s 25 place (mixed_refuses (same? W s) 25 s P.1 place c.in-Some.ensures) q.0,
      omega (arith, q.1),
    )
