use borrow.Author.Rules.{rules}
use native.Mathlib.Omega.{arith}
use mathlib.Core.Path.{sym, subst}
use lib.Dec.{T}
use Prim.Native.Nat.{ℕ}
use lib.ListN.{get_or}
use Rattle.definitions.specs.Limits.{document_01}
use Rattle.definitions.specs.Result.{Result, ◌>>=◌}
use Rattle.definitions.specs.Problem.{Bytes, head}
use Rattle.definitions.specs.State.{State}
use Rattle.definitions.specs.Bidegrees.{bidegrees_of}
use Rattle.bigraded.proofs.Ends.{bidegrees_of_steady}
use Rattle.columns.specs.weights.Keys.{weights_of}
use Rattle.listing.proofs.whole.Whole.{begun_basis, begun_stops, accepted_page, refused_page}
use Rattle.bidegree_page.proofs.whole.Weighing.{by_own_weights}
use Rattle.bidegree_page.proofs.whole.print.Goals as goal

pub print_accepted-requires : goal.print_accepted-requires
print_accepted-requires c =
    let P = c.requires in
    let a = c.args in
    let b = c.begin in
    let told = c.in-Ok.is in
    let fits = c.weights-ws.ensures.1 in
    let B = begun_basis a.file.now b.new.state a.out.now b.new.out b.result b.ensures told in
    (B.base, B.alone, omega (arith, P.1), omega (arith, P.2), subst T (sym fits) tt)

pub returns-in-Ok : goal.returns-in-Ok
returns-in-Ok c =
    let a = c.args in
    let b = c.begin in
    let told = c.in-Ok.is in
    let w = c.weights-ws in
    let R = c.print_accepted.ensures in
    let s = b.new.state in
    let W = weights_of (get_or s 1 0) w.result in
    let B = begun_basis a.file.now s a.out.now b.new.out b.result b.ensures told in (
      by_own_weights a.file.now s B w.result w.ensures.0
          (accepted_page a.file.now (λ n. bidegrees_of document_01 n W) s a.out.now b.new.out b.result b.ensures
          (bidegrees_of_steady document_01 W) told R.0),
      R.1,
    )

pub returns-in-Err : goal.returns-in-Err
returns-in-Err c =
    let a = c.args in
    let b = c.begin in
    let file = a.file.now in
    let page : ℕ → State → Result Bytes = λ n X. head document_01 file >>= λ h. bidegrees_of document_01 n h.weights X in (
      refused_page file page b.new.state a.out.now b.new.out b.result b.ensures c.in-Err.length c.in-Err.is,
      omega (arith, (begun_stops file b.new.state a.out.now b.new.out b.result b.ensures c.in-Err.length c.in-Err.is).fits),
    )
