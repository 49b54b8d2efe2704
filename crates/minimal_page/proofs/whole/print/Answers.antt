use borrow.Author.Rules.{rules}
use native.Mathlib.Omega.{arith}
use Rattle.definitions.specs.Limits.{document_01}
use Rattle.definitions.specs.Minimal.{minimal_of}
use Rattle.listing.proofs.whole.Whole.{begun_basis, begun_stops, accepted_page, refused_page}
use Rattle.minimal_numbers.proofs.Ends.{minimal_of_steady}
use Rattle.minimal_page.proofs.whole.print.Goals as goal

pub print_accepted-requires : goal.print_accepted-requires
print_accepted-requires c =
    let P = c.requires in
    let a = c.args in
    let b = c.begin in
    let told = c.in-Ok.is in
    let B = begun_basis a.file.now b.new.state a.out.now b.new.out b.result b.ensures told in
    (B.base, B.alone, omega (arith, P.1), omega (arith, P.2))

pub returns-in-Ok : goal.returns-in-Ok
returns-in-Ok c =
    let a = c.args in
    let b = c.begin in
    let told = c.in-Ok.is in
    let R = c.print_accepted.ensures in (
      accepted_page a.file.now (minimal_of document_01) b.new.state a.out.now b.new.out b.result b.ensures
          (minimal_of_steady document_01) told R.0,
      R.1,
    )

pub returns-in-Err : goal.returns-in-Err
returns-in-Err c =
    let a = c.args in
    let b = c.begin in (
      refused_page a.file.now (minimal_of document_01) b.new.state a.out.now b.new.out b.result b.ensures c.in-Err.length c.in-Err.is,
      omega (arith, (begun_stops a.file.now b.new.state a.out.now b.new.out b.result b.ensures c.in-Err.length c.in-Err.is).fits),
    )
