use borrow.Author.Rules.{rules}
use native.Mathlib.Omega.{arith}
use Rattle.listing.proofs.whole.Whole.{begun_basis, begun_stops, accepted_sheet, refused_sheet}
use Rattle.listing.proofs.whole.print.Goals as goal

pub print_lifted-requires : goal.print_lifted-requires
print_lifted-requires c =
    let P = c.requires in
    let a = c.args in
    let b = c.begin in
    let told = c.in-Ok.is in
    let B = begun_basis a.file.now b.new.state a.out.now b.new.out b.result b.ensures told in
    (B.base, B.alone, omega (arith, P.1), omega (arith, P.2))

pub returns-in-Ok : goal.returns-in-Ok
returns-in-Ok c =
    let a = c.args in
    let b = c.begin in
    let told = c.in-Ok.is in
    let R = c.print_lifted.ensures in
    (accepted_sheet a.file.now b.new.state a.out.now b.new.out b.result b.ensures told R.0, R.1)

pub returns-in-Err : goal.returns-in-Err
returns-in-Err c =
    let a = c.args in
    let b = c.begin in (
      refused_sheet a.file.now b.new.state a.out.now b.new.out b.result b.ensures c.in-Err.length c.in-Err.is,
      omega (arith, (begun_stops a.file.now b.new.state a.out.now b.new.out b.result b.ensures c.in-Err.length c.in-Err.is).fits),
    )
