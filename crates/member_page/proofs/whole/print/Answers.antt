use native.Mathlib.Omega.{arith}
use mathlib.Core.Path.{sym}
use lib.ListN.{take}
use lib.Seq.{length-take-le}
use Rattle.definitions.specs.Limits.{document_01}
use Rattle.definitions.specs.Membership.{membership_of}
use Rattle.members.proofs.Membership.{of_steady}
use Rattle.listing.proofs.whole.Whole.{begun_basis, begun_stops, accepted_page, refused_page}
use Rattle.inputs.proofs.Ends.{problem_short}
use Rattle.member_page.proofs.whole.Whole.{file_prints}
use Rattle.member_page.proofs.whole.print.Goals as goal

pub slice_bounds-begin-end : goal.slice_bounds-begin-end
slice_bounds-begin-end c =
    let a = c.args in
    sym (length-take-le c.file_end-end.result a.input.now c.file_end-end.ensures.1)

pub print_vector-requires : goal.print_vector-requires
print_vector-requires c =
    let a =
    c.args in
    let asked =
    c.requires in
    let b =
    c.begin in
    let end =
    c.file_end-end in
    let file = take end.result a.input.now in
    let B = begun_basis file b.new.state a.out.now b.new.out b.result b.ensures c.in-Ok.is in (
      B.base,
      B.alone,
      end.ensures.0,
      end.ensures.1,
      omega (arith, problem_short file B.said B.says, length-take-le end.result a.input.now end.ensures.1),
      omega (arith, asked.1),
      omega (arith, asked.2),
    )

pub returns-in-Ok : goal.returns-in-Ok
returns-in-Ok c =
    let a =
    c.args in
    let b =
    c.begin in
    let end =
    c.file_end-end in
    let input = a.input.now in
    let R = c.print_vector.ensures in (
      file_prints input end.result end.ensures.0
          (accepted_page (take end.result input) (λ n. membership_of document_01 n input) b.new.state a.out.now b.new.out b.result
          b.ensures (of_steady document_01 tt input) c.in-Ok.is R.0),
      R.1,
    )

pub returns-in-Err : goal.returns-in-Err
returns-in-Err c =
    let a =
    c.args in
    let b =
    c.begin in
    let end =
    c.file_end-end in
    let input = a.input.now in
    let file = take end.result input in (
      file_prints input end.result end.ensures.0
          (refused_page file (λ n. membership_of document_01 n input) b.new.state a.out.now b.new.out b.result b.ensures
          c.in-Err.length c.in-Err.is),
      omega (arith, (begun_stops file b.new.state a.out.now b.new.out b.result b.ensures c.in-Err.length c.in-Err.is).fits),
    )
