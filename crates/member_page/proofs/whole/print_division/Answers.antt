use native.Mathlib.Omega.{arith}
use mathlib.Core.Path.{ap}
use Rattle.definitions.specs.Layout.{rows}
use Rattle.pages.proofs.bytes.Spelling.{spelled}
use Rattle.words.specs.refusals.Numbers.{number_of}
use Rattle.member_page.specs.page.Lines.{lines_of}
use Rattle.member_page.proofs.whole.Whole.{few, parts_printed, parts_refused}
use Rattle.member_page.proofs.whole.print_division.Goals as goal

pub print_lines-requires : goal.print_lines-requires
print_lines-requires c =
    let a =
    c.args in
    let asked =
    c.requires in
    let d =
    c.divide_vector in
    let s = a.state.now in
    let left = c.in-Ok.ensures.1 in (
      omega (arith, few s asked.0 asked.1, c.place-m.ensures.0),
      left.0,
      left.1,
      omega (arith, left.0),
      omega (arith, left.1),
      omega (arith, asked.5),
    )

pub returns-in-Ok : goal.returns-in-Ok
returns-in-Ok c =
    let a =
    c.args in
    let asked =
    c.requires in
    let d =
    c.divide_vector in
    let s = a.state.now in
    let place_there = c.place-m in
    let p = c.print_lines in
    let v = c.in-Ok.divided.quotients in
    let r = c.in-Ok.divided.remainder in
    let quotients = rows d.new.quotients 0 v in
    let remainder = rows d.new.remainder 0 r in (
      parts_printed s asked.0 asked.1 c.in-Ok.ensures.0.0 (rows a.work.now 0 a.n) quotients remainder
          c.in-Ok.ensures.0.1
          (spelled (ap (λ n. lines_of n quotients remainder) place_there.ensures.0) p.ensures.0),
      p.ensures.1,
    )

pub returns-in-Err : goal.returns-in-Err
returns-in-Err c =
    let a =
    c.args in
    let asked =
    c.requires in
    let d =
    c.divide_vector in
    let s = a.state.now in
    let p = c.x_line in (
      parts_refused s asked.0 asked.1 c.in-Err.ensures.0.0 (rows a.work.now 0 a.n) (number_of c.in-Err.refusal)
          c.in-Err.ensures.0.1 p.ensures.0,
      omega (arith, p.ensures.1),
    )
