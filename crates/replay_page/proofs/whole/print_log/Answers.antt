use borrow.Author.Rules.{rules}
use native.Mathlib.Omega.{arith}
use mathlib.Core.Path.{◌≡◌, sym, ap, ◌∙◌}
use mathlib.Core.Option.{none, some}
use Prim.Native.Nat.{◌+◌, ◌-◌, ◌≤◌}
use lib.ListN.{length, take, drop}
use lib.Seq.{length-take-le}
use Rattle.definitions.specs.Replay.{letter_L}
use Rattle.reader.specs.fields.Scanning.{shaped_first, in_sixteen}
use Rattle.replay_page.proofs.whole.Whole.{no_line, line_taken}
use Rattle.replay_page.proofs.whole.print_log.Goals as goal

pub slice_bounds-lines_in-end : goal.slice_bounds-lines_in-end
slice_bounds-lines_in-end c =
    sym (length-take-le c.args.end c.args.input.now
    c.requires.3)

pub overflow_add-first : goal.overflow_add-first
overflow_add-first c =
    omega (
      arith,
      c.lines_in-first.ensures.1,
      length-take-le c.args.end
          c.args.input.now c.requires.3,
      c.requires.4,
    )

pub returns-in_default : goal.returns-in_default
returns-in_default c =
    let a = c.args in
    let P = c.requires in
    let li = c.lines_in-first in
    let p = c.x_line in
    let said : none ≡ in_sixteen (shaped_first 65535 letter_L 2 (drop a.end a.input.now)) = c.in_default.ensures in (
      no_line a.state.now a.input.now a.end (li.result + 1) P.2 (ap (λ x. x + 1) li.ensures.0) said p.ensures.0,
      omega (arith, p.ensures.1),
    )

pub print_level-requires : goal.print_level-requires
print_level-requires c =
    let a = c.args in
    let P = c.requires in
    let li = c.lines_in-first in
    (P.0, P.1, omega (arith, li.ensures.1, length-take-le a.end a.input.now P.3, P.4), P.5, P.6)

pub returns : goal.returns
returns c =
    let a = c.args in
    let P = c.requires in
    let line = c.in-Some.line in
    let li = c.lines_in-first in
    let L = c.print_level in
    let said : some (line.numbers, drop line.next a.input.now) ≡ in_sixteen (shaped_first 65535 letter_L 2 (drop a.end a.input.now)) =
    c.in-Some.ensures in (
      line_taken a.state.now a.input.now a.end (li.result + 1) P.2 (ap (λ x. x + 1) li.ensures.0) line.numbers
          (drop line.next a.input.now) said L.ensures.0,
      L.ensures.1,
    )
