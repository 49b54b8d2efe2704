use native.Mathlib.Omega.{arith}
use mathlib.Core.Path.{◌≡◌, refl}
use Prim.Native.Nat.{suc, ◌-◌, ◌*◌, ◌≤◌}
use lib.ListN.{length}
use Rattle.pages.specs.bytes.Printing.{Printed}
use Rattle.pages.proofs.bytes.Spelling.{nothing, after, spelled}
use Rattle.minimal_page.specs.page.Lines.{lines_from, totals_from}
use Rattle.minimal_page.proofs.page.Lines.{no_lines, lines_more, whole_page}
use Rattle.minimal_page.proofs.page.Totals.{no_totals, totals_more, totals_fit}
use Rattle.minimal_page.proofs.page.print_lines.Goals as goal

pub loop-r-init : goal.loop-r-init
loop-r-init c =
    let a = c.args in
    let R = c.requires.1.ordered in
    let s = a.state.now in (
      omega arith,
      omega (arith, R),
      refl,
      spelled (no_lines s a.low (a.low - a.low) (omega arith)) (nothing a.out.now 0),
      omega arith,
      no_totals s a.low (a.low - a.low) (omega arith),
    )

pub added-sums-requires : goal.added-sums-requires
added-sums-requires c =
    let a = c.args in
    let P = c.requires in
    let l = c.loop-r in
    let n = c.row_numbers-row in
    totals_fit a.state.now a.low l.totals n.result l.r l.invariant.0 l.invariant.5 n.ensures P.0.holds a.high P.1 (omega arith)

pub loop-r-preserved : goal.loop-r-preserved
loop-r-preserved c =
    let a = c.args in
    let l = c.loop-r in
    let n = c.row_numbers-row in
    let v = c.row_line-at.ensures in
    let t = c.added-sums in (
      omega arith,
      omega arith,
      omega arith,
      spelled (lines_more a.state.now a.low l.r n.result l.invariant.0 n.ensures) (after l.invariant.3 v.0),
      omega (arith, l.invariant.4, v.1),
      totals_more a.state.now a.low l.totals n.result l.r l.invariant.0 l.invariant.5 n.ensures t.result t.ensures,
    )

pub returns : goal.returns
returns c =
    let a = c.args in
    let P = c.requires in
    let l = c.loop-r in
    let q = c.total_line.ensures in
    let e : l.r ≡ suc a.high = omega arith in (
      spelled (whole_page a.state.now a.low a.high l.r l.totals P.1 e l.invariant.5) (after l.invariant.3 q.0),
      omega (arith, q.1, l.invariant.4, P.1.few, e),
    )
