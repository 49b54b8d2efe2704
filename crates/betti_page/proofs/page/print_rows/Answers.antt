use native.Mathlib.Omega.{arith}
use mathlib.Core.Path.{◌≡◌, refl, ap}
use Prim.Native.Nat.{suc, ◌-◌, ◌*◌, ◌≤◌}
use lib.ListN.{length}
use Rattle.pages.specs.bytes.Printing.{Printed}
use Rattle.pages.proofs.bytes.Spelling.{nothing, after, spelled}
use Rattle.betti_page.specs.page.Rows.{lines_from}
use Rattle.betti_page.proofs.page.Lines.{no_rows_yet, lines_more}
use Rattle.betti_page.proofs.page.print_rows.Goals as goal

pub loop-r-init : goal.loop-r-init
loop-r-init c =
    let a = c.args in
    (omega arith, omega arith, refl, spelled (no_rows_yet a.state.now a.low (a.low - a.low) (omega arith)) (nothing a.out.now 0), omega arith)

pub loop-r-preserved : goal.loop-r-preserved
loop-r-preserved c =
    let a = c.args in
    let l = c.loop-r in
    let n = c.row_counts in
    let v = c.row_line-at.ensures in (
      omega arith,
      omega arith,
      omega arith,
      spelled (lines_more a.state.now a.low l.r n.result l.invariant.0 n.ensures) (after l.invariant.3 v.0),
      omega (arith, l.invariant.4, v.1),
    )

pub returns : goal.returns
returns c =
    let a = c.args in
    let l = c.loop-r in
    let e : l.r ≡ suc a.high = omega arith in
    (spelled (ap (λ i. lines_from a.state.now a.low (i - a.low)) e) l.invariant.3, omega (arith, l.invariant.4, e))
