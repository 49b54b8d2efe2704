use native.Mathlib.Omega.{arith}
use mathlib.Core.Path.{◌≡◌, refl}
use Prim.Native.Nat.{◌-◌, ◌*◌, ◌≤◌}
use lib.ListN.{length}
use Rattle.pages.specs.bytes.Printing.{Printed}
use Rattle.pages.proofs.bytes.Spelling.{nothing, after, spelled}
use Rattle.hilbert_page.specs.page.Lines.{lines_below}
use Rattle.hilbert_page.proofs.page.Lines.{no_lines, lines_more, all_lines}
use Rattle.hilbert_page.proofs.page.print_lines.Goals as goal

pub loop-d-init : goal.loop-d-init
loop-d-init c =
    let a = c.args in
    (omega arith, refl, spelled (no_lines a.state.now) (nothing a.out.now 0), omega arith)

pub loop-d-preserved : goal.loop-d-preserved
loop-d-preserved c =
    let a = c.args in
    let l = c.loop-d in
    let v = c.print_line-at.ensures in
    (omega arith, omega arith, spelled (lines_more a.state.now l.d) (after l.invariant.2 v.0), omega (arith, l.invariant.3, v.1))

pub returns : goal.returns
returns c =
    let a = c.args in
    let l = c.loop-d in
    let e : l.d ≡ 33 = omega arith in
    (spelled (all_lines a.state.now l.d e) l.invariant.2, omega (arith, l.invariant.3))
