use native.Mathlib.Omega.{arith}
use mathlib.Core.Path.{◌≡◌, refl, sym, ◌∙◌}
use Prim.Native.Nat.{◌+◌}
use lib.ListN.{length, take, drop, get_or}
use lib.ListN.{length-drop}
use lib.Seq.{length-take-le, get_or-take, get_or-drop}
use borrow.Author.Tests.{le-leb, lt-leb}
use Rattle.definitions.specs.Places.{most_degree, degrees_start}
use Rattle.state.proofs.degrees.Weights.{fits_on, fits_stop, fits_end}
use Rattle.state.proofs.degrees.degrees_fit.Goals as goal

pub loop-j-init : goal.loop-j-init
loop-j-init c = (omega arith, refl)

pub returns-then-state-j-gt-MOST_DEGREE : goal.returns-then-state-j-gt-MOST_DEGREE
returns-then-state-j-gt-MOST_DEGREE c =
    let a = c.args in
    let l = c.loop-j in
    let L = take a.s (drop degrees_start a.state.now) in
    let n : length L ≡ a.s = length-take-le a.s (drop degrees_start a.state.now) (omega (arith, length-drop degrees_start a.state.now)) in
    let q : get_or L l.j 0 ≡ get_or a.state.now (degrees_start + l.j) 0 = get_or-take a.s (drop degrees_start a.state.now) l.j 0 (omega arith)
    ∙ get_or-drop degrees_start a.state.now l.j 0 in
    sym (l.invariant.1 ∙ fits_stop most_degree L l.j (omega arith) (lt-leb (get_or L l.j 0) most_degree (omega (arith, q, c.if-state-j-gt-MOST_DEGREE.true))))

pub loop-j-preserved : goal.loop-j-preserved
loop-j-preserved c =
    let a = c.args in
    let l = c.loop-j in
    let L = take a.s (drop degrees_start a.state.now) in
    let n : length L ≡ a.s = length-take-le a.s (drop degrees_start a.state.now) (omega (arith, length-drop degrees_start a.state.now)) in
    let q : get_or L l.j 0 ≡ get_or a.state.now (degrees_start + l.j) 0 = get_or-take a.s (drop degrees_start a.state.now) l.j 0 (omega arith)
    ∙ get_or-drop degrees_start a.state.now l.j 0 in (
      omega arith,
      l.invariant.1 ∙ fits_on most_degree L l.j (omega arith)
          (le-leb (get_or L l.j 0) most_degree (omega (arith, q, c.if-state-j-gt-MOST_DEGREE.false))),
    )

pub returns : goal.returns
returns c =
    let a = c.args in
    let l = c.loop-j in
    let L = take a.s (drop degrees_start a.state.now) in
    let n : length L ≡ a.s = length-take-le a.s (drop degrees_start a.state.now) (omega (arith, length-drop degrees_start a.state.now)) in
    sym (l.invariant.1 ∙ fits_end most_degree L l.j (omega arith))
