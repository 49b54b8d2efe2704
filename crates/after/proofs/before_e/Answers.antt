use native.Mathlib.Omega.{arith}
use mathlib.Core.Path.{◌≡◌}
use mathlib.Core.Bool.{false}
use lib.Dec.{eqb}
use lib.ListN.{get_or}
use borrow.Author.Tests.{eq-eqb, ne_eqb}
use Rattle.definitions.specs.Lists.{◌and◌}
use Rattle.definitions.specs.Problem.{letter_E}
use Rattle.after.proofs.Cutting.{before_here, before_on, before_end}
use Rattle.after.proofs.before_e.Goals.{else-begins-via-then-begins+else-input-i-eq69, else-begins-via-else-begins}
use Rattle.after.proofs.before_e.Goals as goal

pub loop-i-init : goal.loop-i-init
loop-i-init c = omega arith

pub returns-then-input-i-eq69 : goal.returns-then-input-i-eq69
returns-then-input-i-eq69 c =
    let a = c.args in let l = c.loop-i in
    let e = before_here l.begins a.input.now l.i (omega arith) (λ i. c.if-begins.true i and eq-eqb _ letter_E c.if-input-i-eq69.true i) in
    (omega (arith, l.invariant, e), omega arith)

pub loop-i-preserved : goal.loop-i-preserved
loop-i-preserved c =
    let a = c.args in let l = c.loop-i in
    let n : (l.begins and eqb (get_or a.input.now l.i 0) letter_E) ≡ false = elim c.else-begins.branch [
      | else-begins-via-then-begins+else-input-i-eq69 w ↦ (λ i. w.if-begins.true i and ne_eqb _ letter_E w.if-input-i-eq69.false i)
      | else-begins-via-else-begins w ↦ (λ i. w.if-begins.false i and eqb (get_or a.input.now l.i 0) letter_E)
    ] in omega (arith, l.invariant, before_on l.begins a.input.now l.i (omega arith) n)

pub returns : goal.returns
returns c = let l = c.loop-i in (omega (arith, l.invariant, before_end l.begins c.args.input.now l.i (omega arith)), omega arith)
