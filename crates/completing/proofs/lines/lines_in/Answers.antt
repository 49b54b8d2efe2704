use borrow.Author.Rules.{rules}
use native.Mathlib.Omega.{arith}
use mathlib.Core.Path.{◌≡◌, refl, ap, ◌∙◌}
use Prim.Native.Nat.{◌+◌, ◌-◌, ◌≤◌}
use lib.Dec.{eqb}
use lib.ListN.{get_or, take}
use Rattle.definitions.specs.Lists.{count}
use Rattle.definitions.specs.Problem.{newline}
use Rattle.completing.proofs.lines.Lines.{one_ended, ends_one, ends_more}
use Rattle.completing.proofs.lines.lines_in.Goals as goal

pub loop-i-init : goal.loop-i-init
loop-i-init c = (omega arith, refl, omega arith)

pub overflow_add-k : goal.overflow_add-k
overflow_add-k c =
    let L = c.loop-i in
    let b = get_or c.args.file.now L.i 0 in
    let e = c.from-k.ensures ∙ one_ended b in
    omega (arith, L.invariant.2, e, ends_one b, c.requires)

pub loop-i-preserved : goal.loop-i-preserved
loop-i-preserved c =
    let L = c.loop-i in
    let a = c.args in
    let e = c.from-k.ensures ∙ one_ended (get_or a.file.now L.i 0) in (
      omega arith,
      (λ j. L.invariant.1 j + e j) ∙ ends_more a.file.now L.i (omega (arith, c.requires)),
      omega (arith, L.invariant.2, e, ends_one (get_or a.file.now L.i 0)),
    )

pub returns : goal.returns
returns c =
    let L = c.loop-i in
    let a = c.args in
    let e : L.i ≡ a.n = omega arith in
    (L.invariant.1 ∙ ap (λ i. count (λ b. eqb b newline) (take i a.file.now)) e, omega (arith, L.invariant.2, e))
