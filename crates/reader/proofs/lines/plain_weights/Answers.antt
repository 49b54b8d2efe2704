use native.Mathlib.Omega.{arith}
use mathlib.Core.Path.{◌≡◌, refl, ap, ◌∙◌}
use Prim.Native.Nat.{◌*◌}
use lib.ListN.{set, replicate, length-set}
use Rattle.reader.specs.lines.Steps.{weights_words}
use Rattle.reader.proofs.lines.LineTests.{plain_more}
use Rattle.reader.proofs.lines.plain_weights.Goals as goal

pub loop-j-init : goal.loop-j-init
loop-j-init c = (omega arith, refl, refl)

pub loop-j-preserved : goal.loop-j-preserved
loop-j-preserved c =
    let l = c.loop-j in (
      omega arith,
      simp length-set l.invariant.1,
      ap (λ w. set w (2 * l.j) 1) l.invariant.2 ∙ plain_more l.j (omega arith),
    )

pub returns : goal.returns
returns c =
    let l = c.loop-j in let n = c.args.n in let e : l.j ≡ n = omega arith in
    l.invariant.2 ∙ ap (λ j. weights_words (replicate j (1, 0))) e
