use borrow.Author.Rules.{rules}
use native.Mathlib.Omega.{arith}
use mathlib.Core.Path.{ap, ◌∙◌}
use lib.ListN.{get_or}
use Rattle.definitions.specs.Layout.{rows}
use Rattle.definitions.specs.Written.{element_lines}
use Rattle.definitions.specs.Reckoning.{scaled}
use Rattle.laws.proofs.Modular.{prime_says}
use Rattle.pages.proofs.bytes.Spelling.{spelled}
use Rattle.level.proofs.by_runs.GroundOfLevel.{prime_at}
use Rattle.level.proofs.all_levels.Lifting.{few_variables}
use Rattle.completing.proofs.adding.Longer.{monic_rows}
use Rattle.completing.proofs.adding.value_lines.Goals as goal

pub factor-c-requires : goal.factor-c-requires
factor-c-requires c = let P = c.requires in (P.0, omega (arith, P.1))

pub element_lines-requires : goal.element_lines-requires
element_lines-requires c =
    let s = c.args.state.now in
    let P = c.requires in (
      omega (arith, c.place-n.ensures.0, few_variables s P.0.long P.0.holds),
      omega (arith, (prime_says (get_or s 0 0) (prime_at s 0 P.0)).big),
      omega (arith, P.1, P.2),
      omega (arith, P.3),
    )

pub returns : goal.returns
returns c =
    let a = (c).args in
    let s = a.state.now in
    let w = a.work.now in
    let L = c.element_lines.ensures in
    let n = c.place-n.ensures.0 in
    let k = c.factor-c.ensures in
    let e = ap (λ n. element_lines n a.element (scaled (get_or s 0 0) c.factor-c.result
    (rows w 0 a.m))) n
    ∙ ap (element_lines (get_or s 1 0) a.element) (monic_rows (get_or s 0 0) c.factor-c.result
    a.m w k) in
    (spelled e L.0, L.1)
