use borrow.Author.Rules.{rules}
use mathlib.Core.Path.{ap, ◌∙◌}
use lib.ListN.{get_or}
use Rattle.definitions.specs.Field.{inverse}
use Rattle.laws.proofs.Modular.{prime_says}
use Rattle.level.proofs.by_runs.GroundOfLevel.{prime_at}
use Rattle.completing.proofs.adding.factor.Goals as goal

pub inverse-requires : goal.inverse-requires
inverse-requires c =
    let s = c.args.state.now in
    let b = c.requires.0 in
    (prime_says (get_or s 0 0) (prime_at s 0 b)).big

pub returns : goal.returns
returns c =
    let a = c.args in
    c.inverse.ensures ∙ ap (λ t. inverse (get_or a.state.now 0 0) t.0) c.row-t.ensures
