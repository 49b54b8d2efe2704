use mathlib.Core.List.{[]}
use mathlib.Core.Path.{◌≡◌, sym, subst}
use Rattle.level.specs.by_runs.Stages.{leveled_of}
use Rattle.level.specs.all_levels.Level.{Settles, state_over, stored, told}
use Rattle.level.proofs.all_levels.Lifting.{refused_words}
use Rattle.level.proofs.all_levels.store.Goals as goal

pub store_lifted-requires : goal.store_lifted-requires
store_lifted-requires c =
    let a = c.args in
    (c.requires.0, subst (λ y. Settles a.state.now a.k y a.out.now) c.in-Ok.is c.requires.1)

pub returns-in-Ok : goal.returns-in-Ok
returns-in-Ok c =
    let a = c.args in
    let s = a.state.now in
    let t = c.store_lifted in
    subst (λ y. told t.result t.new.state ≡ stored s (state_over s a.k (leveled_of y a.out.now []))) (sym c.in-Ok.is) t.ensures

pub returns-in-Err : goal.returns-in-Err
returns-in-Err c =
    let a = c.args in
    refused_words a.state.now a.k c.requires.0 a.x c.in-Err.refusal a.out.now c.in-Err.is
