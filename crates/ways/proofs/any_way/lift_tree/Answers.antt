use native.Mathlib.Omega.{arith}
use mathlib.Core.List.{[]}
use mathlib.Core.Path.{sym, ap, ◌∙◌, subst}
use Prim.Native.Nat.{◌-◌, ◌/◌, ◌≤◌}
use lib.ListN.{length}
use Rattle.definitions.specs.Lifting.{by_tree}
use Rattle.definitions.specs.Places.{row_length, lifted_length}
use Rattle.level.proofs.by_runs.OverGround.{usual_within}
use Rattle.level.specs.by_runs.Stages.{Within}
use Rattle.level.proofs.all_levels.Lifting.{way_settles, lifted_by}
use Rattle.ways.specs.by_tree.Over.{tree_over}
use Rattle.ways.proofs.any_way.lift_tree.Goals as goal

pub lift_level-x-requires : goal.lift_level-x-requires
lift_level-x-requires c =
    let P = c.requires in
    (P.0.base, P.2, P.1, subst Within (sym c.usual-b.ensures) usual_within)

pub store-requires : goal.store-requires
store-requires c =
    let a = c.args in
    let s = a.state.now in
    let P = c.requires in
    let L = c.lift_level-x in
    let long : lifted_length ≤ length L.new.out = omega (arith, P.2, L.auto.out) in
    let room = length a.cache.now / row_length in
    let e = L.ensures.0 ∙ ap (λ x. tree_over x s (a.k - 1) room) c.usual-b.ensures in
    (P.0, way_settles s a.k P.0 L.new.out long (by_tree room) 0 L.result [] e L.ensures.1)

pub returns : goal.returns
returns c =
    let a = c.args in
    let s = a.state.now in
    let P = c.requires in
    let L = c.lift_level-x in
    let long : lifted_length ≤ length L.new.out = omega (arith, P.2, L.auto.out) in
    let room = length a.cache.now / row_length in
    let e = L.ensures.0 ∙ ap (λ x. tree_over x s (a.k - 1) room) c.usual-b.ensures in
    let t = c.store in
    lifted_by s a.k P.0 (by_tree room) 0 L.new.out long L.result [] e L.ensures.1 t.result t.new.state t.ensures
