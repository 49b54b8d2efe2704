use borrow.Author.Rules.{rules}
use native.Mathlib.Omega.{arith}
use mathlib.Core.Path.{refl, sym, subst}
use Prim.Native.Nat.{◌≤◌}
use lib.ListN.{length}
use Rattle.definitions.specs.Limits.{document_01}
use Rattle.definitions.specs.Lifting.{by_hybrid}
use Rattle.definitions.specs.Layout.{work_words, lifting_by}
use Rattle.definitions.specs.Places.{value_length, tree_length}
use Rattle.level.specs.all_levels.Level.{by_picks, by_leading, LiftedBy}
use Rattle.ways.specs.any_way.Ways.{way_of}
use Rattle.ways.proofs.any_way.lift_by.Goals as goal

pub lift_level-requires : goal.lift_level-requires
lift_level-requires c =
    let a = c.args in
    let P = c.requires in
    let h : value_length ≤ length a.work.now = subst (λ x. work_words document_01 (way_of x) ≤ length a.work.now) c.in-Division.is P.1 in
    (P.0, omega (arith, h), by_leading refl refl refl refl, search rules)

pub lift_level-requires-in-Hybrid : goal.lift_level-requires-in-Hybrid
lift_level-requires-in-Hybrid c =
    let P = c.requires in
    let r = c.room_of-room.ensures in
    (P.0, omega (arith, r), by_picks refl refl (omega (arith, r)), search rules)

pub lift_tree-requires : goal.lift_tree-requires
lift_tree-requires c =
    let a = c.args in
    let P = c.requires in
    let h : tree_length ≤ length a.work.now = subst (λ x. work_words document_01 (way_of x) ≤ length a.work.now) c.in-Tree.is P.1 in
    (P.0, h, search rules)

pub returns-in-Division : goal.returns-in-Division
returns-in-Division c =
    let a = c.args in
    let L = c.lift_level in
    subst (λ x. LiftedBy a.state.now a.k (lifting_by document_01 (way_of x) a.work.now a.cache.now) L.result L.new.state)
    (sym c.in-Division.is) L.ensures

pub returns-in-Hybrid : goal.returns-in-Hybrid
returns-in-Hybrid c =
    let a = c.args in
    let L = c.lift_level-in-Hybrid in
    let r = c.room_of-room.ensures in
    subst (λ x. LiftedBy a.state.now a.k (lifting_by document_01 (way_of x) a.work.now a.cache.now) L.result L.new.state)
    (sym c.in-Hybrid.is)
    (subst (λ x. LiftedBy a.state.now a.k (by_hybrid c.in-Hybrid.pick x) L.result L.new.state) r L.ensures)

pub returns-in-Tree : goal.returns-in-Tree
returns-in-Tree c =
    let a = c.args in
    let L = c.lift_tree in
    subst (λ x. LiftedBy a.state.now a.k (lifting_by document_01 (way_of x) a.work.now a.cache.now) L.result L.new.state)
    (sym c.in-Tree.is) L.ensures
