use native.Mathlib.Omega.{arith}
use mathlib.Core.Path.{◌≡◌, refl, sym, ap, ◌∙◌, subst}
use mathlib.Core.List.{[]}
use Prim.Native.Nat.{ℕ, suc, ◌-◌, ◌≤◌}
use lib.ListN.{length, get_or}
use Rattle.testing.specs.Lifts.{lifted_within}
use Rattle.testing.proofs.LevelCall.{hybrid_within}
use Rattle.level.specs.by_runs.Stages.{limits_with, leveled_of, StoredAs}
use Rattle.ways.specs.any_way.Ways.{way_of}
use Rattle.definitions.specs.Lifting.{by_hybrid, lift_level}
use Rattle.definitions.specs.Layout.{Words, work_words, levels_at}
use Rattle.definitions.specs.Limits.{document_01}
use Rattle.definitions.specs.Places.{value_length, tree_length}
use Rattle.testing.proofs.within_limits.lift_by.Goals as goal

pub lift_level-requires : goal.lift_level-requires
lift_level-requires c =
    let a = c.args in
    let s = a.state.now in
    let P = c.requires in
    let h : value_length ≤ length a.work.now = subst (λ x. work_words document_01 (way_of x) ≤ length a.work.now)
    c.in-Division.is P.4 in
    (P.0, omega (arith, P.3), omega (arith, h, P.5.working), P.5, refl)

pub lift_level-requires-in-Hybrid : goal.lift_level-requires-in-Hybrid
lift_level-requires-in-Hybrid c =
    let P = c.requires in
    let r = c.room_of.ensures in (
      P.0,
      omega (arith, P.3),
      omega (arith, r),
      record {
        working = omega (arith, r, P.5.working);
        vector = P.5.vector;
        filled = P.5.filled;
        tree = P.5.tree;
        room = P.5.room;
      },
      refl,
    )

pub lift_level-requires-in-Tree : goal.lift_level-requires-in-Tree
lift_level-requires-in-Tree c =
    let a = c.args in
    let s = a.state.now in
    let P = c.requires in
    let h : tree_length ≤ length a.work.now = subst (λ x. work_words document_01 (way_of x) ≤ length a.work.now)
    c.in-Tree.is P.4 in
    (P.0, P.3, h, P.5)

pub returns-in-Division : goal.returns-in-Division
returns-in-Division c =
    let a =
    c.args in
    let P =
    c.requires in
    let s = a.state.now in
    let L = c.lift_level in
    subst (λ x. ((n : ℕ) × (v : Words) × (leveled_of L.result L.new.out v ≡ lifted_within a.b s a.k (way_of x) a.work.now a.cache.now n))
    × StoredAs L.result L.new.out) (sym c.in-Division.is)
    (L.ensures.0, L.ensures.1)

pub returns-in-Hybrid : goal.returns-in-Hybrid
returns-in-Hybrid c =
    let a = c.args in
    let r = c.room_of in
    let s = a.state.now in
    let L = c.lift_level-in-Hybrid in
    let pick = c.in-Hybrid.pick in
    let n = L.ensures.0.0 in
    let below = levels_at document_01 s (suc (a.k - 1)) in
    let e =
    L.ensures.0.2
    ∙ hybrid_within a.b s a.k pick r.result n
    ∙ ap (λ x. lift_level (limits_with a.b) (get_or s 0 0) (get_or s 2 0) below (by_hybrid pick x) n) r.ensures in
    subst (λ x. ((n : ℕ) × (v : Words)
    × (leveled_of L.result L.new.out v ≡ lifted_within a.b s a.k (way_of x) a.work.now a.cache.now n))
    × StoredAs L.result L.new.out) (sym c.in-Hybrid.is) ((n, L.ensures.0.1, e), L.ensures.1)

pub returns-in-Tree : goal.returns-in-Tree
returns-in-Tree c =
    let a =
    c.args in
    let P =
    c.requires in
    let s = a.state.now in
    let L = c.lift_level-in-Tree in
    subst (λ x. ((n : ℕ) × (v : Words) × (leveled_of L.result L.new.out v ≡ lifted_within a.b s a.k (way_of x) a.work.now a.cache.now n))
    × StoredAs L.result L.new.out)
    (sym c.in-Tree.is)
    ((0, [], L.ensures.0), L.ensures.1)
