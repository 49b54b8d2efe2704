use native.Mathlib.Omega.{arith}
use mathlib.Core.Path.{◌≡◌, refl, sym, ap, ◌∙◌, subst}
use lib.Dec.{T}
use Rattle.laws.proofs.Tests.{is_true, true_is}
use Rattle.definitions.specs.Limits.{document_01}
use Rattle.definitions.specs.Layout.{levels_at}
use Rattle.orders.specs.Images.{table_of, Tabled}
use Rattle.orders.specs.Levels.{images}
use Rattle.state.specs.soundness.Holding.{level_test?, levels_hold?}
use Rattle.state.proofs.soundness.TablesGrow.{test_cut, ready_none, ready_more, ready_tabled}
use Rattle.state.proofs.soundness.LevelByLevel.{own_test?, climb_one, climb_fails}
use Rattle.state.proofs.soundness.levels_hold.Goals as goal

pub loop-k-init : goal.loop-k-init
loop-k-init c = (omega arith, refl, refl, tt, ready_none c.args.state.now c.args.above.now)

pub level_test-requires : goal.level_test-requires
level_test-requires c =
    let l = c.loop-k in (
      omega arith,
      omega arith,
      omega (arith, c.count_under-n.ensures, l.invariant.4.few),
      subst (λ n. Tabled n l.above) (sym c.count_under-n.ensures)
          (ready_tabled c.args.state.now l.k l.above (omega arith) l.invariant.4),
    )

pub returns-then-not-level_test : goal.returns-then-not-level_test
returns-then-not-level_test c =
    let a = c.args in
    let l = c.loop-k in
    let s = a.state.now in
    let own : c.level_test.result ≡ own_test? s l.k = c.level_test.ensures
    ∙ ap (level_test? s l.k) (ap (λ n. table_of n l.above) c.count_under-n.ensures ∙ l.invariant.4.made) in
    sym (climb_fails s a.h l.k (omega arith) (sym own ∙ c.if-not-level_test.true))

pub advance-requires : goal.advance-requires
advance-requires c =
    let a = c.args in
    let l = c.loop-k in
    let s = a.state.now in
    let own : c.level_test.result ≡ own_test? s l.k = c.level_test.ensures
    ∙ ap (level_test? s l.k) (ap (λ n. table_of n l.above) c.count_under-n.ensures
    ∙ l.invariant.4.made) in
    let u : T (own_test? s l.k) = is_true (sym own ∙ c.if-not-level_test.false) in
    let cut = test_cut s c.requires.0 l.k (images (levels_at document_01 s l.k)) (omega arith) u in
    (omega arith, omega arith, omega arith, omega arith, l.invariant.4.few, cut.0, cut.1, ready_tabled s l.k l.above (omega arith) l.invariant.4)

pub loop-k-preserved : goal.loop-k-preserved
loop-k-preserved c =
    let a = c.args in
    let l = c.loop-k in
    let s = a.state.now in
    let own : c.level_test.result ≡ own_test? s l.k = c.level_test.ensures
    ∙ ap (level_test? s l.k) (ap (λ n. table_of n l.above) c.count_under-n.ensures ∙ l.invariant.4.made) in
    let u : T (own_test? s l.k) = is_true (sym own ∙ c.if-not-level_test.false) in
    let cut = test_cut s c.requires.0 l.k (images (levels_at document_01 s l.k)) (omega arith) u in (
      omega arith,
      omega arith,
      omega arith,
      climb_one s l.k l.invariant.3 u,
      ready_more s l.k l.above c.advance.new.below c.advance.new.above
          cut.0 l.invariant.4 c.advance.ensures,
    )

pub returns : goal.returns
returns c =
    let l = c.loop-k in
    let z : l.k ≡ c.args.h = omega arith in
    sym (true_is (levels_hold? c.args.state.now c.args.h)
    (subst (λ n. T (levels_hold? c.args.state.now n)) z l.invariant.3))
