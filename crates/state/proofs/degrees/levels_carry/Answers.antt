use native.Mathlib.Omega.{arith}
use mathlib.Core.Path.{◌≡◌, sym, ◌∙◌, subst}
use lib.Dec.{T}
use Rattle.definitions.specs.Limits.{document_01}
use Rattle.definitions.specs.Layout.{levels_at}
use Rattle.orders.specs.Levels.{images}
use Rattle.laws.proofs.Tests.{is_true, true_is}
use Rattle.state.specs.degrees.Carrying.{levels_carry?}
use Rattle.state.proofs.soundness.TablesGrow.{test_cut}
use Rattle.state.proofs.soundness.LevelByLevel.{climbed}
use Rattle.state.proofs.degrees.Carried.{components_held, carry_one, carry_fails}
use Rattle.state.proofs.degrees.levels_carry.Goals as goal

pub loop-k-init : goal.loop-k-init
loop-k-init c = (omega arith, tt)

pub level_carries-requires : goal.level_carries-requires
level_carries-requires c =
    let a = c.args in
    let p = c.requires in
    let s = a.state.now in
    let l = c.loop-k in
    let own = climbed s a.h p.3 in
    let cut = test_cut s p.0 l.k (images (levels_at document_01 s l.k)) (omega arith) (own l.k (omega arith)) in
    (omega arith, omega arith, cut.0, components_held s p.0 a.h p.1 p.3 p.2 l.k (omega arith), cut.1)

pub returns-then-not-level_carries : goal.returns-then-not-level_carries
returns-then-not-level_carries c =
    let a = c.args in
    let l = c.loop-k in
    sym (carry_fails a.state.now a.h l.k (omega arith)
    (sym c.level_carries.ensures ∙ c.if-not-level_carries.true))

pub loop-k-preserved : goal.loop-k-preserved
loop-k-preserved c =
    let a = c.args in
    let l = c.loop-k in (
      omega arith,
      carry_one a.state.now l.k l.invariant.1
          (is_true (sym c.level_carries.ensures ∙ c.if-not-level_carries.false)),
    )

pub returns : goal.returns
returns c =
    let a = c.args in
    let l = c.loop-k in
    let z : l.k ≡ a.h = omega arith in
    sym (true_is (levels_carry? a.state.now a.h) (subst (λ n. T (levels_carry? a.state.now n)) z l.invariant.1))
