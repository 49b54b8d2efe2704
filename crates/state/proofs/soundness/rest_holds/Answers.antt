use native.Mathlib.Omega.{arith}
use mathlib.Core.Path.{◌≡◌, refl, sym, ap, ◌∙◌}
use Prim.Native.Nat.{ℕ, ◌+◌, ◌-◌}
use mathlib.Core.Bool.{Bool}
use Rattle.definitions.specs.Lists.{◌and◌}
use Rattle.definitions.specs.Order.{greater?}
use Rattle.definitions.specs.Layout.{row_at}
use Rattle.orders.specs.Images.{key, compare_keys, table_of, table_order}
use Rattle.state.specs.soundness.Holding.{row_holds?, follows?}
use Rattle.state.proofs.soundness.Pointwise.{hold_on, hold_stops, hold_ends}
use Rattle.state.proofs.soundness.rest_holds.Goals as goal

pub image_at-before-requires : goal.image_at-before-requires
image_at-before-requires c = (omega arith, omega arith, c.requires.3)

pub loop-i-init : goal.loop-i-init
loop-i-init c =
    let a = c.args in
    let z : a.from + 1 - 1 ≡ a.from = omega arith in
    (omega arith, omega arith, c.image_at-before.ensures ∙ ap (λ k. key (table_of a.n a.table.now) (row_at a.level.now k).1) (sym z), refl)

pub image_at-image-requires : goal.image_at-image-requires
image_at-image-requires c = (omega arith, omega arith, c.requires.3)

pub returns-then-not-follows : goal.returns-then-not-follows
returns-then-not-follows c =
    let a = c.args in
    let l = c.loop-i in
    let T = table_of a.n a.table.now in
    let F : ℕ → Bool = follows? a.b (table_order a.code T) a.level.now in
    let e : c.follows.result ≡ F l.i = c.follows.ensures
    ∙ (λ j. row_holds? a.b a.level.now l.i and greater? (compare_keys a.code (l.invariant.2 j)
    (c.image_at-image.ensures j))) in
    sym (l.invariant.3 ∙ hold_stops F l.i a.to (omega arith) (sym e ∙ c.if-not-follows.true))

pub loop-i-preserved : goal.loop-i-preserved
loop-i-preserved c =
    let a = c.args in
    let l = c.loop-i in
    let T = table_of a.n a.table.now in
    let F : ℕ → Bool = follows? a.b (table_order a.code T) a.level.now in
    let e : c.follows.result ≡ F l.i = c.follows.ensures
    ∙ (λ j. row_holds? a.b a.level.now l.i and greater? (compare_keys a.code (l.invariant.2 j)
    (c.image_at-image.ensures j))) in
    let z : l.i + 1 - 1 ≡ l.i = omega arith in (
      omega arith,
      omega arith,
      c.image_at-image.ensures ∙ ap (λ k. key T (row_at a.level.now k).1) (sym z),
      l.invariant.3
          ∙ hold_on F l.i a.to (omega arith) (sym e ∙ c.if-not-follows.false),
    )

pub returns : goal.returns
returns c =
    let a = c.args in
    let l = c.loop-i in
    let T = table_of a.n a.table.now in
    let F : ℕ → Bool = follows? a.b (table_order a.code T) a.level.now in
    sym (l.invariant.3 ∙ hold_ends F l.i a.to (omega arith))
