use native.Mathlib.Omega.{arith}
use mathlib.Core.Path.{◌≡◌, refl, sym, ap, ◌∙◌, subst}
use Prim.Native.Nat.{suc, ◌+◌, ◌*◌, ◌≤◌}
use lib.ListN.{length, take}
use native.Mathlib.Nat.{not-suc-le-zero}
use Rattle.definitions.specs.Degrees.{degree_by}
use Rattle.definitions.specs.Layout.{row_at}
use Rattle.definitions.specs.Places.{row_length}
use Rattle.reducers.specs.tables.Cuts.{start_of, Weighed}
use Rattle.reducers.proofs.tables.Cutting.{start_fits}
use Rattle.state.proofs.degrees.Weights.{weights_end, weights_stop, weighed_more}
use Rattle.state.proofs.degrees.vectors_carry.Goals as goal

pub loop-j-init : goal.loop-j-init
loop-j-init c = (omega arith, refl, λ i h. absurd (not-suc-le-zero h))

pub degree_at-requires : goal.degree_at-requires
degree_at-requires c =
    let a = c.args in
    let l = c.loop-j in (
      subst (λ m. m * row_length + row_length ≤ length a.level.now) (sym l.invariant.1)
          (start_fits a.r a.level.now a.ends.now l.j c.requires.1 (omega arith)),
      c.requires.2,
    )

pub bounds-d-j : goal.bounds-d-j
bounds-d-j c = omega (arith, c.requires.0)

pub returns-then-degree_at-wider : goal.returns-then-degree_at-wider
returns-then-degree_at-wider c =
    let a = c.args in
    let p = c.requires in
    let l = c.loop-j in
    let m = take a.n a.below.now in
    weights_stop a.n a.below.now a.level.now a.ends.now a.r a.d.now p.1 p.0 l.j (omega arith)
    (λ e. c.if-degree_at-wider.true (c.degree_at.ensures ∙ ap (λ i. degree_by m (row_at a.level.now i).1) l.invariant.1 ∙ e ∙ sym
    c.wider.ensures.0))

pub bounds-ends-j : goal.bounds-ends-j
bounds-ends-j c = omega (arith, c.requires.1.ends_fit)

pub loop-j-preserved : goal.loop-j-preserved
loop-j-preserved c =
    let a = c.args in
    let l = c.loop-j in
    let m = take a.n a.below.now in
    let q = c.degree_at.ensures ∙ ap (λ i. degree_by m (row_at a.level.now i).1) l.invariant.1 in
    let z : l.j + 1 ≡ suc l.j = omega arith in (
      omega arith,
      c.place-from.ensures.0 ∙ ap (start_of a.ends.now) (sym z),
      weighed_more a.n a.below.now a.level.now a.ends.now l.j a.d.now l.invariant.2
          (sym c.wider.ensures.0 ∙ sym c.if-degree_at-wider.false ∙ q),
    )

pub returns : goal.returns
returns c =
    let a = c.args in
    let p = c.requires in
    let l = c.loop-j in
    let z : l.j ≡ a.r = omega arith in
    weights_end a.n a.below.now a.level.now a.ends.now a.r a.d.now p.1 p.0
    (subst (λ j. Weighed a.n a.below.now a.level.now a.ends.now j a.d.now) z l.invariant.2)
