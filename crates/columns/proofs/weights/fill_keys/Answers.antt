use native.Mathlib.Omega.{arith}
use mathlib.Core.Path.{◌≡◌, refl, sym, ap, ◌∙◌, subst}
use Prim.Native.Nat.{suc, ◌+◌, ◌*◌, ◌≤◌}
use native.Mathlib.Nat.{not-suc-le-zero}
use lib.ListN.{length, take, length-set}
use Rattle.definitions.specs.Bidegrees.{degree_weighted}
use Rattle.definitions.specs.Layout.{row_at}
use Rattle.definitions.specs.Places.{row_length}
use Rattle.lists.specs.Filling.{filled_more}
use Rattle.reducers.specs.tables.Cuts.{start_of}
use Rattle.reducers.proofs.tables.Cutting.{start_fits}
use Rattle.columns.specs.weights.Keys.{Weighed}
use Rattle.columns.proofs.weights.fill_keys.Goals as goal

pub loop-j-init : goal.loop-j-init
loop-j-init c = (omega arith, refl, refl, λ i h. absurd (not-suc-le-zero h))

pub key_at-requires : goal.key_at-requires
key_at-requires c =
    let a = c.args in
    let l = c.loop-j in
    let P = c.requires in (
      subst (λ m. m * row_length + row_length ≤ length a.level.now) (sym l.invariant.2)
          (start_fits a.r a.level.now a.ends.now l.j P.1 (omega arith)),
      P.2,
      P.3,
      P.4,
    )

pub loop-j-preserved : goal.loop-j-preserved
loop-j-preserved c =
    let a = c.args in
    let l = c.loop-j in
    let m = take a.n a.below.now in
    let q = c.key_at.ensures ∙ ap (λ i. degree_weighted a.kw m (row_at a.level.now i).1) l.invariant.2 in
    let z : l.j + 1 ≡ suc l.j = omega arith in (
      omega arith,
      simp length-set l.invariant.1,
      c.place-from.ensures.0 ∙ ap (start_of a.ends.now) (sym z),
      filled_more (λ j. degree_weighted a.kw m (row_at a.level.now (start_of a.ends.now j)).1) l.j c.key_at.result l.next
          (omega arith) q l.invariant.3,
    )

pub returns : goal.returns
returns c =
    let a = c.args in
    let l = c.loop-j in
    let z : l.j ≡ a.r = omega arith in
    subst (λ j. Weighed a.kw (take a.n a.below.now) a.level.now a.ends.now j l.next) z l.invariant.3
