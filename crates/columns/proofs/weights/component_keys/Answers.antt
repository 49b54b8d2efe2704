use native.Mathlib.Omega.{arith}
use mathlib.Core.Path.{◌≡◌, refl, ap, ◌∙◌, subst}
use Prim.Native.Nat.{◌+◌, ◌*◌}
use native.Mathlib.Nat.{not-suc-le-zero}
use lib.ListN.{get_or, length-set}
use Rattle.definitions.specs.Limits.{document_01}
use Rattle.definitions.specs.Layout.{degrees_at}
use Rattle.definitions.specs.Places.{degrees_start, second_base}
use Rattle.lists.specs.Filling.{Filled, filled_more}
use Rattle.columns.specs.weights.Keys.{key_degrees}
use Rattle.columns.proofs.counting.Standing.{few_components}
use Rattle.columns.proofs.weights.Raising.{component_word, components_found}
use Rattle.columns.proofs.weights.component_keys.Goals as goal

pub loop-j-init : goal.loop-j-init
loop-j-init c = (omega arith, refl, λ k h. absurd (not-suc-le-zero h))

pub bounds-state-j : goal.bounds-state-j
bounds-state-j c =
    let s = c.args.state.now in
    let P = c.requires in
    omega (arith, few_components s P.0 P.1, c.place-s.ensures.0, P.0)

pub overflow_mul-keys : goal.overflow_mul-keys
overflow_mul-keys c = omega (arith, c.from.ensures, c.type_inv.state (degrees_start + c.loop-j.j))

pub bounds-keys-j : goal.bounds-keys-j
bounds-keys-j c =
    let s = c.args.state.now in
    let P = c.requires in
    omega (arith, few_components s P.0 P.1, c.place-s.ensures.0, P.2)

pub loop-j-preserved : goal.loop-j-preserved
loop-j-preserved c =
    let a = c.args in
    let P = c.requires in
    let l = c.loop-j in
    let e = c.place-s.ensures.0 in
    let d = degrees_at document_01 a.state.now in (
      omega arith,
      simp length-set l.invariant.1,
      filled_more (λ k. get_or (key_degrees d) k 0) l.j (c.from.result * second_base) l.keys
          (omega (arith, few_components a.state.now P.0 P.1, e, P.2))
          (ap (λ x. x * second_base) c.from.ensures ∙ component_word a.state.now P.0 P.1 l.j (omega (arith, e)))
          l.invariant.2,
    )

pub returns : goal.returns
returns c =
    let a = c.args in
    let P = c.requires in
    let l = c.loop-j in
    let p = c.place-s in
    let z : l.j ≡ p.result = omega arith in
    components_found a.state.now P.0 P.1 p.result l.keys p.ensures.0 (omega (arith, P.2, l.invariant.1))
    (subst (λ i. Filled (λ k. get_or (key_degrees (degrees_at document_01 a.state.now)) k 0) i l.keys) z l.invariant.2)
