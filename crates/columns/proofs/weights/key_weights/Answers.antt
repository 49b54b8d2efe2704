use native.Mathlib.Omega.{arith}
use mathlib.Core.Path.{◌≡◌, refl, sym, ◌∙◌, subst}
use native.Mathlib.Nat.{not-suc-le-zero}
use lib.ListN.{length, get_or, length-set}
use Rattle.lists.specs.Filling.{Filled, filled_more, filled_list}
use Rattle.definitions.specs.Places.{weights_length}
use Rattle.columns.specs.weights.Keys.{key_weights, AtMost, most_key_weight}
use Rattle.columns.proofs.weights.Summing.{weights_low, length_key_weights}
use Rattle.columns.proofs.weights.key_weights.Goals as goal

pub loop-j-init : goal.loop-j-init
loop-j-init c = (omega arith, refl, λ k h. absurd (not-suc-le-zero h))

pub loop-j-preserved : goal.loop-j-preserved
loop-j-preserved c =
    let a = c.args in
    let l = c.loop-j in
    let w = c.weight_key in (
      omega arith,
      simp length-set l.invariant.1,
      filled_more (λ k. get_or (key_weights a.n a.ws) k 0) l.j w.result l.r (omega arith) w.ensures l.invariant.2,
    )

pub returns : goal.returns
returns c =
    let a = c.args in
    let P = c.requires in
    let l = c.loop-j in
    let all : length a.ws ≡ weights_length = omega arith in
    let n = length_key_weights a.n a.ws P.0 all in
    let j : l.j ≡ length (key_weights a.n a.ws) = omega (arith, n) in
    let e = filled_list (key_weights a.n a.ws) l.r (l.invariant.1 ∙ sym n)
    (subst (λ i. Filled (λ k. get_or (key_weights a.n a.ws) k 0) i l.r) j l.invariant.2) in
    (e, subst (AtMost most_key_weight) (sym e) (weights_low a.n a.ws P.1))
