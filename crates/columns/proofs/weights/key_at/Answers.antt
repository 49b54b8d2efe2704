use native.Mathlib.Omega.{arith}
use mathlib.Core.Path.{sym, ap, ◌∙◌, subst}
use Prim.Native.Nat.{◌+◌}
use lib.ListN.{take}
use Rattle.definitions.specs.Monomial.{Term}
use Rattle.definitions.specs.Degrees.{component_degree}
use Rattle.definitions.specs.Bidegrees.{weighted}
use Rattle.definitions.specs.Places.{most_exponent}
use Rattle.columns.specs.weights.Keys.{AtMost, most_keys}
use Rattle.columns.proofs.weights.Summing.{component_most, unpack_most}
use Rattle.columns.proofs.weights.key_at.Goals as goal

pub key_of-w-requires : goal.key_of-w-requires
key_of-w-requires c =
    let x = c.row.result.monomial.exponents in
    (c.requires.2, subst (AtMost most_exponent) (sym c.widened.ensures) (unpack_most x))

pub overflow_add-result : goal.overflow_add-result
overflow_add-result c =
    let a = c.args in
    let low = c.requires.3 in
    let k = component_most most_keys (take a.n a.below.now) c.place.result low in
    omega (arith, c.key_of-w.ensures.1, c.component_key.ensures, k)

pub returns : goal.returns
returns c =
    let a = c.args in
    let e = c.row.ensures in
    let x = c.widened.ensures in
    let w = c.key_of-w.ensures.0 ∙ ap (weighted a.kw) x ∙ ap (λ (t : Term). weighted a.kw t.1.0) e in
    let k = c.component_key.ensures ∙ ap (component_degree (take a.n a.below.now)) (c.place.ensures.0 ∙ ap (λ (t : Term). t.1.1) e) in
    λ i. w i + k i
