use native.Mathlib.Omega.{arith}
use mathlib.Core.Path.{ap, ◌∙◌}
use lib.ListN.{get_or}
use Rattle.definitions.specs.Limits.{document_01}
use Rattle.definitions.specs.Layout.{degrees_at, level_at}
use Rattle.definitions.specs.Betti.{first_mixed}
use Rattle.columns.specs.mixed.Placed.{same_key?}
use Rattle.columns.specs.weights.Keys.{key_weights, key_degrees}
use Rattle.columns.proofs.mixed.Alike.{bidegrees_alike}
use Rattle.columns.proofs.weights.Raising.{few_variables}
use Rattle.columns.proofs.mixed.first_mixed_by.Goals as goal

pub key_weights-requires : goal.key_weights-requires
key_weights-requires c =
    let P = c.requires in
    (omega (arith, few_variables c.args.state.now P.0 P.1, c.place-n.ensures.0), P.2)

pub returns : goal.returns
returns c =
    let a = c.args in
    let s = a.state.now in
    let d = degrees_at document_01 s in
    let w = c.key_weights.ensures.0 ∙ ap (λ n. key_weights n a.ws) c.place-n.ensures.0 in
    c.first_by_keys.ensures ∙ ap (λ kw. first_mixed (same_key? kw (key_degrees d)) 1 (level_at document_01 s 0)) w
    ∙ bidegrees_alike s 0 (get_or s 1 0) a.ws d c.requires.2
