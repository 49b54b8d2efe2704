use native.Mathlib.Omega.{arith}
use mathlib.Core.Path.{◌≡◌, ◌∙◌}
use lib.ListN.{length}
use Rattle.definitions.specs.Places.{weights_length}
use Rattle.columns.proofs.weights.Summing.{weight_there, weight_past}
use Rattle.columns.proofs.weights.weight_key.Goals as goal

pub returns-then-n-j : goal.returns-then-n-j
returns-then-n-j c =
    let a = c.args in
    let all : length a.ws ≡ weights_length = omega arith in
    weight_past a.n a.ws c.requires all a.j c.if-n-j.true

pub returns : goal.returns
returns c =
    let a = c.args in
    let all : length a.ws ≡ weights_length = omega arith in
    c.pair_key.ensures ∙ weight_there a.n a.ws c.requires all a.j (omega arith)
