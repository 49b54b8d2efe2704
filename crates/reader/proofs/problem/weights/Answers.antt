use mathlib.Core.Path.{◌≡◌, refl, sym, ap, ◌∙◌}
use lib.ListN.{drop}
use Rattle.definitions.specs.Limits.{document_01}
use Rattle.definitions.specs.Monomial.{fits?}
use Rattle.definitions.specs.Problem.{head}
use Rattle.definitions.specs.Places.{most_weight}
use Rattle.words.specs.parameters.Values.{parameters_of}
use Rattle.words.specs.refusals.Numbers.{number_of}
use Rattle.reader.specs.problem.Reading.{head_weights}
use Rattle.reader.proofs.problem.HeadWeights.{weights_taken, weights_barred, weights_fit}
use Rattle.reader.proofs.problem.weights.Goals as goal

pub returns-in-Ok : goal.returns-in-Ok
returns-in-Ok c =
    let file = c.args.file.now in let h = c.in-Ok.head in
    let e : h.weights ≡ head_weights (head document_01 file) =
    weights_taken file ((parameters_of h.parameters, h.degrees, h.weights), h.place, drop h.next file) (sym c.in-Ok.ensures) in
    (e, ap (fits? most_weight) e ∙ weights_fit file)

pub returns-in-Err : goal.returns-in-Err
returns-in-Err c =
    let e = c.in-Err.field-0 in (weights_barred c.args.file.now (number_of e.refusal) e.place (sym c.in-Err.ensures), refl)
