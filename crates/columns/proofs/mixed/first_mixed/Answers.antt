use mathlib.Core.Path.{◌∙◌}
use Rattle.definitions.specs.Limits.{document_01}
use Rattle.definitions.specs.Layout.{degrees_at}
use Rattle.columns.proofs.mixed.Alike.{plain_low, degrees_alike}
use Rattle.columns.proofs.mixed.first_mixed.Goals as goal

pub first_by_keys-requires : goal.first_by_keys-requires
first_by_keys-requires c = (c.requires.0, c.requires.1, plain_low)

pub returns : goal.returns
returns c =
    let s = c.args.state.now in
    c.first_by_keys.ensures ∙ degrees_alike s 0 (degrees_at document_01 s)
