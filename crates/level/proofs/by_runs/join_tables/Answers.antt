use mathlib.Core.Path.{ap, ◌∙◌}
use lib.Seq.{paste}
use Rattle.definitions.specs.Places.{most_vectors, images_length}
use Rattle.definitions.specs.Places.{tables_above, tables_below, tables_ends}
use Rattle.level.proofs.by_runs.join_tables.Goals as goal

pub returns : goal.returns
returns c =
    let a =
    c.args in
    let copy2-there =
    c.copy-2 in
    let copy-there =
    c.copy in
    c.copy-4.ensures
    ∙ ap (λ z. paste z tables_above a.above.now images_length) (
    c.copy-3.ensures
    ∙ ap (λ z. paste z tables_below a.below.now images_length)
    (copy2-there.ensures
    ∙ ap (λ z. paste z tables_ends a.ends.now most_vectors)
    copy-there.ensures)
    )
