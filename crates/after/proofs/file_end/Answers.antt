use mathlib.Core.Path.{ap, ◌∙◌}
use Prim.Native.Nat.{◌+◌}
use lib.ListN.{drop}
use Rattle.definitions.specs.After.{line_length}
use Rattle.after.proofs.file_end.Goals as goal

pub returns : goal.returns
returns c =
    let s = c.args.input.now in
    (c.behind_line.ensures.0 ∙ ap (λ n. n + line_length (drop n s)) c.before_e-at.ensures.0, c.behind_line.ensures.1)
