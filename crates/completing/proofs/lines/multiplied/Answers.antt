use borrow.Author.Rules.{rules}
use mathlib.Core.Path.{ap}
use Rattle.vectors.specs.terms.Rows.{term_of}
use Rattle.completing.proofs.lines.multiplied.Goals as goal

pub returns : goal.returns
returns c = let a = c.args in ap (λ x. (x, (term_of a.t).1)) c.times.ensures
