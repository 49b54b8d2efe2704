use native.Mathlib.Omega.{arith}
use mathlib.Core.Path.{sym, ap, ◌∙◌}
use Rattle.reader.proofs.fields.Positions.{line_letter}
use Rattle.reader.specs.fields.Scanning.{in_sixteen}
use Rattle.reader.proofs.fields.line_at.Goals as goal

pub returns : goal.returns
returns c =
    let a = c.args in let file = a.file.now in c.numbers.ensures
    ∙ sym (ap in_sixteen (line_letter file a.at a.letter a.count (omega arith) (omega arith) (omega arith)))
