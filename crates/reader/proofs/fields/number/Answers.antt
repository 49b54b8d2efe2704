use mathlib.Core.Path.{◌≡◌, sym, ap, ◌∙◌}
use mathlib.Core.Option.{some}
use lib.ListN.{get_or}
use Rattle.reader.specs.fields.Scanning.{digit_value}
use Rattle.reader.proofs.fields.Positions.{first_on}
use Rattle.reader.proofs.fields.number.Goals as goal

pub returns : goal.returns
returns c =
    let a = c.args in let b = c.in_ok-b.ensures.lookup.3 in
    let here : some c.in_ok-d.d ≡ digit_value (get_or a.file.now a.at 0) = c.in_ok-d.ensures ∙ ap digit_value (b.1 0) in
    c.number_on.ensures ∙ sym (first_on a.file.now a.at b.0 c.in_ok-d.d here c.if-d-eq0.false)
