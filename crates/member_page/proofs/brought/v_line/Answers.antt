use mathlib.Core.Path.{◌≡◌, sym, ap, ◌∙◌}
use mathlib.Core.List.{◌∷◌}
use Prim.Native.Nat.{◌+◌}
use lib.ListN.{take, drop}
use mathlib.Core.Option.{some}
use Rattle.words.specs.parameters.Values.{parameters_of}
use Rattle.reader.specs.fields.Scanning.{kept, shaped_first, in_sixteen}
use Rattle.member_page.specs.brought.Lines.{fits?, tested, v_first}
use Rattle.member_page.proofs.brought.v_line.Goals as goal

pub returns : goal.returns
returns c =
    let a = c.args in
    let file = a.file.now in
    let q = parameters_of a.q in
    let line = c.in_ok-line.line in
    let w = c.with_element-numbers.ensures in
    let shown : kept (fits? q a.count a.before (0 ∷ take 15 line.numbers)) (some (0 ∷ take 15 line.numbers, drop line.next file))
    ≡ v_first q a.count a.before (drop a.at file) =
    ap (tested q a.count a.before)
    (c.in_ok-line.ensures ∙ ap (λ n. in_sixteen (shaped_first 65535 86 (2 + n) (drop a.at file))) c.from.ensures) in
    ap (λ z. some (z, drop line.next file)) w
    ∙ ap (λ b. kept b (some (0 ∷ take 15 line.numbers, drop line.next file)))
    (sym c.if-not-fits.false ∙ c.fits.ensures ∙ ap (fits? q a.count a.before) w) ∙ shown
