use borrow.Author.Rules.{rules}
use native.Mathlib.Omega.{arith}
use mathlib.Core.Path.{sym, ap}
use mathlib.Core.List.{◌∷◌, ◌++◌}
use Rattle.vectors.specs.terms.Rows.{term_of}
use Rattle.definitions.specs.Sheet.{decimal, term_fields}
use Rattle.pages.proofs.bytes.Spelling.{after, spelled}
use Rattle.listing.proofs.printing.Fields.{fields_listed}
use Rattle.completing.proofs.lines.t_line.Goals as goal

pub returns : goal.returns
returns c =
    let a = c.args in
    let b = c.byte-a.ensures in
    let w = c.word-b.ensures in
    let t = c.term-c.ensures in
    let z = c.byte.ensures in
    let e = ap (λ z. 84 ∷ 44 ∷ (decimal a.element ++ z)) (sym (fields_listed (term_fields a.n (term_of a.t)))) in (
      spelled e (after b (after w.0 (after t.0 z))),
      omega (arith, b.ends, w.1, t.1, z.ends),
    )
