use native.Mathlib.Omega.{arith}
use mathlib.Core.Path.{◌≡◌, sym, ◌∙◌}
use mathlib.Core.Bool.{true}
use borrow.Author.Tests.{eq-eqb}
use Rattle.definitions.specs.Limits.{document_01}
use Rattle.definitions.specs.Problem.{term_in_range?}
use Rattle.words.specs.parameters.Values.{parameters_of}
use Rattle.reader.specs.lines.Tests.{term_in}
use Rattle.member_page.proofs.brought.VLines.{fits_first}
use Rattle.member_page.proofs.brought.fits.Goals.{then-count-lt-MOST_TERMS, else-count-lt-MOST_TERMS}
use Rattle.member_page.proofs.brought.fits.Goals as goal

pub returns-then-count-eq0 : goal.returns-then-count-eq0
returns-then-count-eq0 c =
    let a = c.args in
    let q = parameters_of a.q in
    elim c.if-count-lt-MOST_TERMS.branch [
      | then-count-lt-MOST_TERMS w ↦
          let e : term_in_range? document_01 q (term_in a.w) ≡ true = cc in
          eq-eqb a.count 0 c.if-count-eq0.true ∙ sym (fits_first q a.count a.before a.w e c.if-count-eq0.true)
      | else-count-lt-MOST_TERMS w ↦ absurd (omega arith)
    ]
