use native.Mathlib.Omega.{arith}
use mathlib.Core.Path.{ap, ◌∙◌}
use mathlib.Core.List.{[], ◌∷◌}
use lib.Dec.{eqb}
use Rattle.definitions.specs.Sheet.{printed}
use Rattle.definitions.specs.Membership.{letter_M}
use Rattle.pages.proofs.bytes.Spelling.{after, spelled}
use Rattle.member_page.proofs.page.Lines.{one_of, m_line_is}
use Rattle.member_page.proofs.page.print_lines.Goals as goal

pub returns : goal.returns
returns c =
    let a =
    c.args in
    let asked =
    c.requires in
    let c-there =
    c.c_lines-a in
    let w-there = c.w_lines-b in
    let m = c.m_line in
    let e = ap (λ x. printed letter_M (x ∷ [])) (c.from.ensures ∙ one_of (eqb a.r 0)) ∙ m_line_is a.remainder.now a.r in (
      after c-there.ensures.0 (after w-there.ensures.0 (spelled e m.ensures.0)),
      omega (arith, asked.1, asked.2, c-there.ensures.1, w-there.ensures.1, m.ensures.1),
    )
