use Rattle.definitions.specs.Layout.{rows}
use Rattle.pages.proofs.bytes.Spelling.{spelled}
use Rattle.member_page.proofs.page.Lines.{c_lines_are}
use Rattle.member_page.proofs.page.c_lines.Goals as goal

pub returns : goal.returns
returns c =
    let a = c.args in
    let t = c.term_lines in
    (spelled (c_lines_are a.n (rows a.s.now 0 a.m)) t.ensures.0, t.ensures.1)
