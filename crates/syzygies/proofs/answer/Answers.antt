use Rattle.definitions.specs.Limits.{document_01}
use Rattle.definitions.specs.Sheet.{sheet}
use Rattle.definitions.specs.Places.{sheet_length}
use Rattle.lending.proofs.Front.{printed_in_front}
use Rattle.syzygies.proofs.answer.Goals as goal

pub returns-clause-prefix_len : goal.returns-clause-prefix_len
returns-clause-prefix_len c =
    let a = c.args in
    (printed_in_front a.state.now a.work.now a.out.now _ _ _ _ _ sheet_length (sheet document_01) a.file.now c.requires.0 c.requires.1 c.requires.2
    c.sheet-r.ensures).0

pub returns-clause-printed : goal.returns-clause-printed
returns-clause-printed c =
    let a = c.args in
    (printed_in_front a.state.now a.work.now a.out.now _ _ _ _ _ sheet_length (sheet document_01) a.file.now c.requires.0 c.requires.1 c.requires.2
    c.sheet-r.ensures).1
