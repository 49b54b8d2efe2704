use native.Mathlib.Omega.{arith}
use Rattle.pages.proofs.bytes.Spelling.{spelled}
use Rattle.pages.proofs.lines.Lining.{label_below, label_above}
use Rattle.pages.proofs.lines.row_label.Goals as goal

pub negative_label-requires : goal.negative_label-requires
negative_label-requires c = (c.requires.0, omega arith)

pub returns-then-r-lt-ROW_SHIFT : goal.returns-then-r-lt-ROW_SHIFT
returns-then-r-lt-ROW_SHIFT c =
    let e = c.negative_label.ensures in
    (spelled (label_below c.args.r (omega arith)) e.0, e.1)

pub label-requires : goal.label-requires
label-requires c = (c.requires.0, omega arith)

pub returns : goal.returns
returns c =
    let e = c.label.ensures in
    (spelled (label_above c.args.r (omega arith)) e.0, e.1)
