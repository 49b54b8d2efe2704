use native.Mathlib.Omega.{arith}
use mathlib.Core.Path.{ap, ◌∙◌}
use Prim.Native.Nat.{◌*◌}
use lib.ListN.{length, take, drop, length-drop}
use Rattle.definitions.specs.Lists.{sum}
use Rattle.definitions.specs.Minimal.{of_degree}
use Rattle.definitions.specs.Places.{most_vectors}
use Rattle.state.proofs.soundness.VectorByVector.{whole_part}
use Rattle.minimal_page.proofs.numbers.Marking.{column_marked, none_marked}
use Rattle.minimal_page.proofs.numbers.marked.Goals as goal

pub returns-then-c-eq-PAGE_COLUMNS : goal.returns-then-c-eq-PAGE_COLUMNS
returns-then-c-eq-PAGE_COLUMNS c =
    let a = c.args in
    (none_marked a.state.now a.marks.now c.requires.0 a.t a.c c.if-c-eq-PAGE_COLUMNS.true, omega arith)

pub count_marked-requires : goal.count_marked-requires
count_marked-requires c =
    let a = c.args in
    let m = a.marks.now in
    let P = c.requires in
    let few = c.column.ensures.1 in
    let inside = c.if-c-eq-PAGE_COLUMNS.false in
    (omega (arith, ap length (whole_part (a.c * most_vectors) m), length-drop (a.c * most_vectors) m, few, P.0.room, P.1, inside), few)

pub returns : goal.returns
returns c =
    let a = c.args in
    let m = a.marks.now in
    let P = c.requires in
    let q = c.count_marked.ensures in
    let e = c.column.ensures.0 in (
      q.0 ∙ (λ i. sum (of_degree a.t (e i) (take (length (e i)) (whole_part (a.c * most_vectors) m i))))
          ∙ column_marked a.state.now m P.0 a.t a.c (omega (arith, P.1, c.if-c-eq-PAGE_COLUMNS.false)),
      q.1,
    )
